-- `TimeOffset` by its parts, where the rate is one and where it is none. Assumes nothing.
use Rattle.std.proofs.Common.{◌≡◌, true, false, ℤ, pos, ap, ◌∙◌}
use lib.Ieee.{Float}
use lib.Ieee.Positive.{positive}
use Rattle.floats.specs.Rounding.{round_to_i64}
use Rattle.matching.specs.declared.TimeOffset.{TimeOffset}
use Rattle.std.specs.Prelude.{Some, None}
use Rattle.matching.specs.Offsets.{unrounded, millis, in_i64, from_frames, try_from_frames}

-- the record with these frames and milliseconds
pub both : (frames frames' ms ms' : ℤ) → frames ≡ frames' → ms ≡ ms' → ◌≡◌ {A = TimeOffset} (record { frames = frames; ms = ms }) (record { frames = frames'; ms = ms' })
both frames frames' ms ms' p q = λ i. record { frames = p i; ms = q i }

-- what is rounded of so many frames, the number having gone through a local
pub rounded : {frames word ms : ℤ} {x : Float} (rate : Float) → word ≡ frames → ms ≡ round_to_i64 x → x ≡ unrounded word rate → ms ≡ round_to_i64 (unrounded frames rate)
rounded rate e h k = h ∙ ap round_to_i64 (k ∙ ap (λ z. unrounded z rate) e)

module _ (frames : ℤ) (rate : Float) where
  pub at-rate : positive rate ≡ true → round_to_i64 (unrounded frames rate) ≡ millis frames rate
  unfolding millis
  at-rate p = rw p

  pub at_none : positive rate ≡ false → pos 0 ≡ millis frames rate
  unfolding millis
  at_none p = rw p

  pub tried : (t : TimeOffset) → positive rate ≡ true → in_i64 (unrounded frames rate) ≡ true → t ≡ from_frames frames rate → Some t ≡ try_from_frames frames rate
  unfolding try_from_frames
  tried t p q e = rw (p, q) (ap Some e)

  pub tried-no-rate : positive rate ≡ false → None ≡ try_from_frames frames rate
  unfolding try_from_frames
  tried-no-rate p = rw p

  pub tried-beyond : positive rate ≡ true → in_i64 (unrounded frames rate) ≡ false → None ≡ try_from_frames frames rate
  unfolding try_from_frames
  tried-beyond p q = rw (p, q)
