-- Laws of Wang votes as words: what is packed is read again. Assumes nothing.
use mathlib.Core.Path.{◌≡◌}
use Prim.Native.Nat.{ℕ, ◌^◌, ◌<◌}
use native.Mathlib.Omega.{arith}
use lib.IntN.{pos}
use Rattle.bins.specs.Votes.{packed, recording_of, place_of, position_of}

module _ (id place position : ℕ) (h : place < 2 ^ 33) (k : position < 2 ^ 11) where
  pub packed-recording : recording_of (pos (packed id place position)) ≡ id
  packed-recording = omega arith

  pub packed-place : place_of (pos (packed id place position)) ≡ place
  packed-place = omega arith

  pub packed-position : position_of (pos (packed id place position)) ≡ position
  packed-position = omega arith
