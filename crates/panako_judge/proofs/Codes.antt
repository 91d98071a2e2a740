-- The word of a vote is read again. Assumes nothing.
use mathlib.Core.Path.{◌≡◌, refl, ap, ◌∙◌}
use Prim.Native.Nat.{ℕ, ◌+◌, ◌-◌, ◌*◌, ◌^◌, ◌<◌}
use native.Mathlib.Omega.{arith}
use native.Mathlib.Decide.{dec_lt}
use lib.IntN.{pos, ◌-ℤ◌}
use Rattle.bins.specs.Votes.{above}
use Rattle.bins.specs.Codes.{code_in}
use Rattle.panako_vote.specs.Votes.{InRange}
use Rattle.panako_vote.specs.declared.Vote.{Vote}
use Rattle.panako_vote.specs.Words.{code_of, vote_of_code, lowest, word_of}
use Rattle.panako_vote.proofs.Words.{less-below, less-from, code-small, vote-back}
use Rattle.panako_judge.specs.Candidates.{panako_form, recording_of, vote_in}

above-packed : (n : ℕ) → above lowest (pos n -ℤ pos lowest) ≡ n
above-packed n = go (dec_lt n lowest)
  where
    go : Dec (n < lowest) → above lowest (pos n -ℤ pos lowest) ≡ n
    go (yes h) = rw (less-below n lowest (lowest - 1 - n) h refl) (omega arith)
    go (no h) = rw (less-from n lowest (omega arith)) (omega arith)

module _ (id : ℕ) (v : Vote) (low : v.bin < 2 ^ 12) (near : InRange v.offset) where
  pub packed-recording : recording_of (word_of id v) ≡ id
  packed-recording = omega (arith, above-packed (id * 2 ^ 52 + code_of v), code-small v low near)

  packed-code : code_in panako_form (word_of id v) ≡ code_of v
  packed-code = omega (arith, above-packed (id * 2 ^ 52 + code_of v), code-small v low near)

  pub packed-vote : vote_in (word_of id v) ≡ v
  packed-vote = ap vote_of_code packed-code ∙ vote-back v low near
