-- The marks are those of the votes before `vote`.
use Rattle.std.proofs.Common.{◌≡◌, ℕ, ◌<◌, length, get_or}
use Rattle.bins.specs.Votes.{places, positions}
use Rattle.bins.specs.Distinct.{marked}
use Rattle.bins.proofs.mark.Given as goal

abbrev pub invariant-loop-vote : goal.invariant-loop-vote
invariant-loop-vote l = (length l.seen ≡ 2048) × ((i : ℕ) → i < 2048 → get_or l.seen i 0 ≡ marked l.tol l.x (places l.votes 0) (positions l.votes 0) l.vote-index i)
