-- The votes of the scheme have codes of 52 bits, from which they are read again. Assumes nothing.
use mathlib.Core.Path.{◌≡◌}
use mathlib.Core.Bool.{false}
use Prim.Native.Nat.{ℕ, ◌-◌, ◌^◌, ◌≤◌, ◌<◌}
use native.Mathlib.Omega.{arith}
use Rattle.lists.specs.Lists.{All}
use Rattle.lists.proofs.Tests.{test}
use Rattle.model.specs.Fingerprints.{Hash}
use Rattle.model.specs.Rows.{anchor}
use Rattle.panako_vote.specs.Settings.{within_limits, Accepted}
use Rattle.panako_vote.specs.Votes.{pair_vote, InRange, Bounded}
use Rattle.std.specs.Prelude.{Option, Some, None}
use Rattle.panako_vote.proofs.Limits.{accepted}
use Rattle.panako_vote.proofs.Bounds.{pair-bounded}
use Rattle.panako_vote.specs.declared.Vote.{Vote}
use Rattle.panako_vote.specs.Words.{as_list}
use Rattle.panako_judge.specs.Scheme.{Ask, settings, beyond, last, votes_of}

-- what packing asks of a vote
abbrev pub Packable : Vote → Type 0
Packable v = (v.bin < 2 ^ 12) × InRange v.offset

-- a hash whose times are words of 32 bits
abbrev pub Timed : Hash → Type 0
Timed h = (anchor h < 2 ^ 32) × (last h < 2 ^ 32)

pub within : (a : Ask) → beyond a ≡ false → Accepted (settings a)
unfolding beyond
within a e = accepted a.cfg (test (within_limits (settings a)) (λ t. t) (λ f. let z = rw f at e in let y : ◌≡◌ {A = ℕ} 0 1 = cc in absurd (omega arith)))

packed-list : (most : ℕ) → most ≤ 4096 → (v : Option Vote) → Bounded (most - 1) v → 0 < most → All Packable (as_list v)
packed-list most few None b some = tt
packed-list most few (Some v) b some = ((omega (arith, b.0), b.1), tt)

-- every vote of accepted settings is packable
pub votes-packable : (a : Ask) → beyond a ≡ false → (h g : Hash) → Timed h → Timed g → All Packable (votes_of a h g)
unfolding votes_of
votes-packable a e h g H G =
    let A = within a e in
    packed-list (settings a).scale_bins A.few_bins (pair_vote (settings a) (anchor h) (last h) (anchor g) (last g))
    (pair-bounded (settings a) A (anchor h) (last h) (anchor g) (last g) H.0 H.1 G.0 G.1) A.some_bins
