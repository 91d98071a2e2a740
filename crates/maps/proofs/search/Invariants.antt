-- `maps::search` meets its contract: the keys before `lo` are below the key, those from `hi` on are not. Assumes nothing.
use Prim.Native.Nat.{ℕ, ◌-◌, ◌≤◌, ◌<◌}
use Rattle.lists.specs.Entries.{key_at}
use Rattle.maps.proofs.search.Given as goal

abbrev pub invariant-loop-lo : goal.invariant-loop-lo
invariant-loop-lo l = (l.from ≤ l.lo) × (l.lo ≤ l.hi) × (l.hi ≤ l.to) × ((i : ℕ) → l.from ≤ i → i < l.lo → key_at l.posts l.w i < l.key) × ((i : ℕ) → l.hi ≤ i → i < l.to → l.key ≤ key_at l.posts l.w i)

abbrev pub decreases-loop-lo : goal.decreases-loop-lo
decreases-loop-lo l = l.hi - l.lo
