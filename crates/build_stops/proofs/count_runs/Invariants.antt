use Rattle.std.proofs.Common.{◌≡◌, List, ◌++◌, map, ℕ, ◌+◌, ◌≤◌, pos, take}
use Rattle.lists.specs.Keys.{Sorted}
use Rattle.build_stops.specs.Over.{key_in, Counted}
use Rattle.build_stops.proofs.count_runs.Given as goal

abbrev pub invariant-loop-t : goal.invariant-loop-t
invariant-loop-t l = (l.st.run ≤ l.fn.st.run + l.t) × (l.st.over ≤ l.fn.st.over + l.t) × ((a cs : List ℕ) → l.codes ≡ map pos cs
    → Sorted (λ k. k) (a ++ map key_in cs) → Counted l.limit a l.fn.st.key l.fn.st.run l.fn.st.over → Counted l.limit (a ++ map key_in (take l.t cs)) l.st.key l.st.run l.st.over)
