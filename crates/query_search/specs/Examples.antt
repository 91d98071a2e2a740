-- Recordings 0, 1 and 2 of the sets 1, 2 and 2, and postings of 0, 1, 2 and 0: whose vote. Assumes nothing.
use Rattle.std.specs.Prelude.{◌≡◌, ℕ, List, [], ◌∷◌, refl}
use Rattle.std.proofs.Math.Option.{some}
use Rattle.lists.specs.Lists.{keep, flat, sum}
use Rattle.model.specs.Rows.{Row, in_set}
use Rattle.model.specs.Words.{row_entries}
use Rattle.query_search.specs.Starts.{met}
use Rattle.query_search.specs.Voting.{may_vote, voting}

abbrev row_in : ℕ → Row
row_in set = record { rate = 0x427A_0000; rmax = 6; set = set }

abbrev references : List ℕ
references = 3 ∷ 0 ∷ 4 ∷ 0 ∷ flat (row_entries (some (row_in 1) ∷ some (row_in 2) ∷ some (row_in 2) ∷ []) [])

-- key, id, t_anchor
abbrev postings : List (List ℕ)
postings = (7 ∷ 0 ∷ 4 ∷ []) ∷ (7 ∷ 1 ∷ 5 ∷ []) ∷ (9 ∷ 2 ∷ 6 ∷ []) ∷ (9 ∷ 0 ∷ 6 ∷ []) ∷ []

-- those that vote in a query for a set
unfoldable voters : ℕ → List (List ℕ)
voters set = voting set references postings

of-set-2 : voters 2 ≡ (7 ∷ 1 ∷ 5 ∷ []) ∷ (9 ∷ 2 ∷ 6 ∷ []) ∷ []
unfolding voters voting may_vote in_set keep flat row_entries
of-set-2 = refl

of-all : voters 0 ≡ postings
unfolding voters voting may_vote in_set keep flat row_entries
of-all = refl

of_none : voters 3 ≡ []
unfolding voters voting may_vote in_set keep flat row_entries
of_none = refl

-- a query with the keys 7 and 9 counts two of the four
counted : met (voters 2) ((7 ∷ 1 ∷ []) ∷ (9 ∷ 3 ∷ []) ∷ []) ≡ 2
unfolding voters voting may_vote in_set keep flat row_entries met sum
counted = refl
