-- A query on a store's words: refused before its votes are counted, or answered by them. Assumes nothing.
use mathlib.Core.Path.{◌≡◌, sym, ap, ◌∙◌}
use mathlib.Core.Bool.{true}
use mathlib.Core.List.{List}
use Prim.Native.Nat.{ℕ, ◌-◌, ◌/◌, ◌%◌, ◌≤◌}
use lib.IntN.{ℤ}
use lib.ListN.{length, get_or}
use lib.Dec.{eqb, leb}
use borrow.Author.Tests.{leb-true}
use Rattle.lists.specs.Entries.{entries}
use Rattle.lists.proofs.Tests.{and_right}
use Rattle.model.specs.Fingerprints.{hashes_of}
use Rattle.model.specs.Rows.{Row}
use Rattle.model.specs.Query.{Scheme, Query}
use Rattle.model.specs.Calls.{Answer, refused, scratch_listed}
use Rattle.model.specs.Words.{Words}
use Rattle.model.specs.Run.{run_query}
use Rattle.query_refusals.specs.Early.{early_refusal}
use Rattle.query_refusals.proofs.Early.{Passed, passed, refused-early, query-is}
use Rattle.query_search.specs.Gathered.{Pairing, words_from}
use Rattle.query_search.specs.Voting.{voting}
use Rattle.query_laws.specs.Candidates.{Reading, answer_in}
use Rattle.query_laws.proofs.Gathering.{RightAll}
use Rattle.query_laws.proofs.Meaning.{answer-is}

-- "whole votes only, 0 to 1,000,000 votes"
pub few-votes : (v n : ℕ) → scratch_listed v n ≡ true → n / v ≤ 1000000
unfolding scratch_listed
few-votes v n h = leb-true (n / v) 1000000 (and_right (eqb (n % v) 0) (leb (n / v) 1000000) h)

module _ (S : Scheme) (w2 : 2 ≤ S.width) (m : Words) (a : S.Ask) (set : ℕ) (hs : List ℕ) (s : List ℤ) (r : ℕ) (e : r ≡ early_refusal S.width S.vote_words m (length s) hs (S.beyond a) set) where
  abbrev asked : Query S
  asked = record { ask = a; set = set; words = hs; scratch = length s }

  abbrev run : Answer × Words
  run = run_query S m asked

  -- one of refusals 1 to 4 and 9
  pub refused-is : (r ≡ 0 → ⊥) → (refused r, m) ≡ run
  refused-is ne = ap (λ (n : ℕ). (refused n, m)) e ∙ sym (refused-early S m asked w2 (λ z. ne (e ∙ z)))

  -- none of them
  module _ (z : r ≡ 0) where
    pub none_before : Passed S.width S.vote_words m (length s) hs (S.beyond a) set
    none_before = passed S.width S.vote_words m (length s) hs (S.beyond a) set (sym e ∙ z)

    pub found-is : (R : Reading S.Vote) → ((q : Row) (vs : List S.Vote) → R.judge q vs ≡ S.judge a (hashes_of S.width hs) q vs) → (pair : Pairing)
        → RightAll S R a pair (voting set m.references (entries S.width (get_or m.references 2 0) m.postings)) 0 (entries (S.width - 1) (length (hashes_of S.width hs)) hs)
        → (x : Answer)
        → x ≡ answer_in R (length s / S.vote_words) m.references (words_from pair 0 (voting set m.references (entries S.width (get_or m.references 2 0) m.postings)) (entries (S.width - 1) (length (hashes_of S.width hs)) hs))
        → (x, m) ≡ run
    found-is R judges pair H x ex =
        ap (λ (y : Answer). (y, m)) (ex ∙ answer-is S w2 m none_before.is-listed none_before.is-sound a set hs (length s) R judges pair H)
        ∙ sym (query-is S m asked w2 (sym e ∙ z))
