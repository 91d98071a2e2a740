-- The postings that vote: laws of the choice, and what the code asks of the postings under a key. Assumes nothing.
use Rattle.std.proofs.Common.{◌≡◌, ℕ, ◌+◌, ◌-◌, ◌*◌, ◌<◌, ◌≤◌, Bool, true, false, cond, eqb, List, [], ◌∷◌, length, get_or, drop, ℤ, sym, refl, ap, ◌∙◌, subst, add-one, arith, length-append, ne_eqb}
use Rattle.lists.specs.Lists.{keep, All, flat}
use Rattle.lists.specs.Keys.{under}
use Rattle.lists.specs.Entries.{entries, entry_at, key_of}
use Rattle.lists.proofs.Tests.{test}
use Rattle.lists.proofs.Keep.{keep_append, keep-comm, keep_all, all_keep, all_of}
use Rattle.lists.proofs.Entries.{entries_none, entries-append, entries-all, entry-word, keep-suc, stride}
use Rattle.maps.specs.Sums.{when}
use Rattle.model.specs.Rows.{in_set}
use Rattle.model.specs.Words.{at_set}
use Rattle.model.specs.Soundness.{row_word}
use Rattle.query_search.specs.Gathered.{words_by}
use Rattle.query_search.specs.Voting.{may_vote, voting, if_voting, HasRow, Rowed}

module _ (v : ℕ) (rs : List ℕ) where
  -- "or 0 for all"
  pub all-may : v ≡ 0 → (id : ℕ) → may_vote v rs id ≡ true
  unfolding may_vote in_set
  all-may e id = rw e

  pub some-may : (v ≡ 0 → ⊥) → (id : ℕ) → may_vote v rs id ≡ eqb (row_word rs id at_set) v
  unfolding may_vote in_set
  some-may h id = rw (ne_eqb v 0 h)

  pub voting-all : v ≡ 0 → (es : List (List ℕ)) → voting v rs es ≡ es
  unfolding voting
  voting-all e es = keep_all (λ x. may_vote v rs (get_or x 1 0)) es (all_of (λ (x : List ℕ). may_vote v rs (get_or x 1 0) ≡ true) (λ x. all-may e (get_or x 1 0)) es)

  pub voting-none : voting v rs [] ≡ []
  unfolding voting keep
  voting-none = refl

  pub under-voting : (k : ℕ) (es : List (List ℕ)) → under key_of k (voting v rs es) ≡ voting v rs (under key_of k es)
  unfolding voting
  under-voting k es = keep-comm (λ e. eqb (key_of e) k) (λ e. may_vote v rs (get_or e 1 0)) es

  -- the words of those that vote, one posting after the other
  pub words-voting : (f : List ℕ → List ℤ) (es : List (List ℕ)) → words_by f (voting v rs es) ≡ words_by (if_voting v rs f) es
  unfolding words_by flat voting keep if_voting
  words-voting f [] = refl
  words-voting f (e ∷ es) =
      let ih = words-voting f es in
      test (may_vote v rs (get_or e 1 0)) (λ y. rw (y, ih)) (λ n. rw (n, ih))

  -- ---- how many of the first entries vote

  module _ (w : ℕ) (s : List ℕ) where
    abbrev many : ℕ → ℕ
    many d = length (voting v rs (entries w d s))

    pub many-none : many 0 ≡ 0
    unfolding voting keep
    many-none = rw (entries_none w s)

    one : (b : Bool) (e : List ℕ) → length (cond b (e ∷ []) []) ≡ when b 1
    one true e = refl
    one false e = refl

    pub many_more : 1 < w → (d : ℕ) → many (d + 1) ≡ many d + when (may_vote v rs (get_or s (w * d + 1) 0)) 1
    unfolding voting
    many_more w1 d =
        rw (add-one d, keep-suc (λ e. may_vote v rs (get_or e 1 0)) w s d, length-append)
        (ap (λ (n : ℕ). many d + n) (one (may_vote v rs (get_or (entry_at w d s) 1 0)) (entry_at w d s) ∙ ap (λ (i : ℕ). when (may_vote v rs i) 1) (entry-word w d s 1 w1)))

    pub many-longer : (d n : ℕ) → d ≤ n → many d ≤ many n
    unfolding voting
    many-longer d n h =
        let e : d + (n - d) ≡ n = omega arith in
        let a = ap (λ (l : List (List ℕ)). length (voting v rs l)) (entries-append w d (n - d) s) in
        let b = keep_append (λ e. may_vote v rs (get_or e 1 0)) (entries w d s) (entries w (n - d) (drop (w * d) s)) in
        let c = ap length b ∙ length-append (voting v rs (entries w d s)) (voting v rs (entries w (n - d) (drop (w * d) s))) in
        let f = rw e at a in
        omega (arith, f, c)

-- n where a test passes, as a product
pub times-when : (b : Bool) (n : ℕ) → n * when b 1 ≡ when b n
times-when true n = omega arith
times-when false n = omega arith

-- ---- the rows of those that may

module _ (rs ps : List ℕ) (w p : ℕ) (R : Rowed rs ps w p) where
  pub rowed-at : (j : ℕ) → j < p → HasRow rs (get_or ps (w * j + 1) 0)
  rowed-at j h =
      let a = entries-all (λ e. get_or e 1 0 < get_or rs 0 0) w p ps R.ids j h in
      let b = entry-word w j ps 1 R.wide in
      omega (arith, R.rows, a, b)

  -- the same by the word at which it stands
  pub rowed-word : w * p ≤ length ps → (a j : ℕ) → a ≡ w * j → j < p → (a + 1 < length ps) × HasRow rs (get_or ps (a + 1) 0)
  rowed-word fits a j e h = rw e (omega (arith, stride w j p (length ps) h fits, R.wide), rowed-at j h)

  -- of a part that has the postings under a key
  pub rowed-part : (part : List ℕ) (n key : ℕ) → entries w n part ≡ under key_of key (entries w p ps) → Rowed rs part w n
  rowed-part part n key e = record {
    wide = R.wide;
    ids = subst (All (λ x. get_or x 1 0 < get_or rs 0 0)) (sym e) (all_keep (λ x. get_or x 1 0 < get_or rs 0 0) (λ x. eqb (key_of x) key) (entries w p ps) R.ids);
    rows = R.rows;
  }
