-- The postings of a part as chunks, and the votes of a query hash with the first of them. Assumes nothing.
use Rattle.std.proofs.Common.{◌≡◌, ℕ, zero, suc, ◌+◌, ◌^◌, ◌<◌, ◌≤◌, true, false, List, [], ◌∷◌, ◌++◌, map, length, get_or, take, drop, ℤ, sym, refl, ap, ◌∙◌, append-nil, append_assoc, arith, length-append, take_all}
use Rattle.std.proofs.lemmas.List.{take_more, take-append-drop}
use Rattle.std.specs.Simd.{first_chunks}
use mathlib.Core.List.{map-append}
use Rattle.lists.specs.Lists.{All, flat}
use Rattle.lists.specs.Entries.{entries, entry_at}
use Rattle.lists.proofs.Keep.{all-imp, all-at, flat_append, flat-one}
use Rattle.lists.proofs.Entries.{entries_at}
use Rattle.query_search.specs.Gathered.{words_by, Ids}
use Rattle.query_search.specs.Voting.{may_vote, voting, if_voting, HasRow, Rowed}
use Rattle.query_search.proofs.Voting.{words-voting}

-- the chunks of a part are its entries
pub chunks-are : (w n : ℕ) (s : List ℕ) → first_chunks w n s ≡ entries w n s
unfolding entries
chunks-are w zero s = refl
chunks-are w (suc n) s = ap (λ (l : List (List ℕ)). take w s ∷ l) (chunks-are w n (drop w s))

pub chunk-at : (w n : ℕ) (s : List ℕ) (l : List (List ℕ)) (i : ℕ) → l ≡ first_chunks w n s → i < n → get_or l i [] ≡ entry_at w i s
chunk-at w n s l i el lt = ap (λ (k : List (List ℕ)). get_or k i []) (el ∙ chunks-are w n s) ∙ entries_at w n s i lt

-- each has the row of its recording
pub rowed-all : (rs ps : List ℕ) (w p : ℕ) → Rowed rs ps w p → All (λ e. HasRow rs (get_or e 1 0)) (entries w p ps)
rowed-all rs ps w p R = all-imp (λ e. get_or e 1 0 < get_or rs 0 0) (λ e. HasRow rs (get_or e 1 0)) (λ e h. omega (arith, R.rows, h)) (entries w p ps) R.ids

module _ (f : List ℕ → List ℤ) where
  by-append : (l m : List (List ℕ)) → words_by f (l ++ m) ≡ words_by f l ++ words_by f m
  unfolding words_by
  by-append l m = rw map-append (flat_append (map f l) (map f m))

  by-one : (e : List ℕ) → words_by f (e ∷ []) ≡ f e
  unfolding words_by
  by-one e = flat-one (f e)

  by-none : words_by f [] ≡ []
  unfolding words_by flat
  by-none = refl

module _ (vs : ℕ) (rs : List ℕ) (ps : List (List ℕ)) (f : List ℕ → List ℤ) where
  abbrev given : ℕ → List ℤ
  given i = words_by (if_voting vs rs f) (take i ps)

  all : words_by f (voting vs rs ps) ≡ words_by (if_voting vs rs f) ps
  all = words-voting vs rs f ps

  pub part_begun : (at : ℕ) (m : List ℤ) → (at ≡ at + length (given 0)) × (m ≡ m ++ given 0)
  part_begun at m = rw (by-none (if_voting vs rs f)) (omega arith, sym (append-nil m))

  pub part_done : (at v : ℕ) (m x : List ℤ) → v ≡ at + length (given (length ps)) → x ≡ m ++ given (length ps)
      → (v ≡ at + length (words_by f (voting vs rs ps))) × (x ≡ m ++ words_by f (voting vs rs ps))
  part_done at v m x k l = let e = take_all (length ps) ps (omega arith) in rw all (rw e at k, rw e at l)

  -- posting i
  module _ (i : ℕ) (e : List ℕ) (lt : i < length ps) (k : e ≡ get_or ps i e) where
    more : given (i + 1) ≡ given i ++ if_voting vs rs f e
    more =
        ap (words_by (if_voting vs rs f)) (take_more ps i e lt ∙ ap (λ (x : List ℕ). take i ps ++ x ∷ []) (sym k))
        ∙ by-append (if_voting vs rs f) (take i ps) (e ∷ [])
        ∙ ap (λ (l : List ℤ). given i ++ l) (by-one (if_voting vs rs f) e)

    one : may_vote vs rs (get_or e 1 0) ≡ true → if_voting vs rs f e ≡ f e
    unfolding if_voting
    one y = rw y refl

    none : may_vote vs rs (get_or e 1 0) ≡ false → if_voting vs rs f e ≡ []
    unfolding if_voting
    none y = rw y refl

    many : may_vote vs rs (get_or e 1 0) ≡ true → length (given (i + 1)) ≡ length (given i) + length (f e)
    many y = ap length (more ∙ ap (λ (l : List ℤ). given i ++ l) (one y)) ∙ length-append (given i) (f e)

    longer : length (given (i + 1)) ≤ length (words_by (if_voting vs rs f) ps)
    longer =
        let e : words_by (if_voting vs rs f) ps ≡ given (i + 1) ++ words_by (if_voting vs rs f) (drop (i + 1) ps) =
        ap (words_by (if_voting vs rs f)) (sym (take-append-drop (i + 1) ps)) ∙ by-append (if_voting vs rs f) (take (i + 1) ps) (drop (i + 1) ps) in
        omega (arith, ap length e, length-append (given (i + 1)) (words_by (if_voting vs rs f) (drop (i + 1) ps)))

    pub part-row : All (λ x. HasRow rs (get_or x 1 0)) ps → HasRow rs (get_or e 1 0)
    part-row h = rw k (all-at (λ x. HasRow rs (get_or x 1 0)) ps e h i lt)

    pub part-id : Ids ps → get_or e 1 0 < 2 ^ 12
    part-id h = rw k (all-at (λ x. get_or x 1 0 < 2 ^ 12) ps e h i lt)

    pub part-room : may_vote vs rs (get_or e 1 0) ≡ true → (at v room : ℕ) → v ≡ at + length (given i) → at + length (words_by f (voting vs rs ps)) ≤ room → v + length (f e) ≤ room
    part-room y at v room ev le = omega (arith, many y, ap length all, longer)

    module _ (at v : ℕ) (m x : List ℤ) (ev : v ≡ at + length (given i)) (ex : x ≡ m ++ given i) where
      pub part-voted : may_vote vs rs (get_or e 1 0) ≡ true → (v' : ℕ) (x' : List ℤ) → v' ≡ v + length (f e) → x' ≡ x ++ f e → (v' ≡ at + length (given (i + 1))) × (x' ≡ m ++ given (i + 1))
      part-voted y v' x' ev' ex' = (
        omega (arith, many y),
        ex' ∙ ap (λ (l : List ℤ). l ++ f e) ex ∙ append_assoc m (given i) (f e) ∙ ap (λ (l : List ℤ). m ++ l) (sym (more ∙ ap (λ (l : List ℤ). given i ++ l) (one y))),
      )

      pub part-passed : may_vote vs rs (get_or e 1 0) ≡ false → (v ≡ at + length (given (i + 1))) × (x ≡ m ++ given (i + 1))
      part-passed y =
          let q : given (i + 1) ≡ given i = more ∙ ap (λ (l : List ℤ). given i ++ l) (none y) ∙ append-nil (given i) in
          rw q (ev, ex)
