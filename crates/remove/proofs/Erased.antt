-- The words of an index that is laid out, once a recording is erased. Assumes nothing.
use mathlib.Core.Path.{◌≡◌, refl, sym, ap, ◌∙◌}
use mathlib.Core.Bool.{not, or-false}
use mathlib.Core.List.{List, [], ◌∷◌, ◌++◌, map, append_assoc}
use mathlib.Core.Option.{Option, none, some}
use Prim.Native.Nat.{ℕ, suc, ◌+◌, ◌*◌, ◌-◌, ◌≤◌, ◌<◌}
use native.Mathlib.Nat.{mul-le-mul_left}
use native.Mathlib.Omega.{arith}
use lib.ListN.{length, get_or, drop, set, replicate, length-append, length-set, length-map, replicate-append-replicate}
use lib.Seq.{drop_at}
use lib.Dec.{eqb}
use borrow.Author.Tests.{eqb-true, eqb-false, eq-eqb, ne_eqb}
use Rattle.lists.specs.Lists.{keep, some?, flat}
use Rattle.lists.specs.Entries.{Wide, padded}
use Rattle.lists.proofs.Tests.{test}
use Rattle.lists.proofs.Keep.{keep-map, keep-ext, length-keep, length-flat, all_keep}
use Rattle.model.specs.Rows.{Row, no_rate}
use Rattle.model.specs.Index.{Posting, Index, without_id, erased}
use Rattle.model.specs.Calls.{Sizes}
use Rattle.model.specs.Words.{row_words, row_entries, posting_words, write, head_width, row_width, at_vacant}
use Rattle.model.proofs.Words.{WidePostings, wide_rows, length-rows, row_at, wide-postings, written-postings}
use Rattle.model.proofs.Written.{entry-word-is}
use Rattle.postings.specs.Retain.{unnamed, staying, retained}
use Rattle.rows.specs.References.{header_put, entry_put, headed}
use Rattle.rows.proofs.References.{header-headed, entry-headed, row-headed, rows-set, vacant-more}
use Rattle.remove.specs.Erasing.{vacated}

-- ---- references

-- references that are laid out, with zeros behind the rows
unused : Sizes → List (List ℕ) → List ℕ
unused z es = replicate (head_width + row_width * z.R - suc (suc (suc (suc (length (flat es)))))) 0

references-are : (w : ℕ) (z : Sizes) (x : Index)
    → (write w z x).references ≡ headed (length x.rows) (length x.vacant) (length x.postings) (length x.stopped) (row_entries x.rows x.vacant) (unused z (row_entries x.rows x.vacant))
unfolding write padded headed unused
references-are w z x = refl

entry-put : (o : Option Row) (e id : ℕ) → set (row_words o e) 3 id ≡ row_words o id
entry-put none e id = refl
entry-put (some r) e id = refl

module _ (os : List (Option Row)) (es : List ℕ) (id : ℕ) (here : id < length os) (room : length es < length os) where
  abbrev dead : List (Option Row)
  dead = set os id none

  long : length dead ≡ length os
  long = length-set os id none

  -- the row is dead
  row-dead : set (row_entries os es) id (no_rate ∷ 0 ∷ 0 ∷ get_or (get_or (row_entries os es) id []) at_vacant 0 ∷ 0 ∷ []) ≡ row_entries dead es
  row-dead = rw (row_at os es id here, entry-word-is (get_or os id none) (get_or es id 0)) (sym (rows-set os es id none))

  -- and the id the last of the vacant entries
  entry-last : set (row_entries dead es) (length es) (set (get_or (row_entries dead es) (length es) []) 3 id) ≡ row_entries dead (es ++ id ∷ [])
  entry-last =
      rw (row_at dead es (length es) (rw long room), entry-put (get_or dead (length es) none) (get_or es (length es) 0) id)
      (sym (vacant-more dead es id (rw long room)))

  same_size : length (flat (row_entries dead (es ++ id ∷ []))) ≡ length (flat (row_entries os es))
  same_size =
      length-flat row_width (row_entries dead (es ++ id ∷ [])) (wide_rows dead (es ++ id ∷ []))
      ∙ rw (length-rows dead (es ++ id ∷ []), long, ← length-rows os es)
      (sym (length-flat row_width (row_entries os es) (wide_rows os es)))

-- the header, a row and a vacant entry written
vacated-headed : (n v p k : ℕ) (es : List (List ℕ)) (rest : List ℕ) (id held : ℕ) → Wide row_width es → id < length es → v < length es
    → (fs : List (List ℕ)) → set es id (no_rate ∷ 0 ∷ 0 ∷ get_or (get_or es id []) at_vacant 0 ∷ 0 ∷ []) ≡ fs → Wide row_width fs → length fs ≡ length es
    → vacated (headed n v p k es rest) id held ≡ headed n (v + 1) held k (set fs v (set (get_or fs v []) 3 id)) rest
unfolding vacated headed
vacated-headed n v p k es rest id held h here room fs e g long =
    ap (λ (l : List ℕ). header_put (entry_put l v id) n (v + 1) held k) (row-headed n v p k es rest id no_rate 0 0 0 h here ∙ ap (λ (l : List (List ℕ)). headed n v p k l rest) e)
    ∙ ap (λ (l : List ℕ). header_put l n (v + 1) held k) (entry-headed n v p k fs rest v id g (rw long room))
    ∙ header-headed n v p k (set fs v (set (get_or fs v []) 3 id)) rest n (v + 1) held k

module _ (w : ℕ) (z : Sizes) (x : Index) (id : ℕ) (here : id < length x.rows) (room : length x.vacant < length x.rows) where
  abbrev os : List (Option Row)
  os = x.rows

  abbrev vs : List ℕ
  vs = x.vacant

  pub vacated-is : (held : ℕ) → held ≡ length (without_id id x.postings) → vacated (write w z x).references id held ≡ (write w z (erased id x)).references
  unfolding erased unused
  vacated-is held h =
      let e1 = entry-last os vs id here room in
      let e2 : length (set os id none) ≡ length os = length-set os id none in
      let e3 : length (vs ++ id ∷ []) ≡ length vs + 1 = length-append vs (id ∷ []) in
      let e5 = same_size os vs id here room in
      ap (λ (l : List ℕ). vacated l id held) (references-are w z x)
      ∙ vacated-headed (length os) (length vs) (length x.postings) (length x.stopped) (row_entries os vs) (unused z (row_entries os vs)) id held
      (wide_rows os vs) (rw (length-rows os vs) here) (rw (length-rows os vs) room)
      (row_entries (set os id none) vs) (row-dead os vs id here room) (wide_rows (set os id none) vs) (length-rows (set os id none) vs ∙ e2 ∙ sym (length-rows os vs))
      ∙ rw (e1, ← e5, ← e3, h, ← e2) (sym (references-are w z (erased id x)))

-- ---- postings

eqb-turned : (a b : ℕ) → eqb a b ≡ eqb b a
eqb-turned a b = test (eqb a b)
    (λ e. e ∙ sym (eq-eqb b a (sym (eqb-true a b e))))
    (λ e. e ∙ sym (ne_eqb b a (λ d. eqb-false a b e (sym d))))

other-posting : (id : ℕ) (p : Posting) → unnamed 1 (id ∷ []) (posting_words p) ≡ not (eqb p.id id)
unfolding unnamed some?
other-posting id p = rw (or-false (eqb id p.id), eqb-turned id p.id)

module _ (w : ℕ) (z : Sizes) (x : Index) (id : ℕ) (fewer : length x.vacant ≤ length x.rows) (wide : WidePostings w x.postings) (fit : length x.postings ≤ z.P) where
  abbrev all : List ℕ
  all = flat (map posting_words x.postings)

  abbrev left : List ℕ
  left = flat (map posting_words (without_id id x.postings))

  staying-is : staying w (length x.postings) 1 (id ∷ []) (write w z x).postings ≡ map posting_words (without_id id x.postings)
  unfolding staying
  staying-is =
      ap (keep (unnamed 1 (id ∷ []))) (written-postings w z x fewer wide)
      ∙ keep-map posting_words (unnamed 1 (id ∷ [])) x.postings
      ∙ ap (map posting_words) (keep-ext (λ p. unnamed 1 (id ∷ []) (posting_words p)) (λ p. not (eqb p.id id)) (other-posting id) x.postings)

  pub held-is : length (staying w (length x.postings) 1 (id ∷ []) (write w z x).postings) ≡ length (without_id id x.postings)
  held-is = ap length staying-is ∙ length-map (without_id id x.postings) posting_words

  length-all : length all ≡ w * length x.postings
  length-all = length-flat w (map posting_words x.postings) (wide-postings w x.postings wide) ∙ rw (length-map x.postings posting_words)

  length-left : length left ≤ w * length x.postings
  length-left =
      let kept : WidePostings w (without_id id x.postings) = all_keep (λ p. 2 + length p.hash.times ≡ w) (λ p. not (eqb p.id id)) x.postings wide in
      rw (length-flat w (map posting_words (without_id id x.postings)) (wide-postings w (without_id id x.postings) kept), length-map (without_id id x.postings) posting_words)
      (mul-le-mul_left w (length-keep (λ p. not (eqb p.id id)) x.postings))

  pub left_is : retained w (length x.postings) 1 (id ∷ []) (write w z x).postings ≡ (write w z (erased id x)).postings
  unfolding retained padded write erased
  left_is =
      let n = w * length x.postings in
      let a = n - length left in
      let b = w * z.P - length all in
      let e : a + b ≡ w * z.P - length left = omega (arith, length-all, length-left, mul-le-mul_left w fit) in
      ap (λ (l : List (List ℕ)). flat l ++ replicate (n - length (flat l)) 0 ++ drop n (all ++ replicate b 0)) staying-is
      ∙ ap (λ (l : List ℕ). left ++ replicate a 0 ++ l) (drop_at all (replicate b 0) n length-all)
      ∙ append_assoc left (replicate a 0) (replicate b 0)
      ∙ ap (λ (l : List ℕ). left ++ l) (replicate-append-replicate a b 0 ∙ ap (λ (k : ℕ). replicate k 0) e)

-- ---- stopped keys

pub stopped-is : (w : ℕ) (z : Sizes) (x : Index) (id : ℕ) → (write w z x).stopped ≡ (write w z (erased id x)).stopped
unfolding write erased
stopped-is w z x id = refl
