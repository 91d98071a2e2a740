-- The references that the model's insertion leaves. Assumes nothing.
use mathlib.Core.Path.{◌≡◌, refl, sym, ap, ◌∙◌}
use mathlib.Core.List.{List, [], ◌∷◌, ◌++◌, append_assoc}
use mathlib.Core.Option.{Option, none, some}
use Prim.Native.Nat.{ℕ, zero, suc, ◌+◌, ◌*◌, ◌-◌, ◌≤◌, ◌<◌}
use native.Mathlib.Omega.{arith}
use lib.ListN.{length, get_or, take, set, replicate, length-append, length-set, replicate-append-replicate}
use lib.Seq.{length-take-le, set_at, get_or_at}
use lib.Dec.{eqb}
use borrow.Author.Tests.{eq-eqb, ne_eqb, eqb-true, eqb-false}
use Rattle.lists.specs.Lists.{flat}
use Rattle.lists.specs.Entries.{padded, Wide}
use Rattle.lists.proofs.Tests.{test}
use Rattle.lists.proofs.Keep.{length-flat, flat_append, flat-one, all_append}
use Rattle.model.specs.Rows.{Row}
use Rattle.model.specs.Index.{Index, new_id, popped, put_row}
use Rattle.model.specs.Calls.{Sizes}
use Rattle.model.specs.Words.{row_words, row_entries, write, head_width, row_width, at_vacant}
use Rattle.model.proofs.Words.{wide_rows, length-rows, row_at}
use Rattle.model.proofs.Written.{entry-word-is}
use Rattle.rows.specs.References.{header_put, row_put, entry_put, headed}
use Rattle.rows.proofs.References.{header-headed, entry-headed, row-headed, rows-set}
use Rattle.insert.specs.Writing.{recorded}

pub references-headed : (w : ℕ) (z : Sizes) (x : Index) → length x.rows ≤ z.R
    → (write w z x).references ≡ headed (length x.rows) (length x.vacant) (length x.postings) (length x.stopped) (row_entries x.rows x.vacant) (replicate (row_width * (z.R - length x.rows)) 0)
unfolding write padded headed
references-headed w z x h =
    let f : length (flat (row_entries x.rows x.vacant)) ≡ row_width * length x.rows =
    length-flat row_width (row_entries x.rows x.vacant) (wide_rows x.rows x.vacant) ∙ rw (length-rows x.rows x.vacant) in
    let e : head_width + row_width * z.R - suc (suc (suc (suc (length (flat (row_entries x.rows x.vacant)))))) ≡ row_width * (z.R - length x.rows) = omega arith in
    rw e

-- ---- the last vacant entry goes

entry_gone : (o : Option Row) (e : ℕ) → set (row_words o e) at_vacant 0 ≡ row_words o 0
entry_gone none e = refl
entry_gone (some r) e = refl

vacant-less : (os : List (Option Row)) (es : List ℕ) (i : ℕ) → length es ≡ suc i → length es ≤ length os
    → set (row_entries os es) i (set (get_or (row_entries os es) i []) at_vacant 0) ≡ row_entries os (take i es)
unfolding row_entries
vacant-less [] es i h l = absurd (omega arith)
vacant-less (o ∷ os) [] i h l = absurd (omega arith)
vacant-less (o ∷ os) (e ∷ []) zero h l = ap (λ (x : List ℕ). x ∷ row_entries os []) (entry_gone o e)
vacant-less (o ∷ os) (e ∷ f ∷ es) zero h l = absurd (omega arith)
vacant-less (o ∷ os) (e ∷ es) (suc i) h l = ap (λ (m : List (List ℕ)). row_words o e ∷ m) (vacant-less os es i (omega arith) (omega arith))

-- ---- a row at the end

rows_snoc : (os : List (Option Row)) (o : Option Row) → row_entries (os ++ o ∷ []) [] ≡ row_entries os [] ++ row_words o 0 ∷ []
unfolding row_entries
rows_snoc [] o = refl
rows_snoc (x ∷ os) o = ap (λ (m : List (List ℕ)). row_words x 0 ∷ m) (rows_snoc os o)

none_left : (l : List ℕ) → length l ≡ 0 → l ≡ []
none_left [] h = refl
none_left (x ∷ l) h = absurd (omega arith)

blank-row : (n v p k : ℕ) (es : List (List ℕ)) (a : ℕ) → headed n v p k es (replicate (row_width * suc a) 0) ≡ headed n v p k (es ++ replicate row_width 0 ∷ []) (replicate (row_width * a) 0)
unfolding headed
blank-row n v p k es a =
    let e : row_width * suc a ≡ row_width + row_width * a = omega arith in
    let blank : List ℕ = replicate row_width 0 in
    let zeros : replicate (row_width * suc a) 0 ≡ blank ++ replicate (row_width * a) 0 = rw e (sym (replicate-append-replicate row_width (row_width * a) 0)) in
    let f : flat (es ++ blank ∷ []) ≡ flat es ++ blank = flat_append es (blank ∷ []) ∙ ap (λ (l : List ℕ). flat es ++ l) (flat-one blank) in
    ap (λ (l : List ℕ). n ∷ v ∷ p ∷ k ∷ l) (rw (zeros, f) (sym (append_assoc (flat es) blank (replicate (row_width * a) 0))))

-- ---- an index with one recording more

module _ (rs : List (Option Row)) (vs : List ℕ) (r : Row) (R p k p' k' : ℕ) (fewer : length vs ≤ length rs) where
  abbrev n : ℕ
  n = length rs

  abbrev v : ℕ
  v = length vs

  -- at a vacant id
  reused : (id : ℕ) → 0 < length vs → id < length rs
      → header_put (row_put (entry_put (headed (length rs) (length vs) p k (row_entries rs vs) (replicate (row_width * (R - length rs)) 0)) (length vs - 1) 0) id r.rate r.rmax 1 r.set) (length rs) (length vs - 1) p' k'
      ≡ headed (length rs) (length vs - 1) p' k' (row_entries (set rs id (some r)) (popped vs)) (replicate (row_width * (R - length rs)) 0)
  reused id some_left inside =
      let rest : List ℕ = replicate (row_width * (R - n)) 0 in
      let es = row_entries rs vs in
      let es1 = row_entries rs (popped vs) in
      let l1 : length es1 ≡ n = length-rows rs (popped vs) in
      ap (λ (m : List ℕ). header_put (row_put m id r.rate r.rmax 1 r.set) n (v - 1) p' k')
      (entry-headed n v p k es rest (v - 1) 0 (wide_rows rs vs) (omega (arith, length-rows rs vs))
      ∙ ap (λ (m : List (List ℕ)). headed n v p k m rest) (vacant-less rs vs (v - 1) (omega arith) fewer))
      ∙ ap (λ (m : List ℕ). header_put m n (v - 1) p' k')
      (row-headed n v p k es1 rest id r.rate r.rmax 1 r.set (wide_rows rs (popped vs)) (omega (arith, l1))
      ∙ ap (λ (e : ℕ). headed n v p k (set es1 id (r.rate ∷ r.rmax ∷ 1 ∷ e ∷ r.set ∷ [])) rest)
      (ap (λ (m : List ℕ). get_or m at_vacant 0) (row_at rs (popped vs) id inside) ∙ entry-word-is (get_or rs id none) (get_or (popped vs) id 0))
      ∙ ap (λ (m : List (List ℕ)). headed n v p k m rest) (sym (rows-set rs (popped vs) id (some r))))
      ∙ header-headed n v p k (row_entries (set rs id (some r)) (popped vs)) rest n (v - 1) p' k'

  -- or at the next one
  appended : length vs ≡ 0 → length rs < R
      → header_put (row_put (headed (length rs) (length vs) p k (row_entries rs vs) (replicate (row_width * (R - length rs)) 0)) (length rs) r.rate r.rmax 1 r.set) (length rs + 1) 0 p' k'
      ≡ headed (length rs + 1) 0 p' k' (row_entries (rs ++ some r ∷ []) (popped vs)) (replicate (row_width * (R - (length rs + 1))) 0)
  appended none-vacant room =
      let e = none_left vs none-vacant in
      let a : R - n ≡ suc (R - (n + 1)) = omega arith in
      let es = row_entries rs [] in
      let blank : List ℕ = replicate row_width 0 in
      let rest : List ℕ = replicate (row_width * (R - (n + 1))) 0 in
      let l : length es ≡ n = length-rows rs [] in
      let long : length (es ++ blank ∷ []) ≡ n + 1 = rw (length-append, l) (omega arith) in
      let wide : Wide row_width (es ++ blank ∷ []) = all_append (λ (e : List ℕ). length e ≡ row_width) es (blank ∷ []) (wide_rows rs []) (refl, tt) in
      rw (e, a) (
      ap (λ (m : List ℕ). header_put (row_put m n r.rate r.rmax 1 r.set) (n + 1) 0 p' k') (blank-row n 0 p k es (R - (n + 1)))
      ∙ ap (λ (m : List ℕ). header_put m (n + 1) 0 p' k')
      (row-headed n 0 p k (es ++ blank ∷ []) rest n r.rate r.rmax 1 r.set wide (omega arith)
      ∙ ap (λ (m : List (List ℕ)). headed n 0 p k m rest)
      (ap (λ (y : List ℕ). set (es ++ blank ∷ []) n (r.rate ∷ r.rmax ∷ 1 ∷ get_or y at_vacant 0 ∷ r.set ∷ [])) (get_or_at es blank [] [] n l)
      ∙ set_at es blank [] (r.rate ∷ r.rmax ∷ 1 ∷ 0 ∷ r.set ∷ []) n l ∙ sym (rows_snoc rs (some r))))
      ∙ header-headed n 0 p k (row_entries (rs ++ some r ∷ []) []) rest (n + 1) 0 p' k')

-- what is recorded is an index with the row put and the vacant id gone
module _ (w : ℕ) (z : Sizes) (x y : Index) (r : Row) (fit : length x.rows ≤ z.R) (fewer : length x.vacant ≤ length x.rows)
    (inside : 0 < length x.vacant → new_id x < length x.rows) (room : length x.vacant ≡ 0 → length x.rows < z.R)
    (rows : y.rows ≡ put_row x.rows (new_id x) r) (vacant : y.vacant ≡ popped x.vacant) where
  pub recorded-is : (id : ℕ) → id ≡ new_id x → recorded (write w z x).references (length x.rows) (length x.vacant) id r.rate r.rmax r.set (length y.postings) (length y.stopped) ≡ (write w z y).references
  unfolding recorded
  recorded-is id is =
      let n = length x.rows in
      let v = length x.vacant in
      rw (references-headed w z x fit) (test (eqb v 0)
      (λ q.
      let none-vacant : v ≡ 0 = eqb-true v 0 q in
      let here : id ≡ n = is ∙ rw q in
      let grown : y.rows ≡ x.rows ++ some r ∷ [] = rows ∙ rw (← is, here, eq-eqb n n refl) in
      let many : length y.rows ≡ n + 1 = ap length grown ∙ length-append x.rows (some r ∷ []) in
      let few : length y.vacant ≡ 0 = ap length vacant ∙ ap (λ (l : List ℕ). length (popped l)) (none_left x.vacant none-vacant) in
      rw (q, here) (appended x.rows x.vacant r z.R (length x.postings) (length x.stopped) (length y.postings) (length y.stopped) fewer none-vacant (room none-vacant)
      ∙ sym (references-headed w z y (omega (arith, room none-vacant)) ∙ rw (many, few, grown, vacant))))
      (λ q.
      let left : 0 < v = positive v (eqb-false v 0 q) in
      let there : id < n = rw is (inside left) in
      let same : y.rows ≡ set x.rows id (some r) = rows ∙ rw (← is, ne_eqb id n (λ e. omega arith)) in
      let many : length y.rows ≡ n = ap length same ∙ length-set x.rows id (some r) in
      let few : length y.vacant ≡ v - 1 = ap length vacant ∙ length-take-le (v - 1) x.vacant (omega arith) in
      rw q (reused x.rows x.vacant r z.R (length x.postings) (length x.stopped) (length y.postings) (length y.stopped) fewer id left there
      ∙ sym (references-headed w z y (omega arith) ∙ rw (many, few, same, vacant)))))
    where
      positive : (a : ℕ) → (a ≡ 0 → ⊥) → 0 < a
      positive zero h = absurd (h refl)
      positive (suc a) h = omega arith
