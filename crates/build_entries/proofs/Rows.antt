-- Laws of rows. Assumes nothing.
use mathlib.Core.Path.{◌≡◌, refl, sym, ap, ◌∙◌}
use mathlib.Core.Bool.{cond}
use mathlib.Core.List.{List, [], ◌∷◌, ◌++◌, map}
use Prim.Native.Nat.{ℕ, zero, suc, ◌+◌, ◌*◌, ◌-◌, ◌/◌, ◌≤◌}
use native.Mathlib.Nat.{mul-add, mul_comm, mul-div_cancel_left, le-div_iff_mul-le}
use native.Mathlib.Omega.{arith}
use lib.ListN.{length, take, drop, set, length-drop}
use lib.Seq.{drop_at, length-take-le}
use Rattle.lists.specs.Entries.{entries}
use Rattle.lists.proofs.Entries.{entries-append, entries-fewer, entries-take, length-entries}
use Rattle.model.specs.Fingerprints.{hash_of, hashes_of, hash_count}
use Rattle.model.specs.Rows.{has_rmax, largest_anchor, canonical, row_of}
use Rattle.model.specs.Words.{head_width, row_width, row_place, at_rate, at_rmax, at_live, at_vacant, at_set}
use Rattle.rows.specs.References.{row_put, entry_put}
use Rattle.build_entries.specs.Laid.{row_for}
use Rattle.build_entries.proofs.Prefix.{put_five, set-swap}

take-map : {A B : Type 0} (f : A → B) (n : ℕ) (l : List A) → take n (map f l) ≡ map f (take n l)
take-map f zero l = refl
take-map f (suc n) [] = refl
take-map f (suc n) (x ∷ l) = ap (λ m. f x ∷ m) (take-map f n l)

drop-map : {A B : Type 0} (f : A → B) (n : ℕ) (l : List A) → drop n (map f l) ≡ map f (drop n l)
drop-map f zero l = refl
drop-map f (suc n) [] = refl
drop-map f (suc n) (x ∷ l) = drop-map f n l

-- entries start, .., start + n - 1 of k
part-entries : (v start n k : ℕ) (s : List ℕ) → start + n ≤ k → take n (drop start (entries v k s)) ≡ entries v n (drop (v * start) s)
part-entries v start n k s h =
    let e : k ≡ start + (k - start) = omega arith in
    let d : drop start (entries v k s) ≡ entries v (k - start) (drop (v * start) s) =
    ap (λ m. drop start (entries v m s)) e ∙ ap (drop start) (entries-append v start (k - start) s)
    ∙ drop_at (entries v start s) (entries v (k - start) (drop (v * start) s)) start (length-entries v start s) in
    ap (take n) d ∙ sym (entries-fewer v n (k - start) (drop (v * start) s) (omega arith))

module _ (words : List ℕ) (w start n : ℕ) (w2 : 2 ≤ w) (room : (w - 1) * (start + n) ≤ length words) where
  abbrev part : List ℕ
  part = take ((w - 1) * (start + n) - (w - 1) * start) (drop ((w - 1) * start) words)

  width : (w - 1) * (start + n) - (w - 1) * start ≡ (w - 1) * n
  width = omega (arith, mul-add (w - 1) start n)

  many : hash_count w (take ((w - 1) * n) (drop ((w - 1) * start) words)) ≡ n
  many =
      let l : length (take ((w - 1) * n) (drop ((w - 1) * start) words)) ≡ (w - 1) * n = length-take-le ((w - 1) * n) (drop ((w - 1) * start) words) (rw length-drop (omega (arith, mul-add (w - 1) start n))) in
      ap (λ m. m / (w - 1)) l ∙ mul-div_cancel_left n (omega arith)

  -- the hashes in a part of the words are a part of the hashes
  pub part-hashes : hashes_of w (take ((w - 1) * (start + n) - (w - 1) * start) (drop ((w - 1) * start) words)) ≡ take n (drop start (hashes_of w words))
  unfolding hashes_of
  part-hashes =
      let fits : start + n ≤ hash_count w words = (le-div_iff_mul-le {k = w - 1} {x = start + n} (omega arith)).1 (rw (mul_comm (start + n) (w - 1)) room) in
      let one : hashes_of w part ≡ map hash_of (entries (w - 1) n (drop ((w - 1) * start) words)) =
      ap (hashes_of w) (ap (λ m. take m (drop ((w - 1) * start) words)) width)
      ∙ ap (λ m. map hash_of (entries (w - 1) m (take ((w - 1) * n) (drop ((w - 1) * start) words)))) many
      ∙ ap (map hash_of) (entries-take (w - 1) n (drop ((w - 1) * start) words)) in
      one
      ∙ ap (map hash_of) (sym (part-entries (w - 1) start n (hash_count w words) words fits))
      ∙ sym (ap (take n) (drop-map hash_of start (entries (w - 1) (hash_count w words) words)) ∙ take-map hash_of n (drop start (entries (w - 1) (hash_count w words) words)))

-- the words of a row that is written whole
pub row_laid : (rs : List ℕ) (i rate rmax s : ℕ) → head_width + row_width * (i + 1) ≤ length rs
    → take (head_width + row_width * (i + 1)) (entry_put (row_put rs i rate rmax 1 s) i 0) ≡ take (head_width + row_width * i) rs ++ rate ∷ rmax ∷ 1 ∷ 0 ∷ s ∷ []
unfolding row_put entry_put
row_laid rs i rate rmax s h =
    let z : head_width + row_width * (i + 1) ≡ head_width + row_width * i + row_width = omega arith in
    let a : row_place i at_rate ≡ head_width + row_width * i = omega arith in
    let b : row_place i at_rmax ≡ head_width + row_width * i + at_rmax = omega arith in
    let c : row_place i at_live ≡ head_width + row_width * i + at_live = omega arith in
    let d : row_place i at_vacant ≡ head_width + row_width * i + at_vacant = omega arith in
    let e : row_place i at_set ≡ head_width + row_width * i + at_set = omega arith in
    let at : ℕ = head_width + row_width * i in
    rw (z, a, b, c, d, e) (ap (take (at + row_width)) (set-swap (set (set (set rs at rate) (at + at_rmax) rmax) (at + at_live) 1) (at + at_set) (at + at_vacant) s 0 (λ q. omega arith)) ∙ put_five rs at rate rmax 1 0 s (omega arith))

pub row_is : (words : List ℕ) (w start n rate s start' n' rate' rmax s' : ℕ) → rate' ≡ canonical rate
    → rmax ≡ cond (has_rmax w) (largest_anchor (take n' (drop start' (hashes_of w words)))) 0 → s' ≡ s → start' ≡ start → n' ≡ n → rate' ∷ rmax ∷ 1 ∷ 0 ∷ s' ∷ [] ≡ row_for words w start n rate s
unfolding row_for row_of
row_is words w start n rate s start' n' rate' rmax s' er em eset es en = rw (er, em, eset, es, en)
