-- Laws of the hashes that ranks name, and of their entries in key order. Assumes nothing.
use mathlib.Core.Path.{◌≡◌, refl, sym, ap, ◌∙◌}
use mathlib.Core.Bool.{Bool}
use mathlib.Core.List.{List, [], ◌∷◌, ◌++◌, map, map-append, append_assoc, append-nil}
use Prim.Native.Nat.{ℕ, zero, suc, ◌+◌, ◌*◌, ◌-◌, ◌/◌, ◌%◌, ◌≤◌, ◌<◌}
use native.Mathlib.Nat.{mul-le-mul_left, mul-suc, le_trans}
use native.Mathlib.Numerals.{add-one}
use native.Mathlib.Omega.{arith}
use lib.ListN.{length, get_or, take, length-map, length-append}
use lib.Seq.{take-suc, take_all, length-take-le}
use Rattle.lists.specs.Lists.{keep, All, sum}
use Rattle.lists.specs.Every.{count}
use Rattle.lists.specs.Keys.{place_all}
use Rattle.lists.specs.Entries.{key_at}
use Rattle.lists.proofs.Tests.{test}
use Rattle.lists.proofs.Keep.{keep_append, keep_one, keep-nil, keep_same, keep-map, all_append, all-imp, all-at, all_map, all_both, map_same, map-map}
use Rattle.lists.proofs.Every.{count_none, count-suc}
use Rattle.lists.proofs.Place.{all-place_all}
use Rattle.build_ranges.specs.Codes.{tabulate, ranks_from, hash_place, rank_of, hash_code, codes, in_order, Fit}
use Rattle.build_ranges.proofs.Sorts.{all-sort}
use Rattle.build_ranges.proofs.Ranks.{rank_is, listed-none, listed_same, all_listed, map-listed, ranks-snoc, place_is, sum-none, sum_more, sum-take, ranks-small}
use Rattle.build_ranges.proofs.Order.{ordered-is}
use Rattle.build_stops.proofs.Walk.{sum-few}
use Rattle.build_sort.specs.Digits.{place_by, key_by, Readable, Ranks, Keyed}
use Rattle.build_sort.proofs.Order.{place_all-same}
use Rattle.maps.specs.Puts.{entry_of}
use Rattle.build_entries.specs.Laid.{entry_by, laid_entries, StartsTo}

-- a rank names a hash of a recording
pub record Names (lengths : List ℕ) (r : ℕ) : Type 0 where
  pub id : r / 8192 < length lengths
  pub off : r % 8192 < get_or lengths (r / 8192) 0

-- the ranks of recordings id, id + 1, ..
record From (id : ℕ) (ls : List ℕ) (r : ℕ) : Type 0 where
  low : id ≤ r / 8192
  high : r / 8192 < id + length ls
  off : r % 8192 < get_or ls (r / 8192 - id) 0

from-ranks : (id : ℕ) (ls : List ℕ) → All (λ n. n ≤ 8192) ls → All (From id ls) (ranks_from id ls)
unfolding ranks_from
from-ranks id [] a = tt
from-ranks id (n ∷ ls) a =
    let short = a.0 in
    all_append (From id (n ∷ ls)) (tabulate (λ j. 8192 * id + j) n) (ranks_from (suc id) ls)
    (all_listed (From id (n ∷ ls)) (λ j. 8192 * id + j) n (λ j l.
    let e : (8192 * id + j) / 8192 - id ≡ 0 = omega arith in
    record { low = omega arith; high = omega arith; off = rw e (omega arith) }))
    (all-imp (From (suc id) ls) (From id (n ∷ ls)) (λ r h.
    let lo = h.low in
    let hi = h.high in
    let e : r / 8192 - id ≡ suc (r / 8192 - suc id) = omega arith in
    record { low = omega arith; high = omega arith; off = rw e h.off })
    (ranks_from (suc id) ls) (from-ranks (suc id) ls a.1))

pub ranks-name : (lengths : List ℕ) → All (λ n. n ≤ 8192) lengths → All (Names lengths) (ranks_from 0 lengths)
ranks-name lengths a = all-imp (From 0 lengths) (Names lengths)
    (λ r h. let hi = h.high in let e : r / 8192 - 0 ≡ r / 8192 = omega arith in record { id = omega arith; off = rw e at h.off })
    (ranks_from 0 lengths) (from-ranks 0 lengths a)

pub place-small : (lengths : List ℕ) (r : ℕ) → Names lengths r → hash_place lengths r < sum lengths
unfolding hash_place
place-small lengths r h = let o = h.off in omega (arith, sum_more lengths (r / 8192) h.id, sum-take lengths (r / 8192 + 1))

module _ (words : List ℕ) (w : ℕ) (lengths : List ℕ) (fit : Fit words (w - 1) lengths) where
  codes-name : All (λ c. Names lengths (rank_of c)) (codes words (w - 1) lengths)
  unfolding codes
  codes-name = all_map (hash_code words (w - 1) lengths) (λ c. Names lengths (rank_of c)) (ranks_from 0 lengths)
      (all-imp (λ r. (r < 33554432) × Names lengths r) (λ r. Names lengths (rank_of (hash_code words (w - 1) lengths r))) (λ r h. rw (rank_is words (w - 1) lengths r h.0) h.1) (ranks_from 0 lengths)
      (all_both (λ r. r < 33554432) (Names lengths) (ranks_from 0 lengths) (ranks-small words (w - 1) lengths fit) (ranks-name lengths fit.short)))

  pub order-names : All (λ c. Names lengths (rank_of c)) (in_order words (w - 1) lengths)
  unfolding in_order
  order-names = all-sort (λ c. Names lengths (rank_of c)) (codes words (w - 1) lengths) codes-name

-- ---- arrival order

listed-add : {A : Type 0} (f : ℕ → A) (a b : ℕ) → tabulate f (a + b) ≡ tabulate f a ++ tabulate (λ j. f (a + j)) b
unfolding tabulate
listed-add f a zero = let e : a + 0 ≡ a = omega arith in rw (e, append-nil)
listed-add f a (suc b) =
    let e : a + suc b ≡ suc (a + b) = omega arith in
    rw e (ap (λ l. l ++ f (a + b) ∷ []) (listed-add f a b) ∙ append_assoc (tabulate f a) (tabulate (λ j. f (a + j)) b) (f (a + b) ∷ []))

count-listed : (t : ℕ → Bool) (n : ℕ) → length (keep t (tabulate (λ j. j) n)) ≡ count n t
unfolding tabulate
count-listed t zero = ap length (keep-nil t) ∙ sym (count_none t)
count-listed t (suc n) =
    let ih = count-listed t n in
    rw (keep_append t (tabulate (λ j. j) n) (n ∷ []), keep_one t n, count-suc t n, length-append) (test (t n) (λ e. rw e (omega arith)) (λ e. rw e (omega arith)))

-- one recording more
pub ranks-next : (lengths : List ℕ) (i : ℕ) → i < length lengths
    → ranks_from 0 (take i lengths) ++ tabulate (λ j. 8192 * i + j) (get_or lengths i 0) ≡ ranks_from 0 (take (i + 1) lengths)
ranks-next lengths i h =
    let e : 0 + length (take i lengths) ≡ i = omega (arith, length-take-le i lengths (omega arith)) in
    let n = get_or lengths i 0 in
    sym (rw (add-one, take-suc lengths i 0 h, ranks-snoc 0 (take i lengths) n, e))

pub ranks-none : (s : List ℕ) → take 0 s ≡ ranks_from 0 (take 0 s)
unfolding ranks_from
ranks-none s = refl

-- ranks in arrival order name the hashes one after the other
places-to : (lengths : List ℕ) → All (λ n. n ≤ 8192) lengths → (i : ℕ) → i ≤ length lengths → map (hash_place lengths) (ranks_from 0 (take i lengths)) ≡ tabulate (λ j. j) (sum (take i lengths))
unfolding ranks_from
places-to lengths a zero h = rw (sum-none) (sym (listed-none (λ j. j)))
places-to lengths a (suc i) h =
    let ih = places-to lengths a i (omega arith) in
    let short : get_or lengths i 0 ≤ 8192 = all-at (λ n. n ≤ 8192) lengths 0 a i (omega arith) in
    let n = get_or lengths i 0 in
    let start = sum (take i lengths) in
    rw (← add-one i, ← ranks-next lengths i (omega arith), sum_more lengths i (omega arith), listed-add (λ j. j) start n)
    (map-append (hash_place lengths) (ranks_from 0 (take i lengths)) (tabulate (λ j. 8192 * i + j) n)
    ∙ ap (λ l. l ++ map (hash_place lengths) (tabulate (λ j. 8192 * i + j) n)) ih
    ∙ ap (λ l. tabulate (λ j. j) start ++ l) (map-listed (hash_place lengths) (λ j. 8192 * i + j) n ∙ listed_same (λ j. hash_place lengths (8192 * i + j)) (λ j. start + j) n (λ j l. place_is lengths i j (omega arith))))

places-listed : (lengths : List ℕ) → All (λ n. n ≤ 8192) lengths → map (hash_place lengths) (ranks_from 0 lengths) ≡ tabulate (λ j. j) (sum lengths)
places-listed lengths a = rw (take_all (length lengths) lengths (omega arith)) at (places-to lengths a (length lengths) (omega arith))

-- ---- by the recordings' first hashes

module _ (words : List ℕ) (w : ℕ) (lengths starts : List ℕ) (fit : Fit words (w - 1) lengths) (known : StartsTo starts lengths (length lengths)) where
  abbrev ranks : List ℕ
  ranks = ranks_from 0 lengths

  names : All (Names lengths) (ranks_from 0 lengths)
  names = ranks-name lengths fit.short

  place-by : (r : ℕ) → Names lengths r → place_by starts r ≡ hash_place lengths r
  unfolding hash_place
  place-by r h = rw (known (r / 8192) h.id)

  readable : (r : ℕ) → Names lengths r → Readable words (w - 1) starts r
  readable r h = record {
    some = fit.some;
    id = let few = fit.recordings in omega (arith, h.id);
    small = rw (known (r / 8192) h.id) (omega (arith, sum-take lengths (r / 8192), sum-few words (w - 1) lengths fit));
    place = let p : suc (place_by starts r) ≤ sum lengths = rw (place-by r h) (place-small lengths r h) in
        rw (mul-suc) at (le_trans (mul-le-mul_left (w - 1) p) fit.whole);
  }

  pub ranks-readable : All (Readable words (w - 1) starts) (ranks_from 0 lengths)
  ranks-readable = all-imp (Names lengths) (Readable words (w - 1) starts) readable ranks names

  pub ranks-keyed : Keyed words (w - 1) starts (ranks_from 0 lengths) (sum lengths)
  unfolding key_by
  ranks-keyed t =
      let g : ℕ → Bool = λ i. t (key_at words (w - 1) i) in
      ap length (keep_same (λ r. g (place_by starts r)) (λ r. g (hash_place lengths r)) ranks (all-imp (Names lengths) (λ r. g (place_by starts r) ≡ g (hash_place lengths r)) (λ r h. ap g (place-by r h)) ranks names))
      ∙ sym (length-map (keep (λ r. g (hash_place lengths r)) ranks) (hash_place lengths))
      ∙ ap length (sym (keep-map (hash_place lengths) g ranks) ∙ ap (keep g) (places-listed lengths fit.short))
      ∙ count-listed g (sum lengths)

  -- entries of the ranks, sorted by key, are all entries in key order
  pub laid-ranks : map (entry_by words w starts) (place_all (key_by words (w - 1) starts) (ranks_from 0 lengths) []) ≡ laid_entries words w lengths
  unfolding laid_entries key_by
  laid-ranks =
      let key_r : ℕ → ℕ = λ r. key_at words (w - 1) (hash_place lengths r) in
      let entry_r : ℕ → List ℕ = λ r. entry_of (w - 1) words (r / 8192) (hash_place lengths r) in
      let sorted : List ℕ = place_all key_r ranks [] in
      ap (map (entry_by words w starts)) (place_all-same (key_by words (w - 1) starts) key_r ranks (all-imp (Names lengths) (λ r. key_by words (w - 1) starts r ≡ key_r r) (λ r h. rw (place-by r h)) ranks names))
      ∙ map_same (entry_by words w starts) entry_r sorted (all-imp (Names lengths) (λ r. entry_by words w starts r ≡ entry_r r) (λ r h. rw (place-by r h)) sorted (all-place_all key_r (Names lengths) ranks [] names tt))
      ∙ ap (map entry_r) (sym (ordered-is words (w - 1) lengths fit))
      ∙ map-map entry_r rank_of (in_order words (w - 1) lengths)

  -- ---- the same of words that are these ranks

  module _ (m : ℕ) (posts : List ℕ) (many : m ≡ sum lengths) (held : take m posts ≡ ranks_from 0 lengths) where
    pub ranks-held : m ≤ length posts → Ranks words (w - 1) starts posts 0 m
    ranks-held room = record {
      some = fit.some;
      few = omega (arith, many, sum-few words (w - 1) lengths fit);
      whole = rw many fit.whole;
      room = omega arith;
      readable = rw held ranks-readable;
    }

    pub keyed-held : Keyed words (w - 1) starts (take m posts) m
    keyed-held = rw (held, many) ranks-keyed

    sorted-held : (rs : List ℕ) → rs ≡ place_all (key_by words (w - 1) starts) (take m posts) [] → rs ≡ place_all (key_by words (w - 1) starts) (ranks_from 0 lengths) []
    sorted-held rs e = e ∙ ap (λ (l : List ℕ). place_all (key_by words (w - 1) starts) l []) held

    pub sorted-readable : (rs : List ℕ) → rs ≡ place_all (key_by words (w - 1) starts) (take m posts) [] → All (Readable words (w - 1) starts) rs
    sorted-readable rs e = rw (sorted-held rs e) (all-place_all (key_by words (w - 1) starts) (Readable words (w - 1) starts) ranks [] ranks-readable tt)

    pub sorted-laid : (rs : List ℕ) → rs ≡ place_all (key_by words (w - 1) starts) (take m posts) [] → map (entry_by words w starts) rs ≡ laid_entries words w lengths
    sorted-laid rs e = ap (map (entry_by words w starts)) (sorted-held rs e) ∙ laid-ranks
