-- Laws of a build's first tests: the slices' lengths, and the words of the call. Assumes nothing.
use mathlib.Core.Path.{◌≡◌, refl, sym, ap, ◌∙◌}
use mathlib.Core.Bool.{Bool, true, false, not, ◌&&◌, ◌||◌}
use mathlib.Core.List.{List, [], ◌∷◌, ◌++◌, map}
use Prim.Native.Nat.{ℕ, zero, suc, ◌+◌, ◌-◌, ◌/◌, ◌%◌, ◌≤◌, ◌<◌}
use native.Mathlib.Numerals.{add-one}
use native.Mathlib.Omega.{arith}
use lib.ListN.{length, get_or, take, drop}
use lib.Seq.{take-suc}
use lib.Dec.{eqb, leb, ltb}
use borrow.Author.Tests.{leb-true, lt-ltb, ne_eqb, eq-eqb}
use Rattle.std.specs.List.{list_any}
use Rattle.lists.specs.Lists.{some?, sum}
use Rattle.lists.proofs.Tests.{and_left, and_right, or_right, or-false-left, or-false-right}
use Rattle.lists.proofs.Keep.{some-map}
use Rattle.build_ranges.proofs.Ranks.{sum_more, sum-take}
use Rattle.model.specs.Fingerprints.{Hash, uneven, hash_count, divided, malformed_build, reference_most}
use Rattle.model.specs.Rows.{is_set}
use Rattle.model.specs.Words.{sizes_of, sizes_listed, between, slices_listed, head_width, row_width}
use Rattle.model.proofs.Stores.{sizes-listed}
use Rattle.soundness.specs.Scan.{words}

-- ---- lengths of the slices

module _ (w : ℕ) (refs posts stops : List ℕ) (w2 : 2 ≤ w) (l : slices_listed w (words refs posts stops) ≡ true) where
  abbrev R : ℕ
  R = (length refs - head_width) / row_width

  abbrev P : ℕ
  P = length posts / w

  abbrev K : ℕ
  K = length stops

  sizes : between 1 4096 R && (between 1 1048576 P && between 1 65536 K) ≡ true
  unfolding sizes_listed sizes_of
  sizes = sizes-listed w (words refs posts stops) w2 l

  room : between 1 1048576 P && between 1 65536 K ≡ true
  room = and_right (between 1 4096 R) (between 1 1048576 P && between 1 65536 K) sizes

  pub few-rows : (length refs - head_width) / row_width ≤ 4096
  few-rows = leb-true R 4096 (and_right (leb 1 R) (leb R 4096) (and_left (between 1 4096 R) (between 1 1048576 P && between 1 65536 K) sizes))

  pub some-rows : 1 ≤ (length refs - head_width) / row_width
  some-rows = leb-true 1 R (and_left (leb 1 R) (leb R 4096) (and_left (between 1 4096 R) (between 1 1048576 P && between 1 65536 K) sizes))

  pub few-postings : length posts / w ≤ 1048576
  few-postings = leb-true P 1048576 (and_right (leb 1 P) (leb P 1048576) (and_left (between 1 1048576 P) (between 1 65536 K) room))

  pub few-stops : length stops ≤ 65536
  few-stops = leb-true K 65536 (and_right (leb 1 K) (leb K 65536) (and_right (between 1 1048576 P) (between 1 65536 K) room))

-- ---- a test on a list, element by element

module _ (t : ℕ → Bool) where
  pub some_at : (l : List ℕ) (i : ℕ) → i < length l → t (get_or l i 0) ≡ true → some? t l ≡ true
  unfolding some?
  some_at [] i h e = absurd (omega arith)
  some_at (x ∷ l) zero h e = rw e
  some_at (x ∷ l) (suc i) h e = or_right (t x) (some? t l) (some_at l i (omega arith) e)

  some-snoc : (l : List ℕ) (x : ℕ) → some? t l ≡ false → t x ≡ false → some? t (l ++ x ∷ []) ≡ false
  unfolding some?
  some-snoc [] x h e = rw e
  some-snoc (y ∷ l) x h e = rw (or-false-left (t y) (some? t l) h) (some-snoc l x (or-false-right (t y) (some? t l) h) e)

  pub some-none : some? t [] ≡ false
  unfolding some?
  some-none = refl

  pub some_more : (l : List ℕ) (i : ℕ) → i < length l → some? t (take i l) ≡ false → t (get_or l i 0) ≡ false → some? t (take (i + 1) l) ≡ false
  some_more l i h a e = rw (add-one, take-suc l i 0 h) (some-snoc (take i l) (get_or l i 0) a e)

-- the library's test is the same
pub some-any : (t : ℕ → Bool) (l : List ℕ) → list_any t l ≡ some? t l
unfolding some?
some-any t [] = refl
some-any t (x ∷ l) = rw (some-any t l)

-- ---- the recordings' sets

abbrev pub faulty : ℕ → Bool
faulty s = not (is_set s)

-- as many rates and sets as lengths: each set goes to a fingerprint
pub sets-divided : (hs : List Hash) (lengths rates sets : List ℕ) → length rates ≡ length lengths → length sets ≡ length lengths → map (λ f. f.set) (divided hs lengths rates sets) ≡ sets
unfolding divided
sets-divided hs [] rates [] h k = refl
sets-divided hs [] rates (s ∷ sets) h k = absurd (omega arith)
sets-divided hs (n ∷ lengths) [] sets h k = absurd (omega arith)
sets-divided hs (n ∷ lengths) (r ∷ rates) [] h k = absurd (omega arith)
sets-divided hs (n ∷ lengths) (r ∷ rates) (s ∷ sets) h k = ap (λ l. s ∷ l) (sets-divided (drop n hs) lengths rates sets (omega arith) (omega arith))

-- so the fingerprints' test is one on the words
pub faulty-is : (hs : List Hash) (lengths rates sets : List ℕ) → length rates ≡ length lengths → length sets ≡ length lengths
    → some? (λ f. not (is_set f.set)) (divided hs lengths rates sets) ≡ some? (λ s. not (is_set s)) sets
faulty-is hs lengths rates sets h k = sym (some-map (λ f. f.set) faulty (divided hs lengths rates sets)) ∙ ap (some? faulty) (sets-divided hs lengths rates sets h k)

-- ---- the recordings' lengths

abbrev pub long : ℕ → Bool
long n = ltb reference_most n

abbrev pub fits : List ℕ → ℕ → Bool
fits l m = not (some? long l || not (eqb (sum l) m))

pub too_long : (l : List ℕ) (m i : ℕ) → i < length l → 8192 < get_or l i 0 → false ≡ fits l m
too_long l m i h k = rw (some_at long l i h (lt-ltb 8192 (get_or l i 0) k))

pub too_many : (l : List ℕ) (m i : ℕ) → i < length l → m < sum (take i l) + get_or l i 0 → false ≡ fits l m
too_many l m i h k =
    let ne : eqb (sum l) m ≡ false = ne_eqb (sum l) m (λ e. omega (arith, sum_more l i h, sum-take l (i + 1))) in
    rw ne (go (some? long l))
  where
    go : (b : Bool) → false ≡ not (b || not false)
    go true = refl
    go false = refl

-- ---- the words of the call

module _ (w : ℕ) (hashes lengths rates sets : List ℕ) where
  abbrev rest : Bool
  rest = not (eqb (sum lengths) (hash_count w hashes))

  pub is-uneven : (length hashes % (w - 1) ≡ 0 → ⊥) → true ≡ malformed_build w hashes lengths rates sets
  unfolding malformed_build
  is-uneven h = rw (ne_eqb (length hashes % (w - 1)) 0 h)

  pub unlike : (length rates ≡ length lengths → ⊥) → true ≡ malformed_build w hashes lengths rates sets
  unfolding malformed_build
  unlike h = rw (ne_eqb (length rates) (length lengths) h) (go (uneven w hashes) (some? long lengths))
    where
      go : (a b : Bool) → true ≡ a || (b || (not false || (not (eqb (length sets) (length lengths)) || rest)))
      go true b = refl
      go false true = refl
      go false false = refl

  pub unlike-sets : (length sets ≡ length lengths → ⊥) → true ≡ malformed_build w hashes lengths rates sets
  unfolding malformed_build
  unlike-sets h = rw (ne_eqb (length sets) (length lengths) h) (go (uneven w hashes) (some? long lengths) (not (eqb (length rates) (length lengths))))
    where
      go : (a b c : Bool) → true ≡ a || (b || (c || (not false || rest)))
      go true b c = refl
      go false true c = refl
      go false false true = refl
      go false false false = refl

  pub as-lengths : length hashes % (w - 1) ≡ 0 → length rates ≡ length lengths → length sets ≡ length lengths → (b : Bool) → b ≡ fits lengths (hash_count w hashes)
      → not b ≡ malformed_build w hashes lengths rates sets
  unfolding malformed_build
  as-lengths h k g b e =
      rw (e, eq-eqb (length hashes % (w - 1)) 0 h, eq-eqb (length rates) (length lengths) k, eq-eqb (length sets) (length lengths) g)
      (go (some? long lengths) (eqb (sum lengths) (hash_count w hashes)))
    where
      go : (a c : Bool) → not (not (a || not c)) ≡ not true || (a || (not true || (not true || not c)))
      go true c = refl
      go false true = refl
      go false false = refl
