-- The postings that query hashes meet: those under a key stand between the first at it and the first above it. Assumes nothing.
use Rattle.std.proofs.Common.{◌≡◌, ℕ, zero, suc, ◌+◌, ◌-◌, ◌*◌, ◌/◌, ◌<◌, ◌≤◌, Bool, true, false, ◌&&◌, eqb, ltb, ◌⊎◌, List, [], ◌∷◌, ◌++◌, length, get_or, drop, set, sym, refl, ap, ◌∙◌, ap₂, inl, inr, eq-or-lt_of_le, mul-le-mul_left, add-one, arith, length-drop, length-take, get_or-set_other, get_or-set_same, ltb-false, ltb-true, le-ltb, lt-ltb, eqb-true}
use native.Mathlib.Nat.{mul-sub, mul-div_cancel_left}
use borrow.Author.Tests.{eqb-false}
use Rattle.lists.specs.Lists.{sum}
use Rattle.lists.specs.Keys.{under}
use Rattle.lists.specs.Entries.{entries, entry_at, key_of, key_at, keys_ascend}
use Rattle.lists.proofs.Tests.{test}
use Rattle.lists.proofs.Entries.{stride, entries_none, entries-suc, entries-take, entry_key}
use Rattle.maps.specs.Sums.{when}
use Rattle.maps.specs.Entries.{first_at}
use Rattle.maps.proofs.Entries.{first-splits, first-le, first-after, first-upto, under-part, part_length, part-entries}
use Rattle.query_search.specs.Starts.{Ends, met}

-- ---- those under one key

pub entry-behind : (w j p : ℕ) → 1 ≤ w → w * p ≤ w * j → p ≤ j
entry-behind w j p w1 h = test (ltb j p) (λ l. absurd (omega (arith, stride w j p (w * p) (ltb-true j p l) (omega arith)))) (ltb-false j p)

-- an entry whose word lies before that of entry p
pub entry-below : (w j p : ℕ) → w * j < w * p → j < p
entry-below w j p h = test (ltb j p) (ltb-true j p) (λ n. absurd (omega (arith, mul-le-mul_left w (ltb-false j p n))))

module _ (ps : List ℕ) (w p key : ℕ) (t : keys_ascend ps w p ≡ true) where
  -- an entry that stands at the key or behind is under it just where it stands before the first above
  pub under-test : (e : ℕ) → first_at ps w p key ≤ e → e < p → eqb (key_at ps w e) key ≡ ltb e (first_at ps w p (key + 1))
  under-test e since h = test (eqb (key_at ps w e) key) yes no
    where
      yes : eqb (key_at ps w e) key ≡ true → eqb (key_at ps w e) key ≡ ltb e (first_at ps w p (key + 1))
      yes q = q ∙ sym (lt-ltb e (first_at ps w p (key + 1)) (first-after ps w p (key + 1) e t h (omega (arith, eqb-true (key_at ps w e) key q))))

      no : eqb (key_at ps w e) key ≡ false → eqb (key_at ps w e) key ≡ ltb e (first_at ps w p (key + 1))
      no q =
          let a = (first-splits ps w p key t).above e since h in
          let n : key + 1 ≤ key_at ps w e = omega (arith, a, eqb-false (key_at ps w e) key q) in
          q ∙ sym (le-ltb e (first_at ps w p (key + 1)) (first-upto ps w p (key + 1) e t h n))

  -- the same by the word at which it stands
  pub under-word : 1 ≤ w → (j e : ℕ) → e ≡ w * j → first_at ps w p key ≤ j → (ltb e (w * p) && eqb (get_or ps e 0) key) ≡ ltb j (first_at ps w p (key + 1))
  under-word w1 j e q since = test (ltb j p) inside behind
    where
      inside : ltb j p ≡ true → (ltb e (w * p) && eqb (get_or ps e 0) key) ≡ ltb j (first_at ps w p (key + 1))
      inside l = rw (q, lt-ltb (w * j) (w * p) (omega (arith, stride w j p (w * p) (ltb-true j p l) (omega arith)))) (under-test j since (ltb-true j p l))

      behind : ltb j p ≡ false → (ltb e (w * p) && eqb (get_or ps e 0) key) ≡ ltb j (first_at ps w p (key + 1))
      behind l =
          let m = mul-le-mul_left w (ltb-false j p l) in
          rw (q, le-ltb (w * j) (w * p) m) (sym (le-ltb j (first_at ps w p (key + 1)) (omega (arith, ltb-false j p l, (first-splits ps w p (key + 1) t).within))))

  -- the first at the key is under it just where it isn't above
  pub first-test : (x : ℕ) → first_at ps w p key < p → x ≡ key_at ps w (first_at ps w p key) → 1 - when (ltb key x) 1 ≡ when (ltb (first_at ps w p key) (first_at ps w p (key + 1))) 1
  first-test x h e = test (ltb key x) above at
    where
      above : ltb key x ≡ true → 1 - when (ltb key x) 1 ≡ when (ltb (first_at ps w p key) (first_at ps w p (key + 1))) 1
      above q = rw (q, le-ltb (first_at ps w p key) (first_at ps w p (key + 1)) (first-upto ps w p (key + 1) (first_at ps w p key) t h (omega (arith, ltb-true key x q))))

      at : ltb key x ≡ false → 1 - when (ltb key x) 1 ≡ when (ltb (first_at ps w p key) (first_at ps w p (key + 1))) 1
      at q = rw (q, lt-ltb (first_at ps w p key) (first_at ps w p (key + 1)) (first-after ps w p (key + 1) (first_at ps w p key) t h (omega (arith, ltb-false key x q))))

  -- the walk begins before the first above, or there
  pub first_reach : (r : ℕ) → r ≡ when (ltb (first_at ps w p key) (first_at ps w p (key + 1))) 1 → (first_at ps w p key + r ≤ first_at ps w p (key + 1)) × (r ≤ 1)
  first_reach r er = test (ltb a (first_at ps w p (key + 1))) before there
    where
      a : ℕ
      a = first_at ps w p key

      before : ltb a (first_at ps w p (key + 1)) ≡ true → (a + r ≤ first_at ps w p (key + 1)) × (r ≤ 1)
      before q =
          let e : r ≡ 1 = er ∙ ap (λ (b : Bool). when b 1) q in
          (omega (arith, ltb-true a (first_at ps w p (key + 1)) q), omega arith)

      there : ltb a (first_at ps w p (key + 1)) ≡ false → (a + r ≤ first_at ps w p (key + 1)) × (r ≤ 1)
      there q =
          let e : r ≡ 0 = er ∙ ap (λ (b : Bool). when b 1) q in
          (omega (arith, first-le ps w p key t), omega arith)

  -- how many they are
  pub under-many : 1 ≤ w → w * p ≤ length ps → length (under key_of key (entries w p ps)) ≡ first_at ps w p (key + 1) - first_at ps w p key
  under-many w1 fits =
      let a = first_at ps w p key in
      let b = first_at ps w p (key + 1) in
      let n = length (under key_of key (entries w p ps)) in
      let inside : w * b ≤ w * p = mul-le-mul_left w (first-splits ps w p (key + 1) t).within in
      let part : w * n ≡ w * (b - a) = sym (part_length ps w p key fits) ∙ ap length (under-part ps w p key a b w1 t refl refl) ∙ rw (length-take, length-drop, mul-sub) (omega (arith, inside)) in
      sym (mul-div_cancel_left n (omega arith)) ∙ ap (λ (k : ℕ). k / w) part ∙ mul-div_cancel_left (b - a) (omega arith)

  -- they stand together
  pub under-entries : 1 ≤ w → w * p ≤ length ps → under key_of key (entries w p ps) ≡ entries w (first_at ps w p (key + 1) - first_at ps w p key) (drop (w * first_at ps w p key) ps)
  under-entries w1 fits =
      let a = first_at ps w p key in
      let b = first_at ps w p (key + 1) in
      let m : w * b - w * a ≡ w * (b - a) = sym (mul-sub w b a) in
      sym (part-entries ps w p key fits) ∙ ap₂ (λ (n : ℕ) (l : List ℕ). entries w n l) (under-many w1 fits) (under-part ps w p key a b w1 t refl refl)
      ∙ rw m (entries-take w (b - a) (drop (w * a) ps))

-- ---- those of the first i query hashes in the words hs, h words each
module _ (es : List (List ℕ)) where
  met-snoc : (hs : List (List ℕ)) (g : List ℕ) → met es (hs ++ g ∷ []) ≡ met es hs + length (under key_of (key_of g) es)
  unfolding met sum
  met-snoc [] g = omega arith
  met-snoc (f ∷ hs) g = let ih = met-snoc hs g in omega arith

  module _ (h : ℕ) (hs : List ℕ) where
    pub met-none : met es (entries h 0 hs) ≡ 0
    unfolding met sum
    met-none = rw (entries_none h hs)

    pub met-more : 1 ≤ h → (i : ℕ) → met es (entries h (i + 1) hs) ≡ met es (entries h i hs) + length (under key_of (key_at hs h i) es)
    met-more h1 i = rw (add-one i, entries-suc h i hs) (met-snoc (entries h i hs) (entry_at h i hs) ∙ ap (λ (k : ℕ). met es (entries h i hs) + length (under key_of k es)) (entry_key h i hs h1))

    longer : 1 ≤ h → (i d : ℕ) → met es (entries h i hs) ≤ met es (entries h (i + d) hs)
    longer h1 i zero = let e : i + 0 ≡ i = omega arith in rw e (omega arith)
    longer h1 i (suc d) =
        let ih = longer h1 i d in
        let e : i + suc d ≡ (i + d) + 1 = omega arith in
        rw e (omega (arith, met-more h1 (i + d)))

    pub met-longer : 1 ≤ h → (i m : ℕ) → i ≤ m → met es (entries h i hs) ≤ met es (entries h m hs)
    met-longer h1 i m l = let e : i + (m - i) ≡ m = omega arith in rw e at (longer h1 i (m - i))

-- ---- their ends
pub ends_more : (ps : List ℕ) (w p : ℕ) (hs : List ℕ) (h i : ℕ) (ends : List ℕ) (x : ℕ) → Ends ps w p hs h i ends → i < length ends → x ≡ w * first_at ps w p (key_at hs h i + 1) → Ends ps w p hs h (i + 1) (set ends i x)
ends_more ps w p hs h i ends x E l e = record { stops = λ j k. at j (eq-or-lt_of_le (omega arith)) }
  where
    at : (j : ℕ) → (j ≡ i) ⊎ (j < i) → get_or (set ends i x) j 0 ≡ w * first_at ps w p (key_at hs h j + 1)
    at j (inl q) = rw q (get_or-set_same ends i x 0 l ∙ e)
    at j (inr k) = get_or-set_other ends i j x 0 (λ q. omega arith) ∙ E.stops j k
