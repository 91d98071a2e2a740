-- A step of the search with no branch, and what it does to a window. Assumes nothing.
use Rattle.std.proofs.Common.{◌≡◌, ℕ, zero, suc, ◌+◌, ◌-◌, ◌*◌, ◌/◌, ◌%◌, ◌^◌, ◌<◌, ◌≤◌, Bool, true, false, ltb, List, length, get_or, drop, sym, refl, ap, ◌∙◌, subst, ap₂, mul-le-mul_right, add_comm, mul-le-mul_left, mul-zero, mul-suc, mul-add, arith, length-drop, get_or-drop, ltb-false, ltb-true}
use lib.Bits.{bit_and, and_comm, and_mask, and_zero_l}
use Rattle.lists.specs.Entries.{key_at, keys_ascend}
use Rattle.lists.proofs.Tests.{test}
use Rattle.maps.specs.Sums.{when}
use Rattle.maps.proofs.Entries.{first-after, first-upto}
use Rattle.query_search.specs.Starts.{Window, Placed, Sought}

-- d is x less the key, modulo 2^64: its upper half is a mask
pub masked : (x key half d : ℕ) → x < 2 ^ 32 → key < 2 ^ 32 → half < 2 ^ 32 → d < 2 ^ 64 → (d + key) % 2 ^ 64 ≡ x → bit_and (d / 2 ^ 32) half ≡ when (ltb x key) half
masked x key half d hx hk hh hd e = test (ltb x key) below beyond
  where
    below : ltb x key ≡ true → bit_and (d / 2 ^ 32) half ≡ when (ltb x key) half
    below t =
        let l = ltb-true x key t in
        let u : d / 2 ^ 32 ≡ 2 ^ 32 - 1 = omega arith in
        let f : half % 2 ^ 32 ≡ half = omega arith in
        rw t (ap (λ (n : ℕ). bit_and n half) u ∙ and_comm (2 ^ 32 - 1) half ∙ and_mask half 32 ∙ f)

    beyond : ltb x key ≡ false → bit_and (d / 2 ^ 32) half ≡ when (ltb x key) half
    beyond t =
        let l = ltb-false x key t in
        let u : d / 2 ^ 32 ≡ 0 = omega arith in
        rw t (ap (λ (n : ℕ). bit_and n half) u ∙ and_zero_l half)

-- the larger half of a window is passed if its last posting is below the key, and else the other one is
module _ (ps : List ℕ) (w p key start r : ℕ) (t : keys_ascend ps w p ≡ true) where
  halves : (len : ℕ) → 0 < len → Window ps w p key len start
      → r ≡ start + when (ltb (key_at ps w (start + (len - len / 2 - 1))) key) (len - len / 2) → Window ps w p key (len / 2) r
  halves len pos W er = test (ltb x key) below beyond
    where
      last : ℕ
      last = start + (len - len / 2 - 1)

      x : ℕ
      x = key_at ps w last

      in-posts : last < p
      in-posts = omega (arith, W.within)

      below : ltb x key ≡ true → Window ps w p key (len / 2) r
      below b =
          let e : r ≡ start + (len - len / 2) = er ∙ ap (λ (c : Bool). start + when c (len - len / 2)) b in
          let f = first-after ps w p key last t in-posts (omega (arith, ltb-true x key b)) in
          record { since = omega arith; upto = omega (arith, W.upto); within = omega (arith, W.within) }

      beyond : ltb x key ≡ false → Window ps w p key (len / 2) r
      beyond b =
          let e : r ≡ start + 0 = er ∙ ap (λ (c : Bool). start + when c (len - len / 2)) b in
          let f = first-upto ps w p key last t in-posts (omega (arith, ltb-false x key b)) in
          record { since = omega (arith, W.since); upto = omega arith; within = omega (arith, W.within) }

  pub halved : (len : ℕ) → Window ps w p key len start
      → r ≡ start + when (ltb (key_at ps w (start + (len - len / 2 - 1))) key) (len - len / 2) → Window ps w p key (len / 2) r
  halved zero W er = let e : r ≡ start = er ∙ none (ltb (key_at ps w (start + 0)) key) in subst (Window ps w p key 0) (sym e) W
    where
      none : (b : Bool) → start + when b 0 ≡ start
      none true = omega arith
      none false = omega arith
  halved (suc n) W er = halves (suc n) (omega arith) W er

-- ---- by words

when-times : (b : Bool) (w n : ℕ) → when b (w * n) ≡ w * when b n
when-times true w n = refl
when-times false w n = sym (mul-zero w)

times-less : (w n : ℕ) → w * n - w ≡ w * (n - 1)
times-less w zero = omega arith
times-less w (suc n) = let e : suc n - 1 ≡ n = omega arith in rw (e, mul-suc) (omega arith)

pub times-some : (w n : ℕ) → 0 < w * n → w ≤ w * n
times-some w zero h = absurd (omega arith)
times-some w (suc n) h = rw mul-suc (omega arith)

-- where a window goes on
module _ (ps : List ℕ) (w p key len word : ℕ) (W : Placed ps w p key len word) where
  abbrev half : ℕ
  half = len - len / 2

  -- the last posting of its larger half
  last-is : get_or (drop (w * half - w) ps) word 0 ≡ key_at ps w (W.entry + (half - 1))
  last-is =
      let e : (w * half - w) + word ≡ w * (W.entry + (half - 1)) =
      ap₂ (λ (x y : ℕ). x + y) (times-less w half) W.stands ∙ add_comm (w * (half - 1)) (w * W.entry) ∙ sym (mul-add w W.entry (half - 1)) in
      get_or-drop (w * half - w) ps word 0 ∙ ap (λ (k : ℕ). get_or ps k 0) e

  pub halved-words : keys_ascend ps w p ≡ true → (r : ℕ) → r ≡ word + when (ltb (get_or (drop (w * half - w) ps) word 0) key) (w * half) → Placed ps w p key (len / 2) r
  halved-words t r e =
      let b = ltb (key_at ps w (W.entry + (half - 1))) key in
      record {
        entry = W.entry + when b half;
        stands = e ∙ ap (λ (k : ℕ). word + when (ltb k key) (w * half)) last-is ∙ ap₂ (λ (x y : ℕ). x + y) W.stands (when-times b w half) ∙ sym (mul-add w W.entry (when b half));
        window = halved ps w p key W.entry _ t len W.window refl;
      }

  -- its words are there
  there : (next n : ℕ) → next ≤ len → w * p ≤ n → word + w * next ≤ n
  there next n l h = let m : w * (W.entry + next) ≤ w * p = mul-le-mul_left w (omega (arith, W.window.within)) in omega (arith, W.stands, mul-add w W.entry next)

  pub half-few : w * p < 2 ^ 32 → word + w * half < 2 ^ 32
  half-few few = omega (arith, there half (w * p) (omega arith) (omega arith))

  pub half-there : 1 ≤ w → w * p ≤ length ps → 0 < w * half → word < length (drop (w * half - w) ps)
  half-there w1 h some = rw length-drop (omega (arith, times-some w half some, there half (length ps) (omega arith) h))

-- ---- how large numbers get
module _ (ps : List ℕ) (w p : ℕ) (hs : List ℕ) (h m : ℕ) (S : Sought ps w p hs h m) where
  pub few-entries : p < 2 ^ 32
  few-entries = let l = mul-le-mul_right p S.posting in omega (arith, S.counted)

  pub few_words : (n : ℕ) → n ≤ p → w * n < 2 ^ 32
  few_words n l = let k = mul-le-mul_left w l in omega (arith, S.counted)

-- ---- a step of the search, t being the postings from the last one of the larger half on
module _ (ps : List ℕ) (w p : ℕ) (hs : List ℕ) (h m : ℕ) (S : Sought ps w p hs h m) (key len word : ℕ) (W : Placed ps w p key len word) (t : List ℕ) (e : t ≡ drop (w * (len - len / 2) - w) ps) where
  pub step-fits : (0 < w * (len - len / 2) → word < length t) × (word + w * (len - len / 2) < 2 ^ 32)
  step-fits = rw e (half-there ps w p key len word W S.posting S.postings, half-few ps w p key len word W S.counted)

  pub stepped : (r : ℕ) → r ≡ word + when (ltb (get_or t word 0) key) (w * (len - len / 2)) → Placed ps w p key (len / 2) r
  stepped r er = halved-words ps w p key len word W S.ascend r (rw e at er)
