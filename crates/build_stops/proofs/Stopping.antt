-- The walk over entries in key order that stops keys: what holds at the start of a run, and how a run keeps it. Assumes nothing.
use mathlib.Core.Path.{◌≡◌, refl, sym, ap, ◌∙◌}
use mathlib.Core.Logic.{⊎_elim}
use mathlib.Core.Bool.{Bool, true, false, cond, not}
use mathlib.Core.List.{List, [], ◌∷◌, ◌++◌, append_assoc, append-nil}
use Prim.Native.Nat.{ℕ, ◌+◌, ◌*◌, ◌-◌, ◌≤◌, ◌<◌}
use native.Mathlib.Nat.{mul-add, mul-le-mul_left, mul-zero}
use native.Mathlib.Numerals.{add-one}
use native.Mathlib.Omega.{arith}
use lib.ListN.{length, get_or, take, drop, set, length-append, length-set}
use lib.Seq.{drop-drop, get_or-drop, take-suc-set}
use lib.Dec.{ltb}
use borrow.Author.Tests.{lt-ltb, le-ltb}
use Rattle.lists.specs.Lists.{keep, member, All, flat}
use Rattle.lists.specs.Keys.{has_key, times}
use Rattle.lists.specs.Entries.{entries, key_of, key_at, keys_ascend}
use Rattle.lists.proofs.Tests.{le-or-lt}
use Rattle.lists.proofs.Keep.{all-make, length-keep, flat_append}
use Rattle.lists.proofs.Entries.{entries-append, entries_at, entry_key, length-entries, flat-entries, keys-le}
use Rattle.build_stops.specs.Over.{over, over_keys, keys_of, kept, RunEnd}
use Rattle.build_stops.proofs.Over.{member-over, ascending-over}
use Rattle.build_stops.proofs.Stops.{stops-run, kept_run, run-times, stops-all}

-- each entry's key, by its place
pub all-keys : (P : ℕ → Type 0) (w n : ℕ) (s : List ℕ) → 1 ≤ w → ((t : ℕ) → t < n → P (key_at s w t)) → All (λ e. P (key_of e)) (entries w n s)
all-keys P w n s w1 h = all-make (λ e. P (key_of e)) (entries w n s) [] (λ t lt.
    let l : t < n = omega (arith, length-entries w n s) in
    rw (entries_at w n s t l, entry_key w t s w1) (h t l))

pub drop-later : (a b : ℕ) (l m : List ℕ) → a ≤ b → drop a l ≡ drop a m → drop b l ≡ drop b m
drop-later a b l m h e = let q : a + (b - a) ≡ b = omega arith in rw q at (sym (drop-drop (b - a) a l) ∙ ap (drop (b - a)) e ∙ drop-drop (b - a) a m)

pub get_or-later : (a t : ℕ) (l m : List ℕ) → a ≤ t → drop a l ≡ drop a m → get_or l t 0 ≡ get_or m t 0
get_or-later a t l m h e =
    let q : a + (t - a) ≡ t = omega arith in
    rw q at (sym (get_or-drop a l (t - a) 0) ∙ ap (λ r. get_or r (t - a) 0) e ∙ get_or-drop a m (t - a) 0)

module _ (w n limit : ℕ) (s₀ : List ℕ) where
  abbrev pub all : List (List ℕ)
  all = entries w n s₀

  abbrev pub is_over : ℕ → Bool
  is_over k = over limit (keys_of (entries w n s₀)) k

  abbrev pub kept_to : ℕ → List (List ℕ)
  kept_to i = keep (λ e. not (is_over (key_of e))) (entries w i s₀)

  abbrev pub stops_to : ℕ → List ℕ
  stops_to i = keep (λ y. has_key key_of y (entries w i s₀)) (over_keys limit (keys_of all))

  -- at the start of a run: i entries were read, q kept, k keys stopped
  pub record Stopping (ss₀ s ss : List ℕ) (i q k : ℕ) : Type 0 where
    pub within : i ≤ n
    pub border : i < n → (t : ℕ) → t < i → key_at s₀ w t < key_at s₀ w i
    pub q-is : q ≡ length (kept_to i)
    pub k-is : k ≡ length (stops_to i)
    pub words : take (w * q) s ≡ flat (kept_to i)
    pub rest : drop (w * i) s ≡ drop (w * i) s₀
    pub len : length s ≡ length s₀
    pub keys : take k ss ≡ stops_to i
    pub len-keys : length ss ≡ length ss₀

  pub stopping-none : (ss : List ℕ) → Stopping ss s₀ ss 0 0 0
  unfolding keep entries flat Rattle.lists.specs.Lists.some?
  stopping-none ss =
      let none : stops_to 0 ≡ [] = Rattle.lists.proofs.Keep.keep-none (λ y. has_key key_of y (entries w 0 s₀)) (over_keys limit (keys_of all))
      (Rattle.lists.proofs.Keep.all_of (λ y. has_key key_of y (entries w 0 s₀) ≡ false) (λ y. refl) (over_keys limit (keys_of all))) in
      record {
        within = omega arith;
        border = λ h t l. absurd (omega arith);
        q-is = refl;
        k-is = sym (ap length none);
        words = rw mul-zero;
        rest = refl;
        len = refl;
        keys = sym none;
        len-keys = refl;
      }

  -- q entries take no more room than i
  pub fewer : (ss₀ s ss : List ℕ) (i q k : ℕ) → Stopping ss₀ s ss i q k → q ≤ i
  fewer ss₀ s ss i q k h = omega (arith, h.q-is, length-keep (λ e. not (is_over (key_of e))) (entries w i s₀), length-entries w i s₀)

  module _ (w1 : 1 ≤ w) (room : w * n ≤ length s₀) (asc : keys_ascend s₀ w n ≡ true) (ss₀ s ss : List ℕ) (i q k e : ℕ)
      (h : Stopping ss₀ s ss i q k) (lt : i < n) (r : RunEnd s w i n e) where
    abbrev x : ℕ
    x = key_at s₀ w i

    abbrev A : List (List ℕ)
    A = entries w i s₀

    abbrev B : List (List ℕ)
    B = entries w (e - i) (drop (w * i) s₀)

    abbrev C : List (List ℕ)
    C = entries w (n - e) (drop (w * e) s₀)

    pub key-now : (t : ℕ) → i ≤ t → key_at s w t ≡ key_at s₀ w t
    key-now t le = get_or-later (w * i) (w * t) s s₀ (mul-le-mul_left w le) h.rest

    run-key : (t : ℕ) → i ≤ t → t < e → key_at s₀ w t ≡ x
    run-key t a b = sym (key-now t a) ∙ r.same t a b ∙ key-now i (omega arith)

    next-key : (t : ℕ) → e ≤ t → t < n → x < key_at s₀ w t
    next-key t a b =
        let en : e < n = omega arith in
        let ie = r.some in
        let up : x ≤ key_at s₀ w e = keys-le w n s₀ asc i e (omega arith) en in
        let ne : key_at s₀ w e ≡ x → ⊥ = λ q. r.other en (key-now e (omega arith) ∙ q ∙ sym (key-now i (omega arith))) in
        omega (arith, up, ne, keys-le w n s₀ asc e t a b)

    shifted : (a t : ℕ) → key_at (drop (w * a) s₀) w t ≡ key_at s₀ w (a + t)
    shifted a t = get_or-drop (w * a) s₀ (w * t) 0 ∙ rw (← (mul-add w a t))

    lower : All (λ y. key_of y < x) A
    lower = all-keys (λ y. y < x) w i s₀ w1 (h.border lt)

    same : All (λ y. key_of y ≡ x) B
    same = let ie = r.some in all-keys (λ y. y ≡ x) w (e - i) (drop (w * i) s₀) w1 (λ t l. shifted i t ∙ run-key (i + t) (omega arith) (omega arith))

    higher : All (λ y. x < key_of y) C
    higher = all-keys (λ y. x < y) w (n - e) (drop (w * e) s₀) w1 (λ t l. rw (shifted e t) (next-key (e + t) (omega arith) (omega arith)))

    strides : w * i + w * (e - i) ≡ w * e
    strides = let ie = r.some in let q : i + (e - i) ≡ e = omega arith in rw q at (sym (mul-add w i (e - i)))

    to_end : entries w e s₀ ≡ A ++ B
    to_end = let ie = r.some in let q : i + (e - i) ≡ e = omega arith in rw q at (entries-append w i (e - i) s₀)

    whole : all ≡ A ++ (B ++ C)
    whole =
        let q : e + (n - e) ≡ n = let en = r.within in omega arith in
        rw q at (entries-append w e (n - e) s₀) ∙ ap (λ l. l ++ C) to_end ∙ append_assoc A B C

    long : length B ≡ e - i
    long = length-entries w (e - i) (drop (w * i) s₀)

    some : 0 < length B
    some = let ie = r.some in omega (arith, long)

    often : times x (keys_of all) ≡ e - i
    often = ap (λ l. times x (keys_of l)) whole ∙ run-times A B C x lower same higher ∙ long

    border-next : e < n → (t : ℕ) → t < e → key_at s₀ w t < key_at s₀ w e
    border-next en t l =
        let up = next-key e (omega arith) en in
        ⊎_elim (λ (le : i ≤ t). rw (run-key t le l) up) (λ (b : t < i). omega (arith, h.border lt t b)) (le-or-lt i t)

    stops-next : (v : Bool) → member x (over_keys limit (keys_of all)) ≡ v → stops_to e ≡ stops_to i ++ cond v (x ∷ []) []
    stops-next v m =
        ap (λ l. keep (λ y. has_key key_of y l) (over_keys limit (keys_of all))) to_end
        ∙ stops-run A B x lower same some (over_keys limit (keys_of all)) (ascending-over limit (keys_of all)) ∙ rw m

    kept_next : (v : Bool) → is_over x ≡ v → kept_to e ≡ kept_to i ++ cond v [] B
    kept_next v m = ap (keep (λ y. not (is_over (key_of y)))) to_end ∙ kept_run A B x lower same some is_over v m

    rest-next : drop (w * e) s ≡ drop (w * e) s₀
    rest-next = drop-later (w * i) (w * e) s s₀ (mul-le-mul_left w (let ie = r.some in omega arith)) h.rest

    pub in_words : w * i + w * (e - i) ≤ length s
    in_words = omega (arith, strides, mul-le-mul_left w r.within, h.len)

    -- more than the limit: the key is stopped
    module _ (much : limit < e - i) where
      past : is_over x ≡ true
      past = ap (ltb limit) often ∙ lt-ltb limit (e - i) much

      one_more : stops_to e ≡ stops_to i ++ x ∷ []
      one_more = stops-next true (member-over limit (keys_of all) x ∙ past)

      pub stops-room : length (over_keys limit (keys_of all)) ≤ length ss₀ → k < length ss
      stops-room fits =
          let c = length-keep (λ y. has_key key_of y (entries w e s₀)) (over_keys limit (keys_of all)) in
          omega (arith, h.k-is, h.len-keys, ap length one_more ∙ length-append (stops_to i) (x ∷ []), c, fits)

      pub stopping-stop : k < length ss → Stopping ss₀ s (set ss k x) e q (k + 1)
      stopping-stop l =
          let none : kept_to e ≡ kept_to i = kept_next true past ∙ append-nil (kept_to i) in
          record {
            within = r.within;
            border = border-next;
            q-is = h.q-is ∙ ap length (sym none);
            k-is = omega (arith, h.k-is, ap length one_more ∙ length-append (stops_to i) (x ∷ []));
            words = h.words ∙ ap flat (sym none);
            rest = rest-next;
            len = h.len;
            keys = rw (add-one k) (take-suc-set ss k x l ∙ ap (λ m. m ++ x ∷ []) h.keys ∙ sym one_more);
            len-keys = length-set ss k x ∙ h.len-keys;
          }

    -- within the limit: the entries are kept
    module _ (few : e - i ≤ limit) where
      not-past : is_over x ≡ false
      not-past = ap (ltb limit) often ∙ le-ltb limit (e - i) few

      pub stopping-keep : (s' : List ℕ) → length s' ≡ length s → take (w * q + w * (e - i)) s' ≡ take (w * q) s ++ take (w * (e - i)) (drop (w * i) s)
          → drop (w * i + w * (e - i)) s' ≡ drop (w * i + w * (e - i)) s → Stopping ss₀ s' ss e (q + (e - i)) k
      stopping-keep s' len moved left =
          let more : kept_to e ≡ kept_to i ++ B = kept_next false not-past in
          let none : stops_to e ≡ stops_to i = stops-next false (member-over limit (keys_of all) x ∙ not-past) ∙ append-nil (stops_to i) in
          record {
            within = r.within;
            border = border-next;
            q-is = omega (arith, h.q-is, ap length more ∙ length-append (kept_to i) B, long);
            k-is = h.k-is ∙ ap length (sym none);
            words = rw (mul-add w q (e - i)) (moved ∙ rw (h.words, h.rest, more, flat_append (kept_to i) B, flat-entries w (e - i) (drop (w * i) s₀)));
            rest = rw strides at left ∙ rest-next;
            len = len ∙ h.len;
            keys = h.keys ∙ sym none;
            len-keys = h.len-keys;
          }

  -- all entries were read
  module _ (ss₀ s ss : List ℕ) (q k : ℕ) (h : Stopping ss₀ s ss n q k) where
    pub kept-end : kept_to n ≡ kept limit (entries w n s₀)
    unfolding kept
    kept-end = refl

    pub stops_end : stops_to n ≡ over_keys limit (keys_of (entries w n s₀))
    stops_end = stops-all limit all
