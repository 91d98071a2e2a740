-- Entries merged into words that are zero behind the old entries. Assumes nothing.
use mathlib.Core.Path.{◌≡◌, refl, sym, ap, ◌∙◌}
use mathlib.Core.Bool.{true}
use mathlib.Core.List.{List, [], ◌∷◌, ◌++◌, map, append_assoc, append-nil}
use Prim.Native.Nat.{ℕ, zero, suc, ◌+◌, ◌*◌, ◌-◌, ◌/◌, ◌≤◌, ◌<◌}
use native.Mathlib.Nat.{mul-add, mul-le-mul_left, mul-div_cancel_left, le_trans, le_refl, one-mul}
use native.Mathlib.Omega.{arith}
use lib.IntN.{ℤ, pos}
use lib.ListN.{length, get_or, take, drop, replicate, length-map, replicate-append-replicate}
use lib.Seq.{drop-drop, drop_at, length-take-le, take-take}
use Rattle.lists.specs.Lists.{flat}
use Rattle.lists.specs.Keys.{Sorted, place_all}
use Rattle.lists.specs.Entries.{entries, key_of, key_at, keys_ascend, zero_from, padded, Wide}
use Rattle.lists.proofs.Keep.{length-flat, length-keep, all_keep, all_map, all-make, all_of}
use Rattle.lists.proofs.Place.{sorted-keep, sorted-map, all-place_all, length-place_all, place_all-map}
use Rattle.lists.proofs.Entries.{entries-flat, entries-take, sorted_entries, entries_sorted, padded-take}
use Rattle.postings.specs.Retain.{unnamed, staying, retained}
use Rattle.postings.proofs.Compact.{staying-few, wide-staying, length_retained}
use Rattle.insert_merge.specs.Order.{unstopped_at, place_in, places_in, entries_of, without}
use Rattle.insert_merge.specs.Merge.{merged}
use Rattle.maps.specs.Puts.{entry_of}
use Rattle.maps.proofs.Puts.{length-entry_of}
use Rattle.insert_merge.proofs.Writing.{length-places, place_at}
use Rattle.insert.specs.Writing.{Placing, placed_entries, Stopping}

-- ---- zeros

drop-replicate : (n m : ℕ) → drop n (replicate {A = ℕ} m 0) ≡ replicate (m - n) 0
drop-replicate zero m = let e : m - 0 ≡ m = omega arith in rw e
drop-replicate (suc n) zero = let e : 0 - suc n ≡ 0 = omega arith in rw e
drop-replicate (suc n) (suc m) = let e : suc m - suc n ≡ m - n = omega arith in rw e (drop-replicate n m)

pub zeros-behind : (s : List ℕ) (a : ℕ) → a ≤ length s → zero_from s a ≡ true → drop a s ≡ replicate (length s - a) 0
unfolding padded
zeros-behind s a h z =
    let long = length-take-le a s h in
    ap (drop a) (sym (padded-take s a h z)) ∙ drop_at (take a s) (replicate (length s - length (take a s)) 0) a long ∙ rw long

-- entries in words that are zero behind them
module _ (w q : ℕ) (s : List ℕ) (es : List (List ℕ)) (wide : Wide w es) (many : q ≡ length es) (fits : w * q ≤ length s) (is : s ≡ padded (length s) (flat es)) where
  pub held : entries w q s ≡ es
  unfolding padded
  held = rw (many, is) (entries-flat w es (replicate (length s - length (flat es)) 0) wide)

  -- and then others merged in
  pub merged-padded : (ns : List ℕ) (r : ℕ) (new : List (List ℕ)) → Wide w new → entries w r ns ≡ new → length new ≡ r → w * (q + r) ≤ length s
      → merged s w q ns r ≡ padded (length s) (flat (place_all (λ e. key_of e) new es))
  unfolding merged padded
  merged-padded ns r new wn e l h =
      let all = place_all (λ e. key_of e) new es in
      let long : length (flat es) ≡ w * q = length-flat w es wide ∙ rw many in
      let n : w * (q + r) ≡ length (flat es) + w * r = mul-add w q r ∙ rw long in
      let back : drop (w * (q + r)) s ≡ replicate (length s - w * (q + r)) 0 =
      ap (drop (w * (q + r))) is
      ∙ ap (λ (k : ℕ). drop k (flat es ++ replicate (length s - length (flat es)) 0)) n
      ∙ sym (drop-drop (w * r) (length (flat es)) (flat es ++ replicate (length s - length (flat es)) 0))
      ∙ ap (drop (w * r)) (drop_at (flat es) (replicate (length s - length (flat es)) 0) (length (flat es)) refl)
      ∙ drop-replicate (w * r) (length s - length (flat es))
      ∙ (let k : length s - length (flat es) - w * r ≡ length s - w * (q + r) = omega (arith, n) in rw k) in
      let count : length all ≡ q + r = length-place_all (λ e. key_of e) new es ∙ rw (l, many) in
      let total : length (flat all) ≡ w * (q + r) = length-flat w all (all-place_all (λ e. key_of e) (λ e. length e ≡ w) new es wn wide) ∙ rw count in
      rw (held, e, back, total)

-- ---- the postings

five : (w r : ℕ) → w ≤ 5 → r ≤ 8192 → w * r ≤ 40960
five w r a b = le_trans (mul-le-mul_left w b) (omega arith)

pub width : (w : ℕ) → 1 ≤ w → w - 1 + 1 ≡ w
width w h = omega arith

pub room-for-news : (w m L : ℕ) → 3 ≤ w → w ≤ 5 → m ≤ 8192 → 40960 ≤ L → (w - 1 + 1) * m ≤ L
room-for-news w m L a b c e = rw (width w (omega arith)) (le_trans (five w m b c) e)

module _ (w p : ℕ) (ps words : List ℕ) (order : List ℤ) (m : ℕ) (overs : List ℕ) (n id : ℕ) (P : Placing w p ps words order m overs n) where
  abbrev gone : List ℕ
  gone = take n overs

  abbrev js : List ℕ
  js = without (w - 1) words (take n overs) (places_in m order)

  abbrev stay : List (List ℕ)
  stay = staying w p 0 (take n overs) ps

  old-in : w * p ≤ length ps
  old-in = le_trans (mul-le-mul_left w (omega arith)) P.room

  -- the old ones that stay
  wide-stay : Wide w (staying w p 0 (take n overs) ps)
  wide-stay = wide-staying w p 0 (take n overs) ps old-in

  few-stay : length (staying w p 0 (take n overs) ps) ≤ p
  few-stay = staying-few w p 0 (take n overs) ps

  sorted-stay : Sorted (λ e. key_of e) (staying w p 0 (take n overs) ps)
  unfolding staying
  sorted-stay = sorted-keep (λ e. key_of e) (unnamed 0 (take n overs)) (entries w p ps) (sorted_entries w p ps (omega (arith, P.wide)) P.ascend)

  pub retained-is : retained w p 0 (take n overs) ps ≡ padded (length ps) (flat (staying w p 0 (take n overs) ps))
  unfolding retained padded
  retained-is =
      let a = flat stay in
      let long : length a ≡ w * length stay = length-flat w stay wide-stay in
      let le : length a ≤ w * p = rw long (mul-le-mul_left w few-stay) in
      let e : w * p - length a + (length ps - w * p) ≡ length ps - length a = omega (arith, old-in) in
      rw (zeros-behind ps (w * p) old-in P.unused, append_assoc, replicate-append-replicate {A = ℕ} (w * p - length a) (length ps - w * p) 0, e)

  -- the new ones
  wide-new : Wide w (entries_of (w - 1) words id (without (w - 1) words (take n overs) (places_in m order)))
  unfolding entries_of without
  wide-new = all_map (λ j. entry_of (w - 1) words id j) (λ (e : List ℕ). length e ≡ w) js
      (all_keep (λ (j : ℕ). length (entry_of (w - 1) words id j) ≡ w) (unstopped_at (w - 1) words (take n overs)) (places_in m order)
      (all-make (λ (j : ℕ). length (entry_of (w - 1) words id j) ≡ w) (places_in m order) 0
      (λ t h.
      let k : t < m = omega (arith, length-places order m P.places.room) in
      rw (place_at order m P.places.room t k) (length-entry_of (w - 1) words id (place_in (get_or order t (pos 0))) (omega (arith, P.wide)) (P.places.within t k)
      ∙ omega (arith, P.wide)))))

  length-new : length (entries_of (w - 1) words id (without (w - 1) words (take n overs) (places_in m order))) ≡ length (without (w - 1) words (take n overs) (places_in m order))
  unfolding entries_of
  length-new = length-map js (λ j. entry_of (w - 1) words id j)

  few-new : length (without (w - 1) words (take n overs) (places_in m order)) ≤ m
  unfolding without
  few-new = omega (arith, length-keep (unstopped_at (w - 1) words (take n overs)) (places_in m order), length-places order m P.places.room)

  sorted-new : Sorted (λ e. key_of e) (entries_of (w - 1) words id (without (w - 1) words (take n overs) (places_in m order)))
  unfolding entries_of without
  sorted-new = sorted-map (λ e. key_of e) (λ j. entry_of (w - 1) words id j) js (sorted-keep (λ j. key_at words (w - 1) j) (unstopped_at (w - 1) words (take n overs)) (places_in m order) P.sorted)

  pub placed-few : length (placed_entries w p ps words id (places_in m order) (take n overs)) ≤ p + m
  unfolding placed_entries
  placed-few = omega (arith, length-place_all (λ e. key_of e) (entries_of (w - 1) words id js) stay, length-new, few-stay, few-new)

  -- all that the merge asks and gives, with q old entries in ps1 and r new ones in news
  pub record Merge (ps1 news : List ℕ) (q r : ℕ) : Type 0 where
    pub room : w * (q + r) ≤ length ps1
    pub news-room : w * r ≤ length news
    pub ascend : keys_ascend ps1 w q ≡ true
    pub news-ascend : keys_ascend news w r ≡ true
    pub small : q + r ≤ p + m
    pub many : q + r ≡ length (placed_entries w p ps words id (places_in m order) (take n overs))
    pub result : merged ps1 w q news r ≡ padded (length ps) (flat (placed_entries w p ps words id (places_in m order) (take n overs)))

  pub merge : (ps1 news : List ℕ) (q r : ℕ) → q ≡ length (staying w p 0 (take n overs) ps) → ps1 ≡ retained w p 0 (take n overs) ps
      → r ≡ length (without (w - 1) words (take n overs) (places_in m order)) → w * r ≤ length news
      → take (w * r) news ≡ flat (entries_of (w - 1) words id (without (w - 1) words (take n overs) (places_in m order))) → Merge ps1 news q r
  unfolding placed_entries
  merge ps1 news q r eq e1 er nroom en =
      let new = entries_of (w - 1) words id js in
      let w1 : 1 ≤ w = omega (arith, P.wide) in
      let is : ps1 ≡ padded (length ps) (flat stay) = e1 ∙ retained-is in
      let len : length ps1 ≡ length ps = ap length e1 ∙ length_retained w p 0 (take n overs) ps old-in in
      let is1 : ps1 ≡ padded (length ps1) (flat stay) = rw len is in
      let qp : q ≤ p = omega (arith, few-stay) in
      let rm : r ≤ m = omega (arith, few-new) in
      let room : w * (q + r) ≤ length ps1 = rw len (le_trans (mul-le-mul_left w (omega arith)) P.room) in
      let qroom : w * q ≤ length ps1 = le_trans (mul-le-mul_left w (omega arith)) room in
      let olds : entries w q ps1 ≡ stay = held w q ps1 stay wide-stay eq qroom is1 in
      let lr : length new ≡ r = length-new ∙ sym er in
      let long : length (flat new) ≡ w * r = length-flat w new wide-new ∙ rw lr in
      let news-are : entries w r news ≡ new =
      sym (entries-take w r news) ∙ ap (entries w r) en
      ∙ ap (entries w r) (sym (append-nil (flat new))) ∙ ap (λ (k : ℕ). entries w k (flat new ++ [])) (sym lr) ∙ entries-flat w new [] wide-new in
      record {
        room = room;
        news-room = nroom;
        ascend = entries_sorted w q ps1 w1 (rw olds sorted-stay);
        news-ascend = entries_sorted w r news w1 (rw news-are sorted-new);
        small = omega arith;
        many = sym (length-place_all (λ e. key_of e) new stay ∙ rw (lr, ← eq));
        result = rw (← len) (merged-padded w q ps1 stay wide-stay eq qroom is1 news r new wide-new news-are lr room);
      }

  -- the same, from what `retain` and `write_news` ensure, with the new entries alone
  pub merges : (ps1 news : List ℕ) {q r : ℕ} → take n overs ≡ overs → q ≡ length (staying w p 0 overs ps) → ps1 ≡ retained w p 0 overs ps
      → r ≡ length (without (w - 1) words overs (places_in m order)) → 40960 ≤ length news
      → take ((w - 1 + 1) * r) news ≡ flat (entries_of (w - 1) words id (without (w - 1) words overs (places_in m order)))
      → Merge ps1 (take (w * r) news) q (length (take (w * r) news) / w) × (w * r ≤ length news) × (length (take (w * r) news) / w ≡ r)
  merges ps1 news {q} {r} whole eq e1 er big en =
      let same : without (w - 1) words overs (places_in m order) ≡ without (w - 1) words (take n overs) (places_in m order) = rw whole in
      let er' : r ≡ length (without (w - 1) words (take n overs) (places_in m order)) = er ∙ ap length same in
      let rm : r ≤ m = omega (arith, er', few-new) in
      let fits : w * r ≤ length news = le_trans (five w r P.narrow (omega (arith, P.few))) big in
      let long : length (take (w * r) news) ≡ w * r = length-take-le (w * r) news fits in
      let many : length (take (w * r) news) / w ≡ r = rw long (mul-div_cancel_left r (omega (arith, P.wide))) in
      let en' : take (w * r) (take (w * r) news) ≡ flat (entries_of (w - 1) words id (without (w - 1) words (take n overs) (places_in m order))) =
      take-take (w * r) (w * r) news (le_refl (w * r)) ∙ rw same at (rw (width w (omega (arith, P.wide))) at en) in
      (rw many (merge ps1 (take (w * r) news) q r (eq ∙ ap (λ (o : List ℕ). length (staying w p 0 o ps)) (sym whole)) (e1 ∙ ap (λ (o : List ℕ). retained w p 0 o ps) (sym whole)) er' (omega (arith, long)) en'), fits, many)

-- ---- the stopped keys: entries of one word

abbrev single : ℕ → List ℕ
single k = k ∷ []

entries-single : (n : ℕ) (s : List ℕ) → n ≤ length s → entries 1 n s ≡ map single (take n s)
unfolding entries
entries-single zero s h = refl
entries-single (suc n) [] h = absurd (omega arith)
entries-single (suc n) (x ∷ s) h = ap (λ (l : List (List ℕ)). (x ∷ []) ∷ l) (entries-single n s (omega arith))

flat-single : (l : List ℕ) → flat (map single l) ≡ l
unfolding flat
flat-single [] = refl
flat-single (x ∷ l) = ap (λ (l : List ℕ). x ∷ l) (flat-single l)

module _ (ss : List ℕ) (k : ℕ) (overs : List ℕ) (n : ℕ) (S : Stopping ss k overs n) where
  pub stops-merged : merged ss 1 k overs n ≡ padded (length ss) (place_all (λ x. x) (take n overs) (take k ss))
  stops-merged =
      let k-in : k ≤ length ss = omega (arith, S.room) in
      let old = map single (take k ss) in
      let new = map single (take n overs) in
      let wide : (l : List ℕ) → Wide 1 (map single l) = λ l. all_map single (λ (e : List ℕ). length e ≡ 1) l (all_of (λ (x : ℕ). length (single x) ≡ 1) (λ x. refl) l) in
      let many : k ≡ length old = sym (length-map (take k ss) single ∙ length-take-le k ss k-in) in
      let few : length new ≡ n = length-map (take n overs) single ∙ length-take-le n overs S.overs-room in
      let is : ss ≡ padded (length ss) (flat old) = sym (rw (flat-single (take k ss)) (padded-take ss k k-in S.unused)) in
      merged-padded 1 k ss old (wide (take k ss)) many (rw one-mul k-in) is overs n new (wide (take n overs)) (entries-single n overs S.overs-room) few (rw one-mul S.room)
      ∙ ap (λ (l : List (List ℕ)). padded (length ss) (flat l)) (place_all-map (λ e. key_of e) single (take n overs) (take k ss))
      ∙ ap (padded (length ss)) (flat-single (place_all (λ x. x) (take n overs) (take k ss)))
