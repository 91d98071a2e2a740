-- What `plan_insertion` finds, from what its functions say. Assumes nothing.
use mathlib.Core.Path.{◌≡◌, refl, sym, ap, ◌∙◌}
use mathlib.Core.Bool.{true, false}
use mathlib.Core.List.{List, [], ◌∷◌}
use Prim.Native.Nat.{ℕ, zero, suc, ◌+◌, ◌-◌, ◌/◌, ◌^◌, ◌≤◌, ◌<◌}
use native.Mathlib.Omega.{arith}
use lib.IntN.{ℤ, pos}
use lib.ListN.{length, get_or, take, length-append}
use lib.Seq.{length-take-le, get_or-take}
use Rattle.std.proofs.lemmas.List.{take_all}
use lib.Dec.{ltb}
use borrow.Author.Tests.{lt-ltb, le-ltb}
use Rattle.lists.proofs.Tests.{not-both}
use Rattle.lists.proofs.Keep.{length-keep}
use Rattle.sorting.specs.Sort.{sort_z}
use Rattle.model.specs.Fingerprints.{hash_count}
use Rattle.postings.specs.Retain.{staying}
use Rattle.insert_merge.specs.Order.{up_to, unstopped_at, taken, packs, ordered, keys_in, other_keys, ByKey, OverKeys}
use Rattle.insert_merge.proofs.Ordered.{length-ordered, sort-packs, is-by-key}
use Rattle.std.specs.Prelude.{Result, Ok, Err}
use Rattle.refusals.specs.declared.Refusal.TheVariants.{NoPostings, NoStops}
use Rattle.insert.specs.declared.Plan.{Plan}
use Rattle.insert.specs.declared.NoRoom.{NoRoom}
use Rattle.insert.specs.Planned.{Plannable, Found, Planned}

-- the first k of a list, cut off, are the first k again
pub front-whole : {A : Type 0} (k : ℕ) (l : List A) → k ≤ length l → take (length (take k l)) (take k l) ≡ take k l
front-whole k l h = take_all (length (take k l)) (take k l) (omega arith)

-- as many places as hashes, at most
length-up_to : (n : ℕ) → length (up_to n) ≡ n
unfolding up_to
length-up_to zero = refl
length-up_to (suc n) = let ih = length-up_to n in rw length-append (omega arith)

pub few-taken : (v : ℕ) (words stopped : List ℕ) (n : ℕ) → length (taken v words stopped n) ≤ n
unfolding taken
few-taken v words stopped n = omega (arith, length-keep (unstopped_at v words stopped) (up_to n), length-up_to n)

module _ {w p k : ℕ} {ps ss hashes : List ℕ} (A : Plannable w p k ps ss hashes) {m : ℕ} (many : m ≡ length (taken (w - 1) hashes (take k ss) (hash_count w hashes))) where
  pub few-new : m ≤ 8192
  few-new = omega (arith, few-taken (w - 1) hashes (take k ss) (hash_count w hashes), A.few)

  -- there is no room for the postings
  pub planned-full : {limit : ℕ} (id : ℕ) {order : List ℤ} {overs : List ℕ} → ltb (length ps / w) (length (staying w p 1 (id ∷ []) ps) + m) ≡ true
      → Planned w limit (length ps / w) (length ss) (staying w p 1 (id ∷ []) ps) (take k ss) hashes order overs (Err (record { refusal = NoPostings; plan = record { hashes = m; keys = 0 } }))
  planned-full id e = record { many = many; full = λ _. refl; fits = λ q. absurd (not-both e q); found = λ q. absurd (not-both e q) }

  module _ (order₀ order : List ℤ) (held : take m order₀ ≡ packs (w - 1) hashes (taken (w - 1) hashes (take k ss) (hash_count w hashes)))
      (sorted : take m order ≡ sort_z (take m order₀)) (long : 16384 ≤ length order) where
    in_order : take m order ≡ packs (w - 1) hashes (ordered (w - 1) hashes (take k ss) (hash_count w hashes))
    in_order = sorted ∙ ap sort_z held ∙ sort-packs (w - 1) hashes (take k ss) (hash_count w hashes) A.few

    pub by_key : ((t : ℕ) → get_or hashes t 0 < 2 ^ 32) → ByKey order m
    by_key word = is-by-key (w - 1) hashes (take k ss) (hash_count w hashes) A.few order m in_order
        (many ∙ sym (length-ordered (w - 1) hashes (take k ss) (hash_count w hashes) A.few)) (omega (arith, few-new)) word

    -- the same of the first m words alone
    pub by_key-front : ((t : ℕ) → get_or hashes t 0 < 2 ^ 32) → ByKey (take m order) (length (take m order))
    by_key-front word =
        let B = by_key word in
        let la : length (take m order) ≡ m = length-take-le m order B.room in
        let same : (t : ℕ) → t < length (take m order) → get_or (take m order) t (pos 0) ≡ get_or order t (pos 0) = λ t h. get_or-take m order t (pos 0) (omega arith) in
        record {
          room = omega arith;
          ascend = λ s t a b. let x : s < length (take m order) = omega arith in rw (same s x, same t b) (B.ascend s t a (omega arith));
          small = λ t b. rw (same t b) (B.small t (omega arith));
        }

    -- there is none for the keys, or there is room
    module _ {limit : ℕ} (id : ℕ) (overs : List ℕ) {n : ℕ} (fewer : n ≤ length (take m order)) (size : 8192 ≤ length overs)
        (over : OverKeys limit (other_keys w p id ps) (keys_in (length (take m order)) (take m order)) (take n overs))
        (e : ltb (length ps / w) (length (staying w p 1 (id ∷ []) ps) + m) ≡ false) where
      abbrev Is : Result Plan NoRoom → Type 0
      Is r = Planned w limit (length ps / w) (length ss) (staying w p 1 (id ∷ []) ps) (take k ss) hashes order overs r

      found : Found w limit (staying w p 1 (id ∷ []) ps) (take k ss) hashes order m overs n
      found = record { in_order = in_order; above = rw (front-whole m order (omega (arith, few-new))) at over; order-room = omega (arith, few-new); overs-room = omega (arith, few-new, length-take-le m order (omega (arith, few-new))) }

      pub planned-keys : length ss < k + n → Is (Err (record { refusal = NoStops; plan = record { hashes = m; keys = n } }))
      planned-keys h = record { many = many; full = λ q. absurd (not-both q e); fits = λ _. rw (length-take-le k ss A.stopped, lt-ltb (length ss) (k + n) h); found = λ _. found }

      pub planned-found : k + n ≤ length ss → Is (Ok (record { hashes = m; keys = n }))
      planned-found h = record { many = many; full = λ q. absurd (not-both q e); fits = λ _. rw (length-take-le k ss A.stopped, le-ltb (length ss) (k + n) h); found = λ _. found }
