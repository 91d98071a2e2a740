-- The words of a recording's row. Assumes nothing.
use mathlib.Core.Path.{◌≡◌, refl, sym, ◌∙◌}
use mathlib.Core.Bool.{cond}
use mathlib.Core.List.{List, [], ◌∷◌, ◌++◌, map, map-append}
use Prim.Native.Nat.{ℕ, ◌+◌, ◌*◌, ◌/◌, ◌%◌, ◌≤◌, ◌<◌, max}
use native.Mathlib.Numerals.{add-one}
use native.Mathlib.Omega.{arith}
use lib.ListN.{length, get_or}
use lib.Seq.{get_or-drop}
use lib.Ieee.{binary32, hid, ones, top}
use lib.Ieee.Bits.{nan_bits_above}
use borrow.Author.Tests.{lt-ltb, le-ltb, ne_eqb}
use Rattle.lists.specs.Entries.{entries, entry_at}
use Rattle.lists.proofs.Entries.{entries-suc, entry-word}
use Rattle.model.specs.Fingerprints.{Hash, hash_of, hashes_of}
use Rattle.model.specs.Rows.{canonical, no_rate, has_rmax, anchor, largest_anchor}

pub canonical_nan : (rate : ℕ) → 0x7F80_0000 < rate % 0x8000_0000 → no_rate ≡ canonical rate
unfolding canonical
canonical_nan rate h = rw (nan_bits_above binary32 rate ∙ lt-ltb (ones binary32 * hid binary32) (rate % top binary32) h)

pub canonical_same : (rate : ℕ) → rate % 0x8000_0000 ≤ 0x7F80_0000 → rate ≡ canonical rate
unfolding canonical
canonical_same rate h = rw (nan_bits_above binary32 rate ∙ le-ltb (ones binary32 * hid binary32) (rate % top binary32) h)

largest-snoc : (hs : List Hash) (h : Hash) → largest_anchor (hs ++ h ∷ []) ≡ max (largest_anchor hs) (anchor h)
unfolding largest_anchor
largest-snoc [] h = omega arith
largest-snoc (g ∷ hs) h = let ih = largest-snoc hs h in omega (arith, ih)

pub largest-none : (v : ℕ) (words : List ℕ) → 0 ≡ largest_anchor (map hash_of (entries v 0 words))
unfolding largest_anchor entries
largest-none v words = refl

pub largest-more : (v : ℕ) (words : List ℕ) (j : ℕ) → 2 ≤ v
    → max (largest_anchor (map hash_of (entries v j words))) (get_or words (v * j + 1) 0) ≡ largest_anchor (map hash_of (entries v (j + 1) words))
largest-more v words j h =
    let e : anchor (hash_of (entry_at v j words)) ≡ get_or words (v * j + 1) 0 = get_or-drop 1 (entry_at v j words) 0 0 ∙ entry-word v j words 1 h in
    sym (rw (add-one j, entries-suc v j words, map-append hash_of (entries v j words) (entry_at v j words ∷ []), largest-snoc, e))

pub wang-max : (w : ℕ) (words : List ℕ) (r : ℕ) → w ≡ 3 → r ≡ largest_anchor (map hash_of (entries 2 (length words / 2) words)) → r ≡ cond (has_rmax w) (largest_anchor (hashes_of w words)) 0
unfolding hashes_of
wang-max w words r e h = rw e h

pub other-max : (w : ℕ) (words : List ℕ) → (w ≡ 3 → ⊥) → 0 ≡ cond (has_rmax w) (largest_anchor (hashes_of w words)) 0
other-max w words n = rw (ne_eqb w 3 n)
