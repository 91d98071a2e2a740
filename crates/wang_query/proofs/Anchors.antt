-- The largest anchor of a query's hashes, by their words. Assumes nothing.
use mathlib.Core.Path.{◌≡◌, ◌∙◌}
use mathlib.Core.List.{List, [], ◌∷◌, map}
use Prim.Native.Nat.{ℕ, ◌+◌, ◌*◌, ◌/◌, ◌^◌, ◌≤◌, ◌<◌}
use native.Mathlib.Omega.{arith}
use lib.ListN.{length, get_or}
use lib.Seq.{get_or-drop}
use Rattle.lists.specs.Lists.{All}
use Rattle.lists.specs.Entries.{entries, entry_at}
use Rattle.lists.proofs.Keep.{all_map, all-unmap}
use Rattle.lists.proofs.Entries.{all-entries, entries-all, entry-word}
use Rattle.model.specs.Fingerprints.{Hash, hash_of, hashes_of}
use Rattle.model.specs.Rows.{anchor, largest_anchor}
use Rattle.model.proofs.Fingerprints.{anchor-largest}

hash-anchor : (hs : List ℕ) (i : ℕ) → anchor (hash_of (entry_at 2 i hs)) ≡ get_or hs (2 * i + 1) 0
hash-anchor hs i = get_or-drop 1 (entry_at 2 i hs) 0 0 ∙ entry-word 2 i hs 1 (omega arith)

largest-under : (l : List Hash) (b : ℕ) → 0 < b → All (λ h. anchor h < b) l → largest_anchor l < b
unfolding largest_anchor
largest-under [] b p h = p
largest-under (x ∷ l) b p h = let ih = largest-under l b p h.1 in omega (arith, h.0)

pub top-high : (hs : List ℕ) → ((i : ℕ) → get_or hs i 0 < 2 ^ 32) → largest_anchor (hashes_of 3 hs) < 2 ^ 32
unfolding hashes_of
top-high hs bits = largest-under (map hash_of (entries 2 (length hs / 2) hs)) (2 ^ 32) (omega arith)
    (all_map hash_of (λ h. anchor h < 2 ^ 32) (entries 2 (length hs / 2) hs) (all-entries (λ e. anchor (hash_of e) < 2 ^ 32) 2 (length hs / 2) hs (λ i lt. rw (hash-anchor hs i) (bits (2 * i + 1)))))

pub top_above : (hs : List ℕ) (i : ℕ) → i < length hs / 2 → get_or hs (2 * i + 1) 0 ≤ largest_anchor (hashes_of 3 hs)
unfolding hashes_of
top_above hs i lt =
    let top : ℕ = largest_anchor (map hash_of (entries 2 (length hs / 2) hs)) in
    rw (hash-anchor hs i) at (entries-all (λ e. anchor (hash_of e) ≤ top) 2 (length hs / 2) hs
    (all-unmap hash_of (λ h. anchor h ≤ top) (entries 2 (length hs / 2) hs) (anchor-largest (map hash_of (entries 2 (length hs / 2) hs)))) i lt)
