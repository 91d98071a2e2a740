-- What sound words and well-formed hashes give a query. w is the width of a posting. Assumes nothing.
use mathlib.Core.Path.{◌≡◌}
use mathlib.Core.Bool.{true, false}
use mathlib.Core.List.{List}
use Prim.Native.Nat.{ℕ, ◌+◌, ◌*◌, ◌-◌, ◌/◌, ◌≤◌, ◌<◌}
use native.Mathlib.Nat.{mul-le-mul_left, mul-le-mul_right, mul-div-le}
use native.Mathlib.Omega.{arith}
use lib.ListN.{length, get_or}
use lib.Dec.{leb, ltb}
use borrow.Author.Tests.{leb-true, ltb-false}
use Rattle.lists.specs.Lists.{All}
use Rattle.lists.specs.Entries.{entries}
use Rattle.lists.proofs.Tests.{and_left, and_right, or-false-right}
use Rattle.lists.proofs.Entries.{length-read, all-entries, entry-word}
use Rattle.query_search.specs.Starts.{Sought}
use Rattle.model.specs.Fingerprints.{hash_of, hashes_of, query_most, uneven, malformed}
use Rattle.model.specs.Words.{Words, sizes_of, sizes_listed, between, slices_listed, head_width, row_width, at_live}
use Rattle.model.specs.Soundness.{row_word, sound_words}
use Rattle.model.proofs.Stores.{sizes-listed, references-long, postings-long, sound-facts}
use Rattle.model.proofs.Facts.{Facts}

-- ---- the query's hashes

pub hashes-long : (w : ℕ) (hs : List ℕ) → length (hashes_of w hs) ≡ length hs / (w - 1)
unfolding hashes_of
hashes-long w hs = length-read hash_of (w - 1) (length hs / (w - 1)) hs

pub few-hashes : (w : ℕ) (hs : List ℕ) → malformed w query_most hs ≡ false → length hs / (w - 1) ≤ 2048
unfolding malformed
few-hashes w hs e = ltb-false query_most (length hs / (w - 1)) (or-false-right (uneven w hs) (ltb query_most (length hs / (w - 1))) e)

-- ---- the store

module _ (w : ℕ) (w2 : 2 ≤ w) (m : Words) (l : slices_listed w m ≡ true) (s : sound_words w m ≡ true) where
  abbrev rs : List ℕ
  rs = m.references

  abbrev ps : List ℕ
  ps = m.postings

  abbrev n : ℕ
  n = get_or m.references 0 0

  abbrev p : ℕ
  p = get_or m.references 2 0

  pub F : Facts w (sizes_of w m) rs ps m.stopped n (get_or rs 1 0) p (get_or rs 3 0)
  F = sound-facts w m w2 l s

  pub rows-there : head_width + row_width * n ≤ length rs
  rows-there = omega (arith, references-long w m w2 l, F.rows_fit)

  pub rows_few : n ≤ 4096
  unfolding sizes_listed
  rows_few =
      let t = sizes-listed w m w2 l in
      let b = and_left (between 1 4096 (sizes_of w m).R) _ t in
      omega (arith, leb-true (sizes_of w m).R 4096 (and_right (leb 1 (sizes_of w m).R) (leb (sizes_of w m).R 4096) b), F.rows_fit)

  postings-few : p ≤ 1048576
  unfolding sizes_listed
  postings-few =
      let t = sizes-listed w m w2 l in
      let b = and_left (between 1 1048576 (sizes_of w m).P) _ (and_right (between 1 4096 (sizes_of w m).R) _ t) in
      omega (arith, leb-true (sizes_of w m).P 1048576 (and_right (leb 1 (sizes_of w m).P) (leb (sizes_of w m).P 1048576) b), F.postings-fit)

  pub postings-there : w * p ≤ length ps
  postings-there = rw (postings-long w m w2 l) (mul-le-mul_left w F.postings-fit)

  -- the postings and the query's hashes can be searched
  pub sought : w ≤ 8 → (hs : List ℕ) → malformed w query_most hs ≡ false → Sought ps w p hs (w - 1) (length (hashes_of w hs))
  sought w8 hs e = record {
    posting = omega arith;
    postings = postings-there;
    ascend = F.keys;
    counted = let l = mul-le-mul_right p w8 in omega (arith, postings-few);
    hash = omega arith;
    hashes = rw (hashes-long w hs) (mul-div-le (length hs) (w - 1));
    few = rw (hashes-long w hs) (few-hashes w hs e);
  }

  -- each posting is of a live recording
  pub live-entries : All (λ e. (get_or e 1 0 < n) × (row_word rs (get_or e 1 0) at_live ≡ 1)) (entries w p ps)
  live-entries = all-entries (λ e. (get_or e 1 0 < n) × (row_word rs (get_or e 1 0) at_live ≡ 1)) w p ps (λ i lt. rw (entry-word w i ps 1 (omega arith)) (F.id-within i lt, F.id-live i lt))
