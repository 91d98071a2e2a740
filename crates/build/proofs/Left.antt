-- What an accepted build leaves: its postings, stopped keys and rows, from the entries laid down. Assumes nothing.
use mathlib.Core.Path.{◌≡◌, refl, sym, ap, ◌∙◌}
use mathlib.Core.Bool.{true, not, ◌&&◌, ◌||◌}
use mathlib.Core.List.{List, [], ◌∷◌, ◌++◌, map}
use mathlib.Core.Option.{some}
use Prim.Native.Nat.{ℕ, zero, suc, ◌+◌, ◌-◌, ◌≤◌, ◌<◌}
use native.Mathlib.Omega.{arith}
use native.Mathlib.Numerals.{add-one}
use lib.ListN.{length, get_or, take, drop, length-map, length-drop}
use lib.Seq.{drop-cons, drop-drop}
use lib.Dec.{eqb, ltb}
use borrow.Author.Tests.{ltb-true}
use Rattle.lists.specs.Lists.{some?, member, sum}
use Rattle.lists.specs.Keys.{under, has_key, Sorted, place_all, times}
use Rattle.lists.specs.Entries.{key_of as entry_key}
use Rattle.lists.proofs.Tests.{test}
use Rattle.lists.proofs.Keep.{keep-map, keep_all, keep-ext, keep-nil, all_of, map-map}
use Rattle.lists.proofs.Place.{sorted-place_all, under-place_all, under-map, under_none, place_all-map, sorted-map}
use Rattle.lists.proofs.Ascending.{ascending-ext}
use Rattle.build_ranges.specs.Codes.{tabulate, ranks_from, rank_of, in_order, Fit}
use Rattle.build_ranges.proofs.Ranks.{listed_same, sum_more}
use Rattle.build_ranges.proofs.Order.{ordered-is, keys-ordered}
use Rattle.build_stops.specs.Over.{key_in, over, over_keys, keys_of, kept}
use Rattle.build_stops.proofs.Over.{member-over, ascending-over}
use Rattle.build_stops.proofs.Stops.{times-keys}
use Rattle.build_entries.specs.Laid.{laid_entries, row_for}
use Rattle.model.specs.Fingerprints.{Fingerprint, hashes_of, hash_count, divided, fingerprints_of}
use Rattle.model.specs.Rows.{row_of}
use Rattle.model.specs.Index.{Posting, empty, key_of, numbered, exceeds, without_keys, is_stopped, placed, postings_after, stopped_after}
use Rattle.model.specs.Words.{posting_words, row_words, row_entries}
use Rattle.model.proofs.Parts.{member-stop_keys, ascending-stop_keys}
use Rattle.build.proofs.Numbered.{post_of, numbered_is}

-- ---- nothing stored and nothing stopped before

module _ (limit : ℕ) (new : List Posting) where
  pub placed-empty : placed empty new ≡ place_all key_of new []
  unfolding some?
  placed-empty = ap (λ l. place_all key_of l []) (keep_all (λ p. not (is_stopped empty (key_of p))) new (all_of (λ p. not (is_stopped empty (key_of p)) ≡ true) (λ p. refl) new))

  abbrev pub all : List Posting
  all = place_all key_of new []

  under_all : (k : ℕ) → under key_of k all ≡ under key_of k new
  under_all k = under-place_all key_of k new [] tt ∙ rw (keep-nil (λ p. eqb (key_of p) k))

  -- a key over the limit is one of the new ones
  exceeds-is : (k : ℕ) → exceeds limit new all k ≡ ltb limit (length (under key_of k all))
  unfolding exceeds
  exceeds-is k = test (ltb limit (length (under key_of k all)))
      (λ e. rw e (test (has_key key_of k new) (λ d. rw d) (λ d. absurd (omega (arith, ltb-true limit (length (under key_of k all)) e, ap length (under_all k ∙ under_none key_of k new d))))))
      (λ e. rw e (test (has_key key_of k new) (λ d. rw d) (λ d. rw d)))

  shorter : (k : ℕ) → member k [] || (has_key key_of k new && exceeds limit new all k) ≡ exceeds limit new all k
  unfolding some? exceeds
  shorter k = test (has_key key_of k new) (λ d. rw d) (λ d. rw d)

  abbrev entries_of : List (List ℕ)
  entries_of = map posting_words all

  times-is : (k : ℕ) → times k (keys_of (map posting_words all)) ≡ length (under key_of k all)
  times-is k = times-keys k (map posting_words all) ∙ ap length (under-map entry_key posting_words k all) ∙ length-map (under key_of k all) posting_words

  over-is : (k : ℕ) → over limit (keys_of (map posting_words all)) k ≡ exceeds limit new all k
  over-is k = ap (ltb limit) (times-is k) ∙ sym (exceeds-is k)

  pub kept-is : kept limit (map posting_words all) ≡ map posting_words (postings_after limit empty new)
  unfolding kept
  kept-is =
      keep-map posting_words (λ e. not (over limit (keys_of entries_of) (entry_key e))) all
      ∙ ap (map posting_words) (keep-ext (λ p. not (over limit (keys_of entries_of) (key_of p))) (λ p. not (exceeds limit new all (key_of p))) (λ p. ap not (over-is (key_of p))) all)
      ∙ ap (λ l. map posting_words (without_keys (exceeds limit new l) l)) (sym placed-empty)

  pub stopped-is : over_keys limit (keys_of (map posting_words all)) ≡ stopped_after limit empty new
  stopped-is = ascending-ext (over_keys limit (keys_of entries_of)) (stopped_after limit empty new) (ascending-over limit (keys_of entries_of))
      (ascending-stop_keys (exceeds limit new (placed empty new)) new [] tt)
      (λ k. member-over limit (keys_of entries_of) k ∙ over-is k ∙ sym (member-stop_keys (exceeds limit new (placed empty new)) new [] k ∙ again k))
    where
      again : (k : ℕ) → member k [] || (has_key key_of k new && exceeds limit new (placed empty new) k) ≡ exceeds limit new all k
      again k = rw placed-empty (shorter k)

  pub sorted-entries-all : Sorted entry_key (map posting_words all)
  sorted-entries-all = sorted-map entry_key posting_words all (sorted-place_all key_of new [] tt)

-- ---- the entries laid down

module _ (words : List ℕ) (w : ℕ) (lengths rates sets : List ℕ) (w3 : 3 ≤ w) (fit : Fit words (w - 1) lengths) (sums : sum lengths ≡ hash_count w words) (rated : length rates ≡ length lengths) (grouped : length sets ≡ length lengths) where
  abbrev pub fs : List Fingerprint
  fs = fingerprints_of w words lengths rates sets

  abbrev pub new : List Posting
  new = numbered 0 (fingerprints_of w words lengths rates sets)

  post-ranks : map (post_of words w lengths) (map rank_of (in_order words (w - 1) lengths)) ≡ place_all key_of new []
  post-ranks =
      ap (map (post_of words w lengths)) (ordered-is words (w - 1) lengths fit)
      ∙ sym (place_all-map key_of (post_of words w lengths) (ranks_from 0 lengths) [])
      ∙ ap (λ l. place_all key_of l []) (sym (numbered_is words w lengths (omega arith) fit.short (omega arith) rates sets rated grouped))

  pub laid-is : laid_entries words w lengths ≡ map posting_words (place_all key_of new [])
  unfolding laid_entries
  laid-is =
      sym (map-map (λ r. posting_words (post_of words w lengths r)) rank_of (in_order words (w - 1) lengths))
      ∙ sym (map-map posting_words (post_of words w lengths) (map rank_of (in_order words (w - 1) lengths)))
      ∙ ap (map posting_words) post-ranks

  -- the keys in the codes are those of the entries
  pub keys-is : map key_in (in_order words (w - 1) lengths) ≡ keys_of (map posting_words (place_all key_of new []))
  keys-is =
      keys-ordered words (w - 1) lengths fit
      ∙ sym (map-map key_of (post_of words w lengths) (map rank_of (in_order words (w - 1) lengths)))
      ∙ ap (map key_of) post-ranks
      ∙ sym (map-map entry_key posting_words (place_all key_of new []))

-- ---- rows

listed_cons : {A : Type 0} (f : ℕ → A) (n : ℕ) → tabulate f (suc n) ≡ f 0 ∷ tabulate (λ j. f (suc j)) n
unfolding tabulate
listed_cons f zero = refl
listed_cons f (suc n) = ap (λ l. l ++ f (suc n) ∷ []) (listed_cons f n)

module _ (words : List ℕ) (w : ℕ) (lengths : List ℕ) where
  -- those of recordings id, id + 1, ..
  rows-from : (id : ℕ) (ls rates sets : List ℕ) → ls ≡ drop id lengths → length rates ≡ length ls → length sets ≡ length ls
      → row_entries (map (λ f. some (row_of w f)) (divided (drop (sum (take id lengths)) (hashes_of w words)) ls rates sets)) []
      ≡ tabulate (λ j. row_for words w (sum (take (id + j) lengths)) (get_or ls j 0) (get_or rates j 0) (get_or sets j 0)) (length ls)
  unfolding divided row_entries tabulate row_for
  rows-from id [] rates sets e r g = refl
  rows-from id (n ∷ ls) [] sets e r g = absurd (omega arith)
  rows-from id (n ∷ ls) (q ∷ rates) [] e r g = absurd (omega arith)
  rows-from id (n ∷ ls) (q ∷ rates) (x ∷ sets) e r k =
      let start : ℕ = sum (take id lengths) in
      let lt : id < length lengths = omega (arith, ap length e ∙ length-drop id lengths) in
      let both : n ∷ ls ≡ get_or lengths id 0 ∷ drop (suc id) lengths = e ∙ drop-cons lengths id 0 lt in
      let en : n ≡ get_or lengths id 0 = ap (λ l. get_or l 0 0) both in
      let el : ls ≡ drop (suc id) lengths = ap (drop 1) both in
      let next : start + n ≡ sum (take (suc id) lengths) = rw en (sym (rw add-one at (sum_more lengths id lt))) in
      let z : id + 0 ≡ id = omega arith in
      let f : ℕ → List ℕ = λ j. row_for words w (sum (take (id + j) lengths)) (get_or (n ∷ ls) j 0) (get_or (q ∷ rates) j 0) (get_or (x ∷ sets) j 0) in
      let g : ℕ → List ℕ = λ j. row_for words w (sum (take (suc id + j) lengths)) (get_or ls j 0) (get_or rates j 0) (get_or sets j 0) in
      let ih = rows-from (suc id) ls rates sets el (omega arith) (omega arith) in
      let first : row_words (some (row_of w (record { rate = q; set = x; hashes = take n (drop start (hashes_of w words)) }))) 0 ≡ f 0 = rw z in
      let later : tabulate (λ j. f (suc j)) (length ls) ≡ tabulate g (length ls) = listed_same (λ j. f (suc j)) g (length ls) (λ j l. let s : id + suc j ≡ suc id + j = omega arith in rw s) in
      let rest : row_entries (map (λ f. some (row_of w f)) (divided (drop n (drop start (hashes_of w words))) ls rates sets)) [] ≡ tabulate (λ j. f (suc j)) (length ls) =
      rw (drop-drop n start (hashes_of w words), next, later) ih in
      rw (first, rest) (sym (listed_cons f (length ls)))

  pub rows_is : (rates sets : List ℕ) → length rates ≡ length lengths → length sets ≡ length lengths
      → row_entries (map (λ f. some (row_of w f)) (fingerprints_of w words lengths rates sets)) []
      ≡ tabulate (λ i. row_for words w (sum (take i lengths)) (get_or lengths i 0) (get_or rates i 0) (get_or sets i 0)) (length lengths)
  unfolding sum
  rows_is rates sets r g =
      rows-from 0 lengths rates sets refl r g
      ∙ listed_same (λ j. row_for words w (sum (take (0 + j) lengths)) (get_or lengths j 0) (get_or rates j 0) (get_or sets j 0)) (λ i. row_for words w (sum (take i lengths)) (get_or lengths i 0) (get_or rates i 0) (get_or sets i 0)) (length lengths)
      (λ j l. let z : 0 + j ≡ j = omega arith in rw z)
