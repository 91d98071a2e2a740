-- When the words of a store are sound: document 01's paragraph and document 02's condition on sets, a test for each of the conditions, over
-- the words by their places.
-- rs, ps and ss are the references, postings and stopped keys; n, v, p and k the first four words of the references: how many rows,
-- vacant entries, postings and stopped keys are in use; w the width of a posting.
-- proofs/Stores.antt shows that the test accepts exactly the words of sound indexes (`sound-exactly`).
-- Definitions only. Assumes nothing.
use Rattle.std.specs.Prelude.{Bool, cond, not, ◌&&◌, ◌||◌, List, [], ◌∷◌, ℕ, ◌+◌, ◌*◌, ◌-◌, get_or, eqb, leb, ltb}
use Rattle.lists.specs.Every.{every, count, all_true}
use Rattle.lists.specs.Entries.{key_at, keys_ascend, zero_from}
use Rattle.model.specs.Rows.{has_rmax, no_rate, is_canonical, is_set}
use Rattle.model.specs.Calls.{Sizes}
use Rattle.model.specs.Words.{Words, head_width, row_width, sizes_of, row_place, at_rate, at_rmax, at_live, at_vacant, at_set}

-- word f of row j
abbrev pub row_word : List ℕ → ℕ → ℕ → ℕ
row_word rs j f = get_or rs (row_place j f) 0

-- word f of posting i: 1 id, 2 t_anchor; its key is `key_at ps w i`
abbrev pub posting_word : List ℕ → ℕ → ℕ → ℕ → ℕ
posting_word ps w i f = get_or ps (w * i + f) 0

-- "n, v, p, k are within R, n, P, K"
unfoldable pub counts_fit : Sizes → ℕ → ℕ → ℕ → ℕ → Bool
counts_fit z n v p k = leb n z.R && (leb v n && (leb p z.P && leb k z.K))

-- "live words are 1 or 0"
unfoldable pub live_word : List ℕ → ℕ → Bool
live_word rs j = leb (row_word rs j at_live) 1

-- "stopped keys ascend", strictly
unfoldable pub stopped_step : List ℕ → ℕ → Bool
stopped_step ss i = ltb (get_or ss i 0) (get_or ss (i + 1) 0)

-- "the first n rows hold v dead ids": their number is compared
unfoldable pub dead_row : List ℕ → ℕ → Bool
dead_row rs j = eqb (row_word rs j at_live) 0

-- "and the first v vacant entries name each once": entry i is a dead id among the first n, and no entry before it is the same
unfoldable pub other_entry : List ℕ → ℕ → ℕ → Bool
other_entry rs i j = not (eqb (row_word rs j at_vacant) (row_word rs i at_vacant))

unfoldable pub vacant_entry : List ℕ → ℕ → ℕ → Bool
vacant_entry rs n i = ltb (row_word rs i at_vacant) n && (dead_row rs (row_word rs i at_vacant) && every i (other_entry rs i))

-- "a dead row has rate 7FC00000 (hexadecimal) and r_max 0"
unfoldable pub dead_fine : List ℕ → ℕ → Bool
dead_fine rs j = not (dead_row rs j) || (eqb (row_word rs j at_rate) no_rate && eqb (row_word rs j at_rmax) 0)

-- "a live NaN rate is stored as that word"
unfoldable pub rate_fine : List ℕ → ℕ → Bool
rate_fine rs j = dead_row rs j || is_canonical (row_word rs j at_rate)

-- "posting ids are live"
unfoldable pub live_id : List ℕ → ℕ → ℕ → Bool
live_id rs n id = ltb id n && eqb (row_word rs id at_live) 1

unfoldable pub posting_live : ℕ → List ℕ → ℕ → List ℕ → ℕ → Bool
posting_live w rs n ps i = live_id rs n (posting_word ps w i 1)

-- "a Wang posting's anchor is at most its row's r_max"
unfoldable pub anchor_fine : ℕ → List ℕ → List ℕ → ℕ → Bool
anchor_fine w rs ps i = not (has_rmax w) || leb (posting_word ps w i 2) (row_word rs (posting_word ps w i 1) at_rmax)

-- "Panako r_max is 0"
unfoldable pub rmax_fine : ℕ → List ℕ → ℕ → Bool
rmax_fine w rs j = has_rmax w || eqb (row_word rs j at_rmax) 0

-- "no posting has a stopped key": posting i's is none of the first k
unfoldable pub other_key : List ℕ → ℕ → ℕ → Bool
other_key ss key j = not (eqb (get_or ss j 0) key)

unfoldable pub key_unstopped : ℕ → List ℕ → ℕ → List ℕ → ℕ → Bool
key_unstopped w ss k ps i = every k (other_key ss (key_at ps w i))

-- "every unused word is zero": of the vacant entries behind the first v, in the rows in use
unfoldable pub entry_unused : List ℕ → ℕ → ℕ → Bool
entry_unused rs v i = eqb (row_word rs (v + i) at_vacant) 0

-- document 02: "a sound store's dead rows have set 0 and its live rows 1 to 255"
unfoldable pub set_fine : List ℕ → ℕ → Bool
set_fine rs j = cond (dead_row rs j) (eqb (row_word rs j at_set) 0) (is_set (row_word rs j at_set))

-- the conditions, in the papers' order
unfoldable pub sound_tests : ℕ → Sizes → List ℕ → List ℕ → List ℕ → ℕ → ℕ → ℕ → ℕ → List Bool
sound_tests w z rs ps ss n v p k =
    counts_fit z n v p k
    ∷ every n (live_word rs)
    -- "posting keys .. ascend"
    ∷ keys_ascend ps w p
    ∷ every (k - 1) (stopped_step ss)
    ∷ eqb (count n (dead_row rs)) v
    ∷ every v (vacant_entry rs n)
    ∷ every n (dead_fine rs)
    ∷ every n (rate_fine rs)
    ∷ every p (posting_live w rs n ps)
    ∷ every p (anchor_fine w rs ps)
    ∷ every n (rmax_fine w rs)
    ∷ every p (key_unstopped w ss k ps)
    -- the rows behind the first n; vacant entries; postings; stopped keys
    ∷ zero_from rs (head_width + row_width * n)
    ∷ every (n - v) (entry_unused rs v)
    ∷ zero_from ps (w * p)
    ∷ zero_from ss k
    ∷ every n (set_fine rs)
    ∷ []

-- is the store sound?
unfoldable pub sound_words : ℕ → Words → Bool
sound_words w m =
    let rs = m.references in
    all_true (sound_tests w (sizes_of w m) rs m.postings m.stopped (get_or rs 0 0) (get_or rs 1 0) (get_or rs 2 0) (get_or rs 3 0))
