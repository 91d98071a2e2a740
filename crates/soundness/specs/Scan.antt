-- The papers' conditions as the scan looks at them, each pass in one test. Definitions only. Assumes nothing.
use Rattle.std.specs.Prelude.{◌≡◌, Bool, cond, not, ◌&&◌, ◌||◌, List, ℕ, zero, suc, ◌+◌, ◌*◌, ◌-◌, ◌≤◌, Result, IfOk, length, eqb, leb}
use Rattle.std.specs.Borrow.{Bor}
use Rattle.lists.specs.Every.{every, count}
use Rattle.lists.specs.Entries.{key_at, keys_ascend, zero_from}
use Rattle.postings.specs.Retain.{Noted}
use Rattle.refusals.specs.declared.Refusal.{Refusal}
use Rattle.refusals.specs.Numbers.{number_in}
use Rattle.model.specs.Rows.{has_rmax, no_rate, is_canonical, is_set}
use Rattle.model.specs.Calls.{Sizes}
use Rattle.model.specs.Words.{Words, slices_listed, head_width, row_width, at_vacant}
use Rattle.model.specs.Soundness.{row_word, counts_fit, live_word, dead_fine, rate_fine, rmax_fine, dead_row, vacant_entry, entry_unused, set_fine, posting_live, anchor_fine, key_unstopped, stopped_step, sound_words}

-- the three slices
abbrev pub words : List ℕ → List ℕ → List ℕ → Words
words rs ps ss = record { references = rs; postings = ps; stopped = ss }

-- the three slices that are lent, as they are at entry or at exit
abbrev pub lent : Bor (List ℕ) → Bor (List ℕ) → Bor (List ℕ) → Words
lent rs ps ss = words rs.now ps.now ss.now

-- a row in use, by its words
unfoldable pub set_test : ℕ → ℕ → Bool
set_test live set = cond (eqb live 0) (eqb set 0) (is_set set)

unfoldable pub row_test : ℕ → ℕ → ℕ → ℕ → ℕ → Bool
row_test w rate rmax live set =
    leb live 1 && (set_test live set && cond (eqb live 0) (eqb rate no_rate && eqb rmax 0) (is_canonical rate && (has_rmax w || eqb rmax 0)))

-- the five conditions on row j
unfoldable pub row_fine : ℕ → List ℕ → ℕ → Bool
row_fine w rs j = live_word rs j && (set_fine rs j && (dead_fine rs j && (rate_fine rs j && rmax_fine w rs j)))

-- none of the first j vacant entries is x
unfoldable pub other_than : List ℕ → ℕ → ℕ → Bool
other_than rs x i = not (eqb (row_word rs i at_vacant) x)

unfoldable pub unnamed : List ℕ → ℕ → ℕ → Bool
unnamed rs j x = every j (other_than rs x)

-- the two conditions on posting i
unfoldable pub entry_fine : ℕ → List ℕ → ℕ → List ℕ → ℕ → Bool
entry_fine w rs n ps i = posting_live w rs n ps i && anchor_fine w rs ps i

-- the key before entry i, 0 before the first
abbrev pub last_key : List ℕ → ℕ → ℕ → ℕ
last_key ps w zero = 0
last_key ps w (suc i) = key_at ps w i

-- the conditions on the references, the postings and the stopped keys
unfoldable pub rows_sound : ℕ → List ℕ → ℕ → ℕ → Bool
rows_sound w rs n v =
    every n (row_fine w rs) && (eqb (count n (dead_row rs)) v && (every v (vacant_entry rs n) && (every (n - v) (entry_unused rs v) && zero_from rs (head_width + row_width * n))))

unfoldable pub postings_sound : ℕ → List ℕ → ℕ → List ℕ → ℕ → Bool
postings_sound w rs n ps p = (keys_ascend ps w p && every p (entry_fine w rs n ps)) && zero_from ps (w * p)

unfoldable pub stops_ascend : List ℕ → ℕ → Bool
stops_ascend ss k = every (k - 1) (stopped_step ss)

unfoldable pub stopped_sound : ℕ → List ℕ → ℕ → List ℕ → ℕ → Bool
stopped_sound w ss k ps p = stops_ascend ss k && (every p (key_unstopped w ss k ps) && zero_from ss k)

unfoldable pub sound_at : ℕ → Sizes → List ℕ → List ℕ → List ℕ → ℕ → ℕ → ℕ → ℕ → Bool
sound_at w z rs ps ss n v p k = counts_fit z n v p k && (rows_sound w rs n v && (postings_sound w rs n ps p && stopped_sound w ss k ps p))

-- what a pass over p postings finds that also lists those of recording id: whether a condition fails, and else how many there are
pub record Met (w : ℕ) (rs : List ℕ) (n : ℕ) (ps : List ℕ) (p id : ℕ) (list : List ℕ) (r : Result ℕ Refusal) : Type 0 where
  pub found : number_in r ≡ cond (keys_ascend ps w p && every p (entry_fine w rs n ps)) 0 2
  pub noted : IfOk r (λ own. Noted w p 1 id ps p list own)

-- the slices and the numbers in use, where they fit
pub record Fits (w : ℕ) (rs ps ss : List ℕ) (n v p k : ℕ) : Type 0 where
  pub wide : 3 ≤ w
  pub many : n ≤ 4096
  pub rows : head_width + row_width * n ≤ length rs
  pub vacant : v ≤ n
  pub postings : w * p ≤ length ps
  pub few : p ≤ 1048576
  pub stopped : k ≤ length ss

-- why a call on a store is refused before anything else is looked at: 1 unlisted, 2 unsound, 0 neither.
-- "The lowest number that applies is returned."
unfoldable pub refusal_of : ℕ → Words → ℕ
refusal_of w m = cond (slices_listed w m) (cond (sound_words w m) 0 2) 1
