-- What an insertion writes into the three slices. Definitions only. Assumes nothing.
use Rattle.std.specs.Prelude.{◌≡◌, true, cond, List, ℕ, ◌+◌, ◌*◌, ◌-◌, ◌^◌, ◌≤◌, ◌<◌, ℤ, length, get_or, take, eqb}
use Rattle.lists.specs.Keys.{Sorted, Ascending, place_all}
use Rattle.lists.specs.Entries.{key_of, key_at, keys_ascend, zero_from}
use Rattle.postings.specs.Retain.{staying}
use Rattle.model.specs.Soundness.{row_word}
use Rattle.model.specs.Words.{head_width, row_width, at_vacant}
use Rattle.rows.specs.References.{header_put, row_put, entry_put}
use Rattle.insert_merge.specs.Order.{places_in, Places, entries_of, without}

-- the entries that stay, with the new ones placed among them
unfoldable pub placed_entries : ℕ → ℕ → List ℕ → List ℕ → ℕ → List ℕ → List ℕ → List (List ℕ)
placed_entries w p ps words id js overs = place_all (λ e. key_of e) (entries_of (w - 1) words id (without (w - 1) words overs js)) (staying w p 0 overs ps)

-- what is asked of the postings, of the hashes, of their places in order, and of the keys that go
pub record Placing (w p : ℕ) (ps words : List ℕ) (order : List ℤ) (m : ℕ) (overs : List ℕ) (n : ℕ) : Type 0 where
  pub wide : 3 ≤ w
  pub narrow : w ≤ 5
  pub few : m ≤ 8192
  pub room : w * (p + m) ≤ length ps
  pub ascend : keys_ascend ps w p ≡ true
  pub unused : zero_from ps (w * p) ≡ true
  pub places : Places order m (w - 1) words
  pub sorted : Sorted (λ j. key_at words (w - 1) j) (places_in m order)
  pub overs-room : n ≤ length overs
  pub overs-ascend : Ascending (λ k. k) (take n overs)

-- and of the stopped keys
pub record Stopping (ss : List ℕ) (k : ℕ) (overs : List ℕ) (n : ℕ) : Type 0 where
  pub room : k + n ≤ length ss
  pub ascend : Ascending (λ x. x) (take k ss)
  pub unused : zero_from ss k ≡ true
  pub overs-room : n ≤ length overs
  pub overs-ascend : Ascending (λ x. x) (take n overs)

-- a row and the header anew; where an id was vacant, its entry goes
unfoldable pub recorded : List ℕ → ℕ → ℕ → ℕ → ℕ → ℕ → ℕ → ℕ → ℕ → List ℕ
recorded rs n v id rate rmax set p k =
    cond (eqb v 0)
    (header_put (row_put rs id rate rmax 1 set) (n + 1) 0 p k)
    (header_put (row_put (entry_put rs (v - 1) 0) id rate rmax 1 set) n (v - 1) p k)

pub record Recording (rs : List ℕ) (n v id p k : ℕ) : Type 0 where
  pub vacant : v ≤ n
  pub rows : head_width + row_width * n ≤ length rs
  pub row : head_width + row_width * (id + 1) ≤ length rs
  pub small : n < 2 ^ 31
  pub postings : p < 2 ^ 32
  pub stopped : k < 2 ^ 32

-- "A new id is the last one vacated, else n", from the words
abbrev pub id_in : List ℕ → ℕ
id_in rs = cond (eqb (get_or rs 1 0) 0) (get_or rs 0 0) (row_word rs (get_or rs 1 0 - 1) at_vacant)

-- the entries that are left
abbrev pub postings_in : ℕ → List ℕ → List ℕ → List ℕ → List ℤ → ℕ → List ℕ → ℕ → List (List ℕ)
postings_in w rs ps words order m overs n = placed_entries w (get_or rs 2 0) ps words (id_in rs) (places_in m order) (take n overs)

-- what is asked of the three slices, where a recording is accepted
pub record Writable (w : ℕ) (rs ps ss words : List ℕ) (order : List ℤ) (m : ℕ) (overs : List ℕ) (n : ℕ) : Type 0 where
  pub placing : Placing w (get_or rs 2 0) ps words order m overs n
  pub stopping : Stopping ss (get_or rs 3 0) overs n
  pub vacant : get_or rs 1 0 ≤ get_or rs 0 0
  pub rows : head_width + row_width * get_or rs 0 0 ≤ length rs
  pub row : head_width + row_width * (id_in rs + 1) ≤ length rs
  pub long : length rs ≤ head_width + row_width * 4096
  pub postings : get_or rs 2 0 + m < 2 ^ 32
  pub stopped : get_or rs 3 0 + n < 2 ^ 32
