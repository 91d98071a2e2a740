-- What an insertion would do, found before a word is written. Definitions only. Assumes nothing.
use Rattle.std.specs.Prelude.{◌≡◌, true, false, cond, List, map, ℕ, ◌+◌, ◌*◌, ◌-◌, ◌/◌, ◌≤◌, ℤ, Result, Ok, Err, length, get_or, take, ltb}
use Rattle.lists.specs.Keys.{Ascending}
use Rattle.lists.specs.Entries.{entries, key_of, keys_ascend}
use Rattle.model.specs.Fingerprints.{hash_count}
use Rattle.refusals.specs.declared.Refusal.{Refusal}
use Rattle.refusals.specs.declared.Refusal.TheVariants.{NoPostings, NoStops}
use Rattle.model.specs.Words.{Words}
use Rattle.insert_merge.specs.Order.{taken, packs, ordered, keys_in, OverKeys}
use Rattle.insert.specs.declared.Plan.{Plan}
use Rattle.insert.specs.declared.NoRoom.{NoRoom}

-- what is asked of p postings, of k stopped keys and of the hashes
pub record Plannable (w p k : ℕ) (ps ss hashes : List ℕ) : Type 0 where
  pub wide : 2 ≤ w
  pub few : hash_count w hashes ≤ 8192
  pub held : w * p ≤ length ps
  pub ascend : keys_ascend ps w p ≡ true
  pub stopped : k ≤ length ss
  pub stopped-ascend : Ascending (λ x. x) (take k ss)

-- the m hashes that are not skipped, in order, and the n keys that are above the limit with the postings `old`
pub record Found (w limit : ℕ) (old : List (List ℕ)) (stopped hashes : List ℕ) (order : List ℤ) (m : ℕ) (overs : List ℕ) (n : ℕ) : Type 0 where
  pub in_order : take m order ≡ packs (w - 1) hashes (ordered (w - 1) hashes stopped (hash_count w hashes))
  pub above : OverKeys limit (map (λ e. key_of e) old) (keys_in m order) (take n overs)
  pub order-room : m ≤ length order
  pub overs-room : n ≤ length overs

-- how many hashes are not skipped
abbrev pub taken_in : ℕ → List ℕ → List ℕ → ℕ
taken_in w stopped hashes = length (taken (w - 1) hashes stopped (hash_count w hashes))

-- the plan in an answer, where it is refused too
abbrev pub plan_in : Result Plan NoRoom → Plan
plan_in (Ok p) = p
plan_in (Err n) = n.plan

-- the answer, without the plan where it is refused
abbrev pub answered : Result Plan NoRoom → Result Plan Refusal
answered (Ok p) = Ok p
answered (Err n) = Err n.refusal

-- a plan with room for P postings and K stopped keys, of which `old` and `stopped` are in use: "p + m > P", "stopped
-- keys after the call would exceed K"
pub record Planned (w limit P K : ℕ) (old : List (List ℕ)) (stopped hashes : List ℕ) (order : List ℤ) (overs : List ℕ) (r : Result Plan NoRoom) : Type 0 where
  pub many : (plan_in r).hashes ≡ taken_in w stopped hashes
  pub full : ltb P (length old + (plan_in r).hashes) ≡ true → answered r ≡ Err NoPostings
  pub fits : ltb P (length old + (plan_in r).hashes) ≡ false → answered r ≡ cond (ltb K (length stopped + (plan_in r).keys)) (Err NoStops) (Ok (plan_in r))
  pub found : ltb P (length old + (plan_in r).hashes) ≡ false → Found w limit old stopped hashes order (plan_in r).hashes overs (plan_in r).keys

-- on a store as it is
abbrev pub PlannedIn : ℕ → ℕ → Words → List ℕ → List ℤ → List ℕ → Result Plan NoRoom → Type 0
PlannedIn w limit m hashes order overs r =
    Planned w limit (length m.postings / w) (length m.stopped) (entries w (get_or m.references 2 0) m.postings) (take (get_or m.references 3 0) m.stopped) hashes order overs r
