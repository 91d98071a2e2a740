-- What follows of a plan, for the store into which is inserted: the model's answer, and that the recording may be written. Assumes nothing.
use mathlib.Core.Path.{◌≡◌, sym, ap, ◌∙◌, subst}
use mathlib.Core.Bool.{Bool, false, cond}
use mathlib.Core.List.{List, [], ◌∷◌}
use Prim.Native.Nat.{ℕ, ◌+◌, ◌/◌, ◌≤◌, ◌<◌}
use native.Mathlib.Omega.{arith}
use lib.IntN.{ℤ, pos}
use Rattle.std.specs.Prelude.{Result, Ok, Err}
use Rattle.std.proofs.lemmas.List.{get_or-take, length-take-le}
use Rattle.refusals.specs.declared.Refusal.{Refusal}
use Rattle.refusals.specs.declared.Refusal.TheVariants.{NoPostings, NoStops}
use Rattle.refusals.specs.Numbers.{number_of}
use lib.ListN.{length, get_or, take}
use lib.Dec.{ltb}
use Rattle.lists.specs.Lists.{flat}
use Rattle.lists.specs.Keys.{place_all}
use Rattle.lists.specs.Entries.{entries, padded}
use Rattle.lists.proofs.Tests.{test}
use Rattle.model.specs.Fingerprints.{hashes_of}
use Rattle.model.specs.Rows.{has_rmax, largest_anchor, canonical}
use Rattle.model.specs.Calls.{stored, refused}
use Rattle.model.specs.Words.{Words}
use Rattle.model.specs.Run.{run_insert}
use Rattle.postings.specs.Retain.{staying}
use Rattle.soundness.specs.Scan.{words}
use Rattle.insert.specs.declared.Plan.{Plan}
use Rattle.insert.specs.declared.NoRoom.{NoRoom}
use Rattle.insert.specs.Planned.{plan_in, answered, Planned, PlannedIn}
use Rattle.insert.specs.Writing.{recorded, id_in, postings_in, Writable}
use Rattle.insert.specs.Insert.{Ready}
use Rattle.insert.proofs.Planning.{front-whole}
use Rattle.insert.proofs.Admission.{refused-postings, refused-keys, writable, stored_is}

writable-front : {w : ℕ} {rs ps ss words : List ℕ} {order : List ℤ} {m : ℕ} {overs : List ℕ} {n : ℕ} → m ≤ length order → n ≤ length overs → Writable w rs ps ss words order m overs n
    → Writable w rs ps ss words (take m order) (length (take m order)) (take n overs) (length (take n overs))
writable-front {w} {rs} {ps} {ss} {words} {order} {m} {overs} {n} a b W =
    let la = length-take-le m order a in
    let lb = length-take-le n overs b in
    record {
      placing = record {
        wide = W.placing.wide;
        narrow = W.placing.narrow;
        few = rw la W.placing.few;
        room = rw la W.placing.room;
        ascend = W.placing.ascend;
        unused = W.placing.unused;
        places = record { room = omega arith; within = λ t h. let k : t < m = rw la at h in rw (get_or-take m order t (pos 0) k) (W.placing.places.within t k) };
        sorted = rw (front-whole m order a) W.placing.sorted;
        overs-room = omega arith;
        overs-ascend = rw (front-whole n overs b) W.placing.overs-ascend;
      };
      stopping = record {
        room = rw lb W.stopping.room;
        ascend = W.stopping.ascend;
        unused = W.stopping.unused;
        overs-room = omega arith;
        overs-ascend = rw (front-whole n overs b) W.stopping.overs-ascend;
      };
      vacant = W.vacant;
      rows = W.rows;
      row = W.row;
      long = W.long;
      postings = rw la W.postings;
      stopped = rw lb W.stopped;
    }

-- a plan that left out recording id is one on the store that is left without it: its p postings were ps₀, and k keys are stopped
pub plan-left : {w limit k : ℕ} (p id : ℕ) (ps₀ rs ps ss : List ℕ) {hashes : List ℕ} {order : List ℤ} {overs : List ℕ} {r : Result Plan NoRoom} → entries w (get_or rs 2 0) ps ≡ staying w p 1 (id ∷ []) ps₀ → length ps ≡ length ps₀ → get_or rs 3 0 ≡ k
    → Planned w limit (length ps₀ / w) (length ss) (staying w p 1 (id ∷ []) ps₀) (take k ss) hashes order overs r → PlannedIn w limit (words rs ps ss) hashes order overs r
plan-left {w} {limit} {k} p id ps₀ rs ps ss {hashes} {order} {overs} {r} left long stopped P =
    subst (λ (n : ℕ). Planned w limit (n / w) (length ss) (entries w (get_or rs 2 0) ps) (take (get_or rs 3 0) ss) hashes order overs r) (sym long)
    (subst (λ (old : List (List ℕ)). Planned w limit (length ps₀ / w) (length ss) old (take (get_or rs 3 0) ss) hashes order overs r) (sym left)
    (subst (λ (n : ℕ). Planned w limit (length ps₀ / w) (length ss) (staying w p 1 (id ∷ []) ps₀) (take n ss) hashes order overs r) (sym stopped) P))

module _ {w : ℕ} {rs ps ss hashes : List ℕ} {limit set : ℕ} (rate : ℕ) (D : Ready w (words rs ps ss) hashes set) {order : List ℤ} {overs : List ℕ} {r : Result Plan NoRoom}
    (P : PlannedIn w limit (words rs ps ss) hashes order overs r) where
  abbrev m : Words
  m = words rs ps ss

  -- no room for the postings; none for the keys
  abbrev six : Bool
  six = ltb (length ps / w) (length (entries w (get_or rs 2 0) ps) + (plan_in r).hashes)

  abbrev seven : Bool
  seven = ltb (length ss) (length (take (get_or rs 3 0) ss) + (plan_in r).keys)

  -- a plan that is refused is refused by the model
  pub plan-refuses : (e : NoRoom) → r ≡ Err e → run_insert w (words rs ps ss) limit rate set hashes ≡ (refused (number_of e.refusal), words rs ps ss)
  plan-refuses e q =
      let s : answered r ≡ Err e.refusal = ap answered q in
      test six
      (λ f.
      let a = P.full f in
      let z : NoPostings ≡ e.refusal = cc in
      refused-postings w m hashes set D limit rate (plan_in r).hashes P.many f ∙ ap (λ (x : Refusal). (refused (number_of x), m)) z)
      (λ f. test seven
      (λ g.
      let a : answered r ≡ Err NoStops = P.fits f ∙ rw g in
      let z : NoStops ≡ e.refusal = cc in
      refused-keys w m hashes set D limit rate (plan_in r).hashes P.many order overs (plan_in r).keys (P.found f) f g ∙ ap (λ (x : Refusal). (refused (number_of x), m)) z)
      (λ g.
      let a : answered r ≡ Ok (plan_in r) = P.fits f ∙ rw g in
      cc))

  module _ (p : Plan) (q : r ≡ Ok p) where
    plan-is : plan_in r ≡ p
    plan-is = ap plan_in q

    accepts : answered r ≡ Ok p
    accepts = ap answered q

    fits : ltb (length ps / w) (length (entries w (get_or rs 2 0) ps) + (plan_in r).hashes) ≡ false
    fits = test six (λ f. let a = P.full f in let b = accepts in cc) (λ f. f)

    keys-fit : ltb (length ss) (length (take (get_or rs 3 0) ss) + (plan_in r).keys) ≡ false
    keys-fit = test seven
        (λ g. let a : answered r ≡ Err NoStops = P.fits fits ∙ rw g in let b = accepts in cc)
        (λ g. g)

    pub plan-order : p.hashes ≤ length order
    plan-order = subst (λ (p : Plan). p.hashes ≤ length order) plan-is (P.found fits).order-room

    pub plan-overs : p.keys ≤ length overs
    plan-overs = subst (λ (p : Plan). p.keys ≤ length overs) plan-is (P.found fits).overs-room

    allows : Writable w rs ps ss hashes order p.hashes overs p.keys
    allows = subst (λ (p : Plan). Writable w rs ps ss hashes order p.hashes overs p.keys) plan-is
        (writable w m hashes set D limit rate (plan_in r).hashes P.many order overs (plan_in r).keys (P.found fits) fits keys-fit)

    -- one that is not may be written ..
    pub plan-allows : Writable w rs ps ss hashes (take p.hashes order) (length (take p.hashes order)) (take p.keys overs) (length (take p.keys overs))
    plan-allows = writable-front plan-order plan-overs allows

    -- .. and what is then left is the model's
    pub plan-stores : (id : ℕ) (rs' ps' ss' : List ℕ) → id ≡ id_in rs
        → rs' ≡ recorded rs (get_or rs 0 0) (get_or rs 1 0) (id_in rs) (canonical rate) (cond (has_rmax w) (largest_anchor (hashes_of w hashes)) 0) set
        (length (postings_in w rs ps hashes (take p.hashes order) (length (take p.hashes order)) (take p.keys overs) (length (take p.keys overs)))) (get_or rs 3 0 + length (take p.keys overs))
        → ps' ≡ padded (length ps) (flat (postings_in w rs ps hashes (take p.hashes order) (length (take p.hashes order)) (take p.keys overs) (length (take p.keys overs))))
        → ss' ≡ padded (length ss) (place_all (λ y. y) (take (length (take p.keys overs)) (take p.keys overs)) (take (get_or rs 3 0) ss))
        → (stored id, words rs' ps' ss') ≡ run_insert w (words rs ps ss) limit rate set hashes
    plan-stores id rs' ps' ss' a b c d =
        subst (λ (p : Plan). (id : ℕ) (rs' ps' ss' : List ℕ) → id ≡ id_in rs
        → rs' ≡ recorded rs (get_or rs 0 0) (get_or rs 1 0) (id_in rs) (canonical rate) (cond (has_rmax w) (largest_anchor (hashes_of w hashes)) 0) set
        (length (postings_in w rs ps hashes order p.hashes overs p.keys)) (get_or rs 3 0 + p.keys)
        → ps' ≡ padded (length ps) (flat (postings_in w rs ps hashes order p.hashes overs p.keys))
        → ss' ≡ padded (length ss) (place_all (λ y. y) (take p.keys overs) (take (get_or rs 3 0) ss))
        → (stored id, words rs' ps' ss') ≡ run_insert w (words rs ps ss) limit rate set hashes)
        plan-is (stored_is w m hashes set D limit rate (plan_in r).hashes P.many order overs (plan_in r).keys (P.found fits) fits keys-fit)
        id rs' ps' ss' a
        (rw (front-whole p.hashes order plan-order, front-whole p.keys overs plan-overs, length-take-le p.keys overs plan-overs) at b)
        (rw (front-whole p.hashes order plan-order, front-whole p.keys overs plan-overs) at c)
        (rw (front-whole p.keys overs plan-overs) at d)
