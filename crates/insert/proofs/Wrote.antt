-- What `write_recording` writes, in terms of the header's words. Assumes nothing.
use mathlib.Core.Path.{◌≡◌, sym, subst}
use mathlib.Core.Bool.{cond}
use mathlib.Core.List.{List}
use Prim.Native.Nat.{ℕ, ◌+◌, ◌-◌, ◌^◌, ◌<◌}
use native.Mathlib.Omega.{arith}
use lib.IntN.{ℤ}
use lib.ListN.{length, take}
use lib.Dec.{eqb}
use Rattle.model.specs.Soundness.{row_word}
use Rattle.model.specs.Words.{at_vacant}
use Rattle.rows.specs.declared.Counts.{Counts}
use Rattle.rows.specs.References.{CountsOf}
use Rattle.insert_merge.specs.Order.{places_in}
use Rattle.insert.specs.Writing.{Placing, placed_entries, Stopping, recorded, Recording, id_in, postings_in, Writable}
use Rattle.insert.proofs.Placed.{placed-few}

pub id-from : (rs : List ℕ) (h : Counts) (r : ℕ) → CountsOf rs h → r ≡ cond (eqb h.vacant 0) h.rows (row_word rs (h.vacant - 1) at_vacant) → r ≡ id_in rs
id-from rs h r c e = rw (c.vacant, c.rows) at e

pub recorded-all : (rs : List ℕ) (n n' v v' id id' rate rate' rmax rmax' set set' p p' k k' : ℕ) → n ≡ n' → v ≡ v' → id ≡ id' → rate ≡ rate' → rmax ≡ rmax' → set ≡ set' → p ≡ p' → k ≡ k'
    → recorded rs n v id rate rmax set p k ≡ recorded rs n' v' id' rate' rmax' set' p' k'
recorded-all rs n n' v v' id id' rate rate' rmax rmax' set set' p p' k k' a b c d e f g h = cc

module _ (w : ℕ) (rs ps ss words : List ℕ) (order : List ℤ) (m : ℕ) (overs : List ℕ) (n : ℕ) (W : Writable w rs ps ss words order m overs n) (h : Counts) (c : CountsOf rs h) where
  pub placing-from : Placing w h.postings ps words order m overs n
  placing-from = subst (λ (p : ℕ). Placing w p ps words order m overs n) (sym c.postings) W.placing

  pub stopping-from : Stopping ss h.stopped overs n
  stopping-from = subst (λ (k : ℕ). Stopping ss k overs n) (sym c.stopped) W.stopping

  pub placed-from : (id : ℕ) → id ≡ id_in rs → placed_entries w h.postings ps words id (places_in m order) (take n overs) ≡ postings_in w rs ps words order m overs n
  placed-from id e = rw (e, c.postings)

  pub recording-from : (id q : ℕ) → id ≡ id_in rs → q ≡ length (placed_entries w h.postings ps words id (places_in m order) (take n overs)) → Recording rs h.rows h.vacant id q (h.stopped + n)
  recording-from id q e f =
      let few = placed-few w h.postings ps words order m overs n id placing-from in
      record {
        vacant = omega (arith, c.rows, c.vacant, W.vacant);
        rows = omega (arith, c.rows, W.rows);
        row = rw e W.row;
        small = omega (arith, c.rows, W.rows, W.long);
        postings = omega (arith, c.postings, W.postings);
        stopped = omega (arith, c.stopped, W.stopped);
      }

  pub id-small : (id : ℕ) → id ≡ id_in rs → id < 2 ^ 32
  id-small id e = omega (arith, W.row, W.long)
