-- From the plan on a store, and the words without the old take, to what the model's replacement answers and leaves. Assumes nothing.
use mathlib.Core.Path.{◌≡◌, sym, ap, ap₂, ◌∙◌}
use mathlib.Core.Bool.{true, false, cond}
use mathlib.Core.List.{List, [], ◌∷◌}
use mathlib.Core.Option.{none}
use Prim.Native.Nat.{ℕ, ◌+◌, ◌-◌, ◌/◌, ◌≤◌, ◌<◌}
use native.Mathlib.Omega.{arith}
use lib.IntN.{ℤ}
use lib.ListN.{length, get_or, take, drop}
use borrow.Author.Tests.{ne_eqb}
use Rattle.lists.specs.Lists.{flat}
use Rattle.lists.specs.Keys.{place_all}
use Rattle.lists.specs.Entries.{entries, entry_at, padded}
use Rattle.lists.proofs.Entries.{read_at}
use Rattle.model.specs.Fingerprints.{hashes_of}
use Rattle.model.specs.Rows.{has_rmax, largest_anchor, canonical}
use Rattle.model.specs.Calls.{content, Answer, stored, removed, refused, set_of}
use Rattle.model.specs.Words.{Words, sizes_of, read_row, read_index, head_width, row_width, row_place, at_live, at_set}
use Rattle.model.specs.Soundness.{row_word}
use Rattle.model.specs.Run.{store_of, run_insert, run_remove, run_replace}
use Rattle.model.proofs.Facts.{Facts, live-id}
use Rattle.model.proofs.Written.{row_word_lem}
use Rattle.model.proofs.Stores.{sound-facts, store-holds}
use Rattle.model.proofs.Replacement.{replace-refused, replace-stored, left-sound}
use Rattle.postings.specs.Retain.{staying, Noted}
use Rattle.postings.proofs.Compact.{retained-entries, length_retained}
use Rattle.rows.specs.declared.Counts.{Counts}
use Rattle.rows.specs.References.{CountsOf, header_put}
use Rattle.soundness.specs.Scan.{words}
use Rattle.remove.specs.Erasing.{vacated, others, others_left, Erasable}
use Rattle.remove.proofs.Runs.{remove-live, erasable, header-there}
use Rattle.std.specs.Prelude.{Result, Ok, Err}
use Rattle.refusals.specs.Numbers.{number_of}
use Rattle.insert.specs.declared.Plan.{Plan}
use Rattle.insert.specs.declared.NoRoom.{NoRoom}
use Rattle.insert.specs.Planned.{Plannable, Planned, PlannedIn}
use Rattle.insert.specs.Writing.{recorded, id_in, postings_in, Writable}
use Rattle.insert.specs.Insert.{no_row, Ready}
use Rattle.insert.proofs.Admission.{plannable}
use Rattle.insert.proofs.Admitted.{plan-left, plan-refuses, plan-order, plan-overs, plan-allows, plan-stores}
use Rattle.replace.specs.Replace.{Replaceable}

module _ (w : ℕ) (rs ps ss hashes : List ℕ) (id : ℕ) (D : Replaceable w (words rs ps ss) hashes id) where
  abbrev m : Words
  m = words rs ps ss

  w2 : 2 ≤ w
  w2 = omega (arith, D.wide)

  facts : Facts w (sizes_of w (words rs ps ss)) rs ps ss (get_or rs 0 0) (get_or rs 1 0) (get_or rs 2 0) (get_or rs 3 0)
  facts = sound-facts w m w2 D.is-listed D.is-sound

  within : id < get_or rs 0 0
  within = (live-id rs (get_or rs 0 0) id D.live).0

  live-word : row_word rs id at_live ≡ 1
  live-word = (live-id rs (get_or rs 0 0) id D.live).1

  -- ---- the store as it is

  pub may-plan : (h : Counts) → CountsOf rs h → Plannable w h.postings h.stopped ps ss hashes
  may-plan h c = plannable w m w2 D.is-listed D.is-sound hashes D.formed h c

  -- the postings of the others, beside those that are noted as the old take's
  pub others-many : (h : Counts) → CountsOf rs h → {list : List ℕ} {own : ℕ} → Noted w (get_or rs 2 0) 1 id ps (get_or rs 2 0) list own → h.postings - own ≡ length (staying w h.postings 1 (id ∷ []) ps)
  others-many h c n = rw c.postings (omega (arith, n.many))

  pub may-erase : Erasable w rs ps id
  may-erase = erasable w rs ps ss D.wide D.is-listed D.is-sound id D.live

  pub head_in : head_width ≤ length rs
  head_in = header-there w rs ps ss D.wide D.is-listed D.is-sound

  pub row_in : row_place id at_set < length rs
  row_in = omega (arith, may-erase.here)

  -- the row's set
  set_word : row_word rs id at_set ≡ set_of (get_or (content (store_of w (words rs ps ss))).rows id none)
  unfolding read_index
  set_word =
      let e = entry_at row_width id (drop head_width rs) in
      let a : get_or e at_live 0 ≡ 1 = row_word_lem rs id at_live (omega arith) ∙ live-word in
      let b : set_of (read_row e) ≡ row_word rs id at_set = rw a (row_word_lem rs id at_set (omega arith)) in
      rw (store-holds w m D.is-listed D.is-sound, read_at read_row row_width (get_or rs 0 0) (drop head_width rs) none id within) (sym b)

  -- ---- the store without the old take

  module _ (rs' ps' : List ℕ) (er : rs' ≡ vacated rs id (length (others w rs ps id))) (ep : ps' ≡ others_left w rs ps id) where
    gone : run_remove w (words rs ps ss) id ≡ (removed true, words rs' ps' ss)
    gone = remove-live w rs ps ss D.wide D.is-listed D.is-sound id D.live ∙ ap₂ (λ (a b : List ℕ). (removed true, words a b ss)) (sym er) (sym ep)

    vacant-some : no_row rs' ≡ false
    unfolding no_row vacated header_put
    vacant-some = rw (er, ne_eqb (get_or rs 1 0 + 1) 0 (λ e. omega arith))

    ready : Ready w (words rs' ps' ss) hashes (row_word rs id at_set)
    ready =
        let s = left-sound w w2 m (words rs' ps' ss) id 0 0 hashes gone in
        record {
          wide = D.wide;
          narrow = D.narrow;
          is-listed = s.0;
          is-sound = s.1;
          formed = D.formed;
          of-set = facts.set id within (λ e. omega (arith, live-word));
          row-left = vacant-some;
        }

    entries-left : entries w (get_or rs' 2 0) ps' ≡ staying w (get_or rs 2 0) 1 (id ∷ []) ps
    unfolding vacated header_put
    entries-left = rw (er, ep) (retained-entries w (get_or rs 2 0) 1 (id ∷ []) ps may-erase.held)

    stopped-left : get_or rs' 3 0 ≡ get_or rs 3 0
    unfolding vacated header_put
    stopped-left = rw er

    -- ---- the plan that left the old take out

    module _ (limit rate : ℕ) (h : Counts) (c : CountsOf rs h) (order : List ℤ) (overs : List ℕ) (r : Result Plan NoRoom)
        (P : Planned w limit (length ps / w) (length ss) (staying w h.postings 1 (id ∷ []) ps) (take h.stopped ss) hashes order overs r) where
      planned : PlannedIn w limit (words rs' ps' ss) hashes order overs r
      planned =
          plan-left h.postings id ps rs' ps' ss
          (entries-left ∙ ap (λ (p : ℕ). staying w p 1 (id ∷ []) ps) (sym c.postings)) (ap length ep ∙ length_retained w (get_or rs 2 0) 1 (id ∷ []) ps may-erase.held) (stopped-left ∙ sym c.stopped) P

      pub swap-refused : (e : NoRoom) → r ≡ Err e → run_replace w (words rs ps ss) id limit rate hashes ≡ (refused (number_of e.refusal), words rs ps ss)
      swap-refused e q =
          replace-refused w w2 m (words rs' ps' ss) id limit rate hashes gone (number_of e.refusal)
          (ap (λ (s : ℕ). (run_insert w (words rs' ps' ss) limit rate s hashes).0) (sym set_word)
          ∙ ap (λ (o : Answer × Words). o.0) (plan-refuses rate ready planned e q))

      module _ (p : Plan) (q : r ≡ Ok p) where
        pub order-fits : p.hashes ≤ length order
        order-fits = plan-order rate ready planned p q

        pub overs-fit : p.keys ≤ length overs
        overs-fit = plan-overs rate ready planned p q

        pub may_write : Writable w rs' ps' ss hashes (take p.hashes order) (length (take p.hashes order)) (take p.keys overs) (length (take p.keys overs))
        may_write = plan-allows rate ready planned p q

        pub swap-stored : (set j : ℕ) (rs'' ps'' ss'' : List ℕ) → set ≡ row_word rs id at_set → j ≡ id_in rs'
            → rs'' ≡ recorded rs' (get_or rs' 0 0) (get_or rs' 1 0) (id_in rs') (canonical rate) (cond (has_rmax w) (largest_anchor (hashes_of w hashes)) 0) set
            (length (postings_in w rs' ps' hashes (take p.hashes order) (length (take p.hashes order)) (take p.keys overs) (length (take p.keys overs)))) (get_or rs' 3 0 + length (take p.keys overs))
            → ps'' ≡ padded (length ps') (flat (postings_in w rs' ps' hashes (take p.hashes order) (length (take p.hashes order)) (take p.keys overs) (length (take p.keys overs))))
            → ss'' ≡ padded (length ss) (place_all (λ y. y) (take (length (take p.keys overs)) (take p.keys overs)) (take (get_or rs' 3 0) ss))
            → (stored j, words rs'' ps'' ss'') ≡ run_replace w (words rs ps ss) id limit rate hashes
        swap-stored set j rs'' ps'' ss'' o e a b d =
            let s = plan-stores rate ready planned p q j rs'' ps'' ss'' e (rw o at a) b d
            ∙ ap (λ (s : ℕ). run_insert w (words rs' ps' ss) limit rate s hashes) set_word in
            s ∙ sym (replace-stored w w2 m (words rs' ps' ss) id limit rate hashes gone j (sym (ap (λ (o : Answer × Words). o.0) s)))
