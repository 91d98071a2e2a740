-- `build::Lent::refusal` meets its contract. Assumes nothing.
use Rattle.std.proofs.Common.{◌≡◌, true, false, not, List, map, ℕ, ◌-◌, ◌/◌, ◌≤◌, ◌<◌, length, get_or, ltb, arith, sym, ◌∙◌}
use borrow.Author.Tests.{lt-ltb, le-ltb}
use Rattle.lists.specs.Lists.{some?}
use Rattle.build_ranges.specs.Codes.{in_order, Fit}
use Rattle.build_stops.specs.Over.{key_in, over_keys}
use Rattle.model.specs.Fingerprints.{fingerprints_of, malformed_build}
use Rattle.model.specs.Rows.{is_set}
use Rattle.model.specs.Words.{Words, sizes_of, slices_listed, head_width, row_width}
use Rattle.model.specs.Index.{numbered}
use Rattle.soundness.specs.Scan.{words}
use Rattle.build.specs.Answers.{build_refusal}
use Rattle.build.proofs.Tests.{few-rows, some-rows}
use Rattle.build.proofs.Accepted.{rung-1, rung-3, rung-9, rung-5, rung-6, rung-7, rung-0, sets-test, rows-test, postings-test, stopped-test, fit_is}
use Rattle.build.proofs.Lent.refusal.Goals as goal

-- the tests, as the code has them
module _ (w : ℕ) (refs posts stops : List ℕ) (limit : ℕ) (hashes lengths rates sets : List ℕ)
    (l : slices_listed w (words refs posts stops) ≡ true) (b : malformed_build w hashes lengths rates sets ≡ false) where
  abbrev m : Words
  m = words refs posts stops

  fit-now : length lengths ≤ (length refs - head_width) / row_width → 3 ≤ w → w ≤ 5 → ((i : ℕ) → get_or hashes i 0 < 0x1_0000_0000) → Fit hashes (w - 1) lengths
  fit-now r w3 w5 keys = fit_is w hashes lengths rates sets b w3 w5 (omega (arith, few-rows w refs posts stops (omega arith) l)) keys

  at-sets : true ≡ some? (λ s. not (is_set s)) sets → 9 ≡ build_refusal w (words refs posts stops) limit hashes lengths rates sets
  at-sets e = sym (rung-9 w m limit hashes lengths rates sets l b (sets-test w refs posts stops limit hashes lengths rates sets b ∙ sym e))

  module _ (s : false ≡ some? (λ s. not (is_set s)) sets) where
    sound : some? (λ f. not (is_set f.set)) (fingerprints_of w hashes lengths rates sets) ≡ false
    sound = sets-test w refs posts stops limit hashes lengths rates sets b ∙ sym s

    at-rows : (length refs - head_width) / row_width < length lengths → 5 ≡ build_refusal w (words refs posts stops) limit hashes lengths rates sets
    at-rows h =
        sym (rung-5 w m limit hashes lengths rates sets l b sound
        (rows-test w refs posts stops limit hashes lengths rates sets b ∙ lt-ltb ((length refs - head_width) / row_width) (length lengths) h))

    module _ (r : length lengths ≤ (length refs - head_width) / row_width) where
      rows-fit : ltb (sizes_of w (words refs posts stops)).R (length (fingerprints_of w hashes lengths rates sets)) ≡ false
      rows-fit = rows-test w refs posts stops limit hashes lengths rates sets b ∙ le-ltb ((length refs - head_width) / row_width) (length lengths) r

      at-postings : length posts / w < length hashes / (w - 1) → 6 ≡ build_refusal w (words refs posts stops) limit hashes lengths rates sets
      at-postings h =
          sym (rung-6 w m limit hashes lengths rates sets l b sound rows-fit
          (postings-test w refs posts stops limit hashes lengths rates sets b ∙ lt-ltb (length posts / w) (length hashes / (w - 1)) h))

      module _ (p : length hashes / (w - 1) ≤ length posts / w) (w3 : 3 ≤ w) (fit : Fit hashes (w - 1) lengths) where
        postings-fit : ltb (sizes_of w (words refs posts stops)).P (length (numbered 0 (fingerprints_of w hashes lengths rates sets))) ≡ false
        postings-fit = postings-test w refs posts stops limit hashes lengths rates sets b ∙ le-ltb (length posts / w) (length hashes / (w - 1)) p

        at-stops : true ≡ ltb (length stops) (length (over_keys limit (map key_in (in_order hashes (w - 1) lengths)))) → 7 ≡ build_refusal w (words refs posts stops) limit hashes lengths rates sets
        at-stops e =
            sym (rung-7 w m limit hashes lengths rates sets l b sound rows-fit postings-fit (stopped-test w refs posts stops limit hashes lengths rates sets b w3 fit ∙ sym e))

        at-none : false ≡ ltb (length stops) (length (over_keys limit (map key_in (in_order hashes (w - 1) lengths)))) → 0 ≡ build_refusal w (words refs posts stops) limit hashes lengths rates sets
        at-none e =
            sym (rung-0 w m limit hashes lengths rates sets l b sound rows-fit postings-fit (stopped-test w refs posts stops limit hashes lengths rates sets b w3 fit ∙ sym e))

pub returns-then-not-is_listed : goal.returns-then-not-is_listed
returns-then-not-is_listed c =
    let a = c.args in
    sym (rung-1 a.store.width (words a.store.refs.now a.store.posts.now a.store.stops.now) a.limit a.self.hashes.now a.self.lengths.now a.self.rates.now a.self.sets.now (sym c.if-not-is_listed.ensures))

pub returns-then-is_malformed : goal.returns-then-is_malformed
returns-then-is_malformed c =
    let a = c.args in
    sym (rung-3 a.store.width (words a.store.refs.now a.store.posts.now a.store.stops.now) a.limit a.self.hashes.now a.self.lengths.now a.self.rates.now a.self.sets.now (sym c.if-not-is_listed.ensures) (sym c.if-is_malformed.ensures))

pub returns-then-has_faulty_set : goal.returns-then-has_faulty_set
returns-then-has_faulty_set c =
    let a = c.args in
    at-sets a.store.width a.store.refs.now a.store.posts.now a.store.stops.now a.limit a.self.hashes.now a.self.lengths.now a.self.rates.now a.self.sets.now (sym c.if-not-is_listed.ensures) (sym c.if-is_malformed.ensures) c.if-has_faulty_set.ensures

pub overflow_sub-store : goal.overflow_sub-store
overflow_sub-store c =
    let a = c.args in
    omega (arith, some-rows a.store.width a.store.refs.now a.store.posts.now a.store.stops.now (omega (arith, a.store.wide)) (sym c.if-not-is_listed.ensures))

pub returns-then-store-self : goal.returns-then-store-self
returns-then-store-self c =
    let a = c.args in
    at-rows a.store.width a.store.refs.now a.store.posts.now a.store.stops.now a.limit a.self.hashes.now a.self.lengths.now a.self.rates.now a.self.sets.now (sym c.if-not-is_listed.ensures) (sym c.if-is_malformed.ensures) c.if-has_faulty_set.ensures
    c.if-store-self.true

pub returns-then-room-many : goal.returns-then-room-many
returns-then-room-many c =
    let a = c.args in
    at-postings a.store.width a.store.refs.now a.store.posts.now a.store.stops.now a.limit a.self.hashes.now a.self.lengths.now a.self.rates.now a.self.sets.now (sym c.if-not-is_listed.ensures) (sym c.if-is_malformed.ensures) c.if-has_faulty_set.ensures
    c.if-store-self.false c.if-room-many.true

pub invariant_of-arrivals : goal.invariant_of-arrivals
invariant_of-arrivals c =
    let a = c.args in
    record {
      fit = ∣ fit-now a.store.width a.store.refs.now a.store.posts.now a.store.stops.now a.limit a.self.hashes.now a.self.lengths.now a.self.rates.now a.self.sets.now
          (sym c.if-not-is_listed.ensures) (sym c.if-is_malformed.ensures) c.if-store-self.false a.store.wide c.requires a.self.keys ∣₁;
    }

pub returns-then-over_room : goal.returns-then-over_room
returns-then-over_room c =
    let a = c.args in
    let fit = fit-now a.store.width a.store.refs.now a.store.posts.now a.store.stops.now a.limit a.self.hashes.now a.self.lengths.now a.self.rates.now a.self.sets.now
    (sym c.if-not-is_listed.ensures) (sym c.if-is_malformed.ensures) c.if-store-self.false a.store.wide c.requires a.self.keys in
    at-stops a.store.width a.store.refs.now a.store.posts.now a.store.stops.now a.limit a.self.hashes.now a.self.lengths.now a.self.rates.now a.self.sets.now (sym c.if-not-is_listed.ensures) (sym c.if-is_malformed.ensures) c.if-has_faulty_set.ensures
    c.if-store-self.false c.if-room-many.false a.store.wide fit c.if-over_room.ensures

pub returns : goal.returns
returns c =
    let a = c.args in
    let fit = fit-now a.store.width a.store.refs.now a.store.posts.now a.store.stops.now a.limit a.self.hashes.now a.self.lengths.now a.self.rates.now a.self.sets.now
    (sym c.if-not-is_listed.ensures) (sym c.if-is_malformed.ensures) c.if-store-self.false a.store.wide c.requires a.self.keys in
    at-none a.store.width a.store.refs.now a.store.posts.now a.store.stops.now a.limit a.self.hashes.now a.self.lengths.now a.self.rates.now a.self.sets.now (sym c.if-not-is_listed.ensures) (sym c.if-is_malformed.ensures) c.if-has_faulty_set.ensures
    c.if-store-self.false c.if-room-many.false a.store.wide fit c.if-over_room.ensures
