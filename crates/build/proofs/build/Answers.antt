-- `build::build` meets its contract. Assumes nothing.
use Rattle.std.proofs.Common.{◌≡◌, List, ℕ, ◌-◌, ◌≤◌, ◌<◌, get_or, arith, sym}
use Rattle.std.proofs.lemmas.Result.{err_from_is_err_and}
use Rattle.refusals.specs.Numbers.{number_of}
use Rattle.soundness.specs.Scan.{words}
use Rattle.soundness.proofs.Refusal.{numbered}
use Rattle.build_ranges.specs.Codes.{Fit}
use Rattle.build.specs.Answers.{build_refusal}
use Rattle.build.proofs.Accepted.{Accepted, accepted, refused-run, written, accepted-fit, accepted-rated, accepted-grouped, accepted-rows, accepted-many, accepted-postings, accepted-few, accepted-stops, accepted-keys}
use Rattle.build.proofs.build.Goals as goal

module _ (w : ℕ) (refs posts stops : List ℕ) (limit : ℕ) (hashes lengths rates sets : List ℕ) (w3 : 3 ≤ w) (w5 : w ≤ 5)
    (e : 0 ≡ build_refusal w (words refs posts stops) limit hashes lengths rates sets) (keys : (i : ℕ) → get_or hashes i 0 < 0x1_0000_0000) where
  acc : Accepted w (words refs posts stops) limit hashes lengths rates sets
  acc = accepted w (words refs posts stops) limit hashes lengths rates sets (sym e)

  fit : Fit hashes (w - 1) lengths
  fit = accepted-fit w refs posts stops limit hashes lengths rates sets w3 w5 acc keys

pub returns-in_err-refusal : goal.returns-in_err-refusal
returns-in_err-refusal c =
    let a = c.args in
    let r = c.in_err-refusal.field-0.0 in
    let p = err_from_is_err_and c.from_residual.result c.from_residual.ensures.1 in
    rw (p.1, p.2) (refused-run a.w (words a.refs.now a.posts.now a.stops.now) a.limit a.hashes.now a.lengths.now a.rates.now a.sets.now (number_of r) c.in_err-refusal.ensures (numbered r) (omega (arith, c.requires.0)))

pub invariant_of-arrivals : goal.invariant_of-arrivals
invariant_of-arrivals c =
    let a = c.args in
    record {
      fit = ∣ fit a.w a.refs.now a.posts.now a.stops.now a.limit a.hashes.now a.lengths.now a.rates.now a.sets.now c.requires.0 c.requires.1 c.in_ok-refusal.ensures
          (λ i. omega (arith, c.type_inv.hashes i)) ∣₁;
    }

pub put_postings-left-requires : goal.put_postings-left-requires
put_postings-left-requires c =
    let a = c.args in
    let r = c.requires in
    let keys : (i : ℕ) → get_or a.hashes.now i 0 < 0x1_0000_0000 = λ i. omega (arith, c.type_inv.hashes i) in
    let k = acc a.w a.refs.now a.posts.now a.stops.now a.limit a.hashes.now a.lengths.now a.rates.now a.sets.now r.0 r.1 c.in_ok-refusal.ensures keys in
    let f = fit a.w a.refs.now a.posts.now a.stops.now a.limit a.hashes.now a.lengths.now a.rates.now a.sets.now r.0 r.1 c.in_ok-refusal.ensures keys in (
      r.0,
      accepted-many a.w a.refs.now a.posts.now a.stops.now a.limit a.hashes.now a.lengths.now a.rates.now a.sets.now r.0 r.1 k,
      accepted-postings a.w a.refs.now a.posts.now a.stops.now a.limit a.hashes.now a.lengths.now a.rates.now a.sets.now r.0 r.1 k,
      accepted-stops a.w a.refs.now a.posts.now a.stops.now a.limit a.hashes.now a.lengths.now a.rates.now a.sets.now r.0 r.1 k f,
    )

pub invariant_of-recordings : goal.invariant_of-recordings
invariant_of-recordings c =
    let a = c.args in
    let r = c.requires in
    let keys : (i : ℕ) → get_or a.hashes.now i 0 < 0x1_0000_0000 = λ i. omega (arith, c.type_inv.hashes i) in
    let k = acc a.w a.refs.now a.posts.now a.stops.now a.limit a.hashes.now a.lengths.now a.rates.now a.sets.now r.0 r.1 c.in_ok-refusal.ensures keys in
    record {
      wide = r.0;
      rated = accepted-rated a.w a.refs.now a.posts.now a.stops.now a.limit a.hashes.now a.lengths.now a.rates.now a.sets.now r.0 r.1 k;
      grouped = accepted-grouped a.w a.refs.now a.posts.now a.stops.now a.limit a.hashes.now a.lengths.now a.rates.now a.sets.now r.0 r.1 k;
    }

pub put_references-requires : goal.put_references-requires
put_references-requires c =
    let a = c.args in
    let r = c.requires in
    let g = c.put_postings-left in
    let keys : (i : ℕ) → get_or a.hashes.now i 0 < 0x1_0000_0000 = λ i. omega (arith, c.type_inv.hashes i) in
    let k = acc a.w a.refs.now a.posts.now a.stops.now a.limit a.hashes.now a.lengths.now a.rates.now a.sets.now r.0 r.1 c.in_ok-refusal.ensures keys in
    let f = fit a.w a.refs.now a.posts.now a.stops.now a.limit a.hashes.now a.lengths.now a.rates.now a.sets.now r.0 r.1 c.in_ok-refusal.ensures keys in (
      accepted-rows a.w a.refs.now a.posts.now a.stops.now a.limit a.hashes.now a.lengths.now a.rates.now a.sets.now r.0 r.1 k,
      omega (arith, g.ensures.1, accepted-few a.w a.refs.now a.posts.now a.stops.now a.limit a.hashes.now a.lengths.now a.rates.now a.sets.now r.0 r.1 k),
      omega (arith, g.ensures.2, accepted-stops a.w a.refs.now a.posts.now a.stops.now a.limit a.hashes.now a.lengths.now a.rates.now a.sets.now r.0 r.1 k f, accepted-keys a.w a.refs.now a.posts.now a.stops.now a.limit a.hashes.now a.lengths.now a.rates.now a.sets.now r.0 r.1 k),
    )

pub returns : goal.returns
returns c =
    let a = c.args in
    let r = c.requires in
    let g = c.put_postings-left in
    let keys : (i : ℕ) → get_or a.hashes.now i 0 < 0x1_0000_0000 = λ i. omega (arith, c.type_inv.hashes i) in
    let k = acc a.w a.refs.now a.posts.now a.stops.now a.limit a.hashes.now a.lengths.now a.rates.now a.sets.now r.0 r.1 c.in_ok-refusal.ensures keys in
    let f = fit a.w a.refs.now a.posts.now a.stops.now a.limit a.hashes.now a.lengths.now a.rates.now a.sets.now r.0 r.1 c.in_ok-refusal.ensures keys in
    written a.w a.refs.now a.posts.now a.stops.now a.limit a.hashes.now a.lengths.now a.rates.now a.sets.now r.0 k f c.put_references.new.refs g.new.posts g.new.stops g.result.postings g.result.stopped
    g.ensures.0 g.ensures.2 c.put_references.ensures g.ensures.3 g.ensures.4
