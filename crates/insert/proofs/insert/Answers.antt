-- `insert::insert` meets its contract. Assumes nothing.
use Rattle.std.proofs.Common.{◌≤◌, sym, ap, ◌∙◌, arith}
use Rattle.std.proofs.lemmas.Result.{err_from_is_err_and}
use Rattle.model.specs.Calls.{refused}
use Rattle.soundness.specs.Scan.{words}
use Rattle.soundness.proofs.Refusal.{accepted, numbered}
use Rattle.insert.proofs.Admission.{full_is, rooms}
use Rattle.insert.proofs.Refusals.{refused-early, refused-3, refused-9, refused-5}
use Rattle.insert.proofs.insert.Goals as goal

pub returns-in_err-refusal : goal.returns-in_err-refusal
returns-in_err-refusal c =
    let s = c.args in
    let m = words s.refs.now s.posts.now s.stops.now in
    let p = err_from_is_err_and c.from_residual.result c.from_residual.ensures.1 in
    let e = c.in_err-refusal.ensures in
    rw (p.1, p.2) (ap (λ n. (refused n, m)) e ∙ sym (refused-early s.w m s.limit s.rate s.set s.hashes.now (omega (arith, c.requires.0)) (λ q. numbered c.in_err-refusal.field-0.0 (e ∙ q))))

pub returns-then-is_malformed : goal.returns-then-is_malformed
returns-then-is_malformed c =
    let s = c.args in
    let m = words s.refs.now s.posts.now s.stops.now in
    let w2 : 2 ≤ s.w = omega (arith, c.requires.0) in
    let a = accepted s.w m (sym c.in_ok-refusal.ensures) in
    sym (refused-3 s.w m s.limit s.rate s.set s.hashes.now w2 a.0 a.1 (sym c.is_malformed.ensures ∙ c.if-is_malformed.true))

pub returns-then-not-is_set : goal.returns-then-not-is_set
returns-then-not-is_set c =
    let s = c.args in
    let m = words s.refs.now s.posts.now s.stops.now in
    let w2 : 2 ≤ s.w = omega (arith, c.requires.0) in
    let a = accepted s.w m (sym c.in_ok-refusal.ensures) in
    sym (refused-9 s.w m s.limit s.rate s.set s.hashes.now w2 a.0 a.1 (sym c.is_malformed.ensures ∙ c.if-is_malformed.false) (sym c.is_set.ensures ∙ c.if-not-is_set.true))

pub is_full-requires : goal.is_full-requires
is_full-requires c =
    let s = c.args in
    let m = words s.refs.now s.posts.now s.stops.now in
    let w2 : 2 ≤ s.w = omega (arith, c.requires.0) in
    let a = accepted s.w m (sym c.in_ok-refusal.ensures) in
    omega (arith, (rooms s.w m w2 a.0 a.1).references)

pub returns-then-is_full : goal.returns-then-is_full
returns-then-is_full c =
    let s = c.args in
    let m = words s.refs.now s.posts.now s.stops.now in
    let w2 : 2 ≤ s.w = omega (arith, c.requires.0) in
    let a = accepted s.w m (sym c.in_ok-refusal.ensures) in
    sym (refused-5 s.w m s.limit s.rate s.set s.hashes.now w2 a.0 a.1 (sym c.is_malformed.ensures ∙ c.if-is_malformed.false) (sym c.is_set.ensures ∙ c.if-not-is_set.false)
    (full_is s.w m w2 a.0 a.1 ∙ (sym c.is_full.ensures ∙ c.if-is_full.true)))

pub admit-requires : goal.admit-requires
admit-requires c =
    let s = c.args in
    let m = words s.refs.now s.posts.now s.stops.now in
    let w2 : 2 ≤ s.w = omega (arith, c.requires.0) in
    let a = accepted s.w m (sym c.in_ok-refusal.ensures) in
    record {
      wide = c.requires.0;
      narrow = c.requires.1;
      is-listed = a.0;
      is-sound = a.1;
      formed = sym c.is_malformed.ensures ∙ c.if-is_malformed.false;
      of-set = sym c.is_set.ensures ∙ c.if-not-is_set.false;
      row-left = sym c.is_full.ensures ∙ c.if-is_full.false;
    }
