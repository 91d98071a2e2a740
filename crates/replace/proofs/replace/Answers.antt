-- `replace::replace` meets its contract. Assumes nothing.
use Rattle.std.proofs.Common.{◌≤◌, sym, ap, ◌∙◌, arith}
use Rattle.std.proofs.lemmas.Result.{err_from_is_err_and}
use Rattle.model.specs.Calls.{refused}
use Rattle.soundness.specs.Scan.{words}
use Rattle.soundness.proofs.Refusal.{accepted, numbered}
use Rattle.remove.proofs.Runs.{header-there, rows-there, live-is}
use Rattle.replace.proofs.Refusals.{refused-early, refused-3, refused-10}
use Rattle.replace.proofs.replace.Goals as goal

pub returns-in_err-own : goal.returns-in_err-own
returns-in_err-own c =
    let s = c.args in
    let m = words s.refs.now s.posts.now s.stops.now in
    let p = err_from_is_err_and c.from_residual.result c.from_residual.ensures.1 in
    let e = c.in_err-own.ensures.number_value in
    rw (p.1, p.2) (ap (λ n. (refused n, m)) e ∙ sym (refused-early s.w m s.id s.limit s.rate s.hashes.now (omega (arith, c.requires.0)) (λ q. numbered c.in_err-own.field-0.0 (e ∙ q))))

pub returns-then-is_malformed : goal.returns-then-is_malformed
returns-then-is_malformed c =
    let s = c.args in
    let m = words s.refs.now s.posts.now s.stops.now in
    let w2 : 2 ≤ s.w = omega (arith, c.requires.0) in
    let a = accepted s.w m (sym c.in_ok-own.ensures.number_value) in
    sym (refused-3 s.w m s.id s.limit s.rate s.hashes.now w2 a.0 a.1 (sym c.is_malformed.ensures ∙ c.if-is_malformed.true))

pub is_live-requires : goal.is_live-requires
is_live-requires c =
    let s = c.args in
    let m = words s.refs.now s.posts.now s.stops.now in
    let w2 : 2 ≤ s.w = omega (arith, c.requires.0) in
    let a = accepted s.w m (sym c.in_ok-own.ensures.number_value) in
    (header-there s.w s.refs.now s.posts.now s.stops.now c.requires.0 a.0 a.1, rows-there s.w s.refs.now s.posts.now s.stops.now c.requires.0 a.0 a.1)

pub returns-then-not-is_live : goal.returns-then-not-is_live
returns-then-not-is_live c =
    let s = c.args in
    let m = words s.refs.now s.posts.now s.stops.now in
    let w2 : 2 ≤ s.w = omega (arith, c.requires.0) in
    let a = accepted s.w m (sym c.in_ok-own.ensures.number_value) in
    sym (refused-10 s.w m s.id s.limit s.rate s.hashes.now w2 a.0 a.1 (sym c.is_malformed.ensures ∙ c.if-is_malformed.false)
    (live-is s.w s.refs.now s.posts.now s.stops.now c.requires.0 a.0 a.1 s.id ∙ (sym c.is_live.ensures ∙ c.if-not-is_live.true)))

pub swap-requires : goal.swap-requires
swap-requires c =
    let s = c.args in
    let m = words s.refs.now s.posts.now s.stops.now in
    let w2 : 2 ≤ s.w = omega (arith, c.requires.0) in
    let a = accepted s.w m (sym c.in_ok-own.ensures.number_value) in
    record {
      replaceable = record {
        wide = c.requires.0;
        narrow = c.requires.1;
        is-listed = a.0;
        is-sound = a.1;
        formed = sym c.is_malformed.ensures ∙ c.if-is_malformed.false;
        live = sym c.is_live.ensures ∙ c.if-not-is_live.false;
      };
      noted = (c.in_ok-own.ensures.noted, omega arith);
    }
