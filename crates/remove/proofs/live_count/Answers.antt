-- `remove::live_count` meets its contract. Assumes nothing.
use Rattle.std.proofs.Common.{sym, ap, ◌∙◌, arith}
use Rattle.std.proofs.lemmas.Result.{err_from_is_err_and}
use Rattle.model.specs.Calls.{refused}
use Rattle.soundness.specs.Scan.{words}
use Rattle.soundness.proofs.Refusal.{accepted, numbered}
use Rattle.remove.proofs.Runs.{count-refused, count-done, header-there, vacant-few}
use Rattle.remove.proofs.live_count.Goals as goal

pub returns-in_err-refusal : goal.returns-in_err-refusal
returns-in_err-refusal c =
    let s = c.args.store in
    let m = words s.refs.now s.posts.now s.stops.now in
    let p = err_from_is_err_and c.from_residual.result c.from_residual.ensures.1 in
    let e = c.in_err-refusal.ensures in
    rw (p.1, p.2) (ap (λ n. (refused n, m)) e ∙ sym (count-refused s.width m (omega (arith, s.wide)) (λ q. numbered c.in_err-refusal.field-0.0 (e ∙ q))))

pub bounds-store-0 : goal.bounds-store-0
bounds-store-0 c =
    let s = c.args.store in
    let a = accepted s.width (words s.refs.now s.posts.now s.stops.now) (sym c.in_ok-refusal.ensures) in
    omega (arith, header-there s.width s.refs.now s.posts.now s.stops.now s.wide a.0 a.1)

pub bounds-store-1 : goal.bounds-store-1
bounds-store-1 c =
    let s = c.args.store in
    let a = accepted s.width (words s.refs.now s.posts.now s.stops.now) (sym c.in_ok-refusal.ensures) in
    omega (arith, header-there s.width s.refs.now s.posts.now s.stops.now s.wide a.0 a.1)

pub overflow_sub-result : goal.overflow_sub-result
overflow_sub-result c =
    let s = c.args.store in
    let a = accepted s.width (words s.refs.now s.posts.now s.stops.now) (sym c.in_ok-refusal.ensures) in
    omega (arith, vacant-few s.width s.refs.now s.posts.now s.stops.now s.wide a.0 a.1)

pub returns : goal.returns
returns c =
    let s = c.args.store in
    let a = accepted s.width (words s.refs.now s.posts.now s.stops.now) (sym c.in_ok-refusal.ensures) in
    sym (count-done s.width s.refs.now s.posts.now s.stops.now s.wide a.0 a.1)
