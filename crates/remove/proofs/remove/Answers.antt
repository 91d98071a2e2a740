-- `remove::remove` meets its contract. Assumes nothing.
use Rattle.std.proofs.Common.{List, ℕ, true, sym, ap, ap₂, ◌∙◌, arith}
use Rattle.std.proofs.lemmas.Result.{err_from_is_err_and}
use Rattle.model.specs.Calls.{removed, refused}
use Rattle.soundness.specs.Scan.{words}
use Rattle.soundness.proofs.Refusal.{accepted, numbered}
use Rattle.postings.proofs.Listing.{listed-none}
use Rattle.remove.proofs.Runs.{remove-refused, remove-dead, remove-live, header-there, rows-there, erasable}
use Rattle.remove.proofs.remove.Goals as goal

pub returns-in_err-refusal : goal.returns-in_err-refusal
returns-in_err-refusal c =
    let s = c.args in
    let m = words s.refs.now s.posts.now s.stops.now in
    let p = err_from_is_err_and c.from_residual.result c.from_residual.ensures.1 in
    let e = c.in_err-refusal.ensures in
    rw (p.1, p.2) (ap (λ n. (refused n, m)) e ∙ sym (remove-refused s.w m (omega arith) (λ q. numbered c.in_err-refusal.field-0.0 (e ∙ q)) s.id))

pub is_live-requires : goal.is_live-requires
is_live-requires c =
    let s = c.args in
    let a = accepted s.w (words s.refs.now s.posts.now s.stops.now) (sym c.in_ok-refusal.ensures) in
    (header-there s.w s.refs.now s.posts.now s.stops.now c.requires.0 a.0 a.1, rows-there s.w s.refs.now s.posts.now s.stops.now c.requires.0 a.0 a.1)

pub returns-then-not-is_live : goal.returns-then-not-is_live
returns-then-not-is_live c =
    let s = c.args in
    let a = accepted s.w (words s.refs.now s.posts.now s.stops.now) (sym c.in_ok-refusal.ensures) in
    sym (remove-dead s.w s.refs.now s.posts.now s.stops.now c.requires.0 a.0 a.1 s.id (sym c.is_live.ensures ∙ c.if-not-is_live.true))

pub erase-requires : goal.erase-requires
erase-requires c =
    let s = c.args in
    let a = accepted s.w (words s.refs.now s.posts.now s.stops.now) (sym c.in_ok-refusal.ensures) in
    record {
      erasable = erasable s.w s.refs.now s.posts.now s.stops.now c.requires.0 a.0 a.1 s.id (sym c.is_live.ensures ∙ c.if-not-is_live.false);
      listed = listed-none _ _ _ _ _ _;
    }

pub returns : goal.returns
returns c =
    let s = c.args in
    let a = accepted s.w (words s.refs.now s.posts.now s.stops.now) (sym c.in_ok-refusal.ensures) in
    let e = remove-live s.w s.refs.now s.posts.now s.stops.now c.requires.0 a.0 a.1 s.id (sym c.is_live.ensures ∙ c.if-not-is_live.false) in
    let f = c.erase.ensures in
    ap₂ (λ (rs ps : List ℕ). (removed true, words rs ps s.stops.now)) f.refs_after f.posts_after ∙ sym e
