-- `soundness::Store::refusal` meets its contract. Assumes nothing.
use Rattle.std.proofs.Common.{sym, ◌∙◌}
use Rattle.soundness.specs.Scan.{words}
use Rattle.soundness.proofs.Sound.{header-there, counts-no, counts-yes, counts-room}
use Rattle.soundness.proofs.Refusal.{refusal-unlisted, refusal-unsound, refusal-none}
use Rattle.soundness.proofs.Store.refusal.Goals.{then-not-counts_fit-via-then-not-counts_fit, then-not-counts_fit-via-else-not-counts_fit+then-not-sound_within}
use Rattle.soundness.proofs.Store.refusal.Goals as goal

pub returns-then-not-is_listed : goal.returns-then-not-is_listed
returns-then-not-is_listed c = let s = c.args.self in
    sym (refusal-unlisted s.width (words s.refs.now s.posts.now s.stops.now) (sym c.is_listed.ensures ∙ c.if-not-is_listed.true))

pub header-c-requires : goal.header-c-requires
header-c-requires c = let s = c.args.self in header-there s.width s.refs.now s.posts.now s.stops.now s.wide (sym c.is_listed.ensures ∙ c.if-not-is_listed.false)

pub counts_fit-requires : goal.counts_fit-requires
counts_fit-requires c = let s = c.args.self in header-there s.width s.refs.now s.posts.now s.stops.now s.wide (sym c.is_listed.ensures ∙ c.if-not-is_listed.false)

pub sound_within-requires : goal.sound_within-requires
sound_within-requires c =
    let s = c.args.self in
    let h = c.header-c.ensures in
    counts-room s.width s.refs.now s.posts.now s.stops.now s.wide (sym c.is_listed.ensures ∙ c.if-not-is_listed.false) h.rows h.vacant h.postings h.stopped (sym c.counts_fit.ensures ∙ c.if-not-counts_fit.false)

pub returns-then-not-counts_fit : goal.returns-then-not-counts_fit
returns-then-not-counts_fit c =
    let s = c.args.self in
    let h = c.header-c.ensures in
    let l = sym c.is_listed.ensures ∙ c.if-not-is_listed.false in
    elim c.then-not-counts_fit.branch [
      | then-not-counts_fit-via-then-not-counts_fit w ↦
          let n = counts-no s.width s.refs.now s.posts.now s.stops.now s.wide l h.rows h.vacant h.postings h.stopped (sym c.counts_fit.ensures ∙ w.if-not-counts_fit.true) in
          sym (refusal-unsound s.width (words s.refs.now s.posts.now s.stops.now) l (sym n))
      | then-not-counts_fit-via-else-not-counts_fit+then-not-sound_within w ↦
          let y = counts-yes s.width s.refs.now s.posts.now s.stops.now s.wide l h.rows h.vacant h.postings h.stopped (sym c.counts_fit.ensures ∙ w.if-not-counts_fit.false) _ w.sound_within.ensures in
          sym (refusal-unsound s.width (words s.refs.now s.posts.now s.stops.now) l (sym y ∙ w.if-not-sound_within.true))
    ]

pub returns : goal.returns
returns c =
    let s = c.args.self in
    let h = c.header-c.ensures in
    let l = sym c.is_listed.ensures ∙ c.if-not-is_listed.false in
    let y = counts-yes s.width s.refs.now s.posts.now s.stops.now s.wide l h.rows h.vacant h.postings h.stopped (sym c.counts_fit.ensures ∙ c.if-not-counts_fit.false) _ c.sound_within.ensures in
    sym (refusal-none s.width (words s.refs.now s.posts.now s.stops.now) l (sym y ∙ c.if-not-sound_within.false))
