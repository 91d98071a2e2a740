-- `matching::TimeOffset::try_from_frames` meets its contract. Assumes nothing.
use Rattle.std.proofs.Common.{◌≡◌, sym, ap, ◌∙◌, w64}
use mir.ValLaws.{to_z-of_z}
use Rattle.matching.specs.Offsets.{unrounded, in_i64}
use Rattle.matching.proofs.Offsets.{both, rounded, at-rate, tried, tried-no-rate, tried-beyond}
use Rattle.matching.proofs.TimeOffset.try_from_frames.Goals as goal

pub returns-then-not-is_rate : goal.returns-then-not-is_rate
returns-then-not-is_rate c = tried-no-rate c.args.frames c.args.frames_per_sec (sym c.is_rate.ensures ∙ c.if-not-is_rate.true)

pub returns-then-not-is_i64 : goal.returns-then-not-is_i64
returns-then-not-is_i64 c =
    let told : c.milliseconds-ms.result ≡ unrounded c.args.frames c.args.frames_per_sec =
    c.milliseconds-ms.ensures ∙ ap (λ z. unrounded z c.args.frames_per_sec) (to_z-of_z w64 c.args.frames c.ranges.frames) in
    tried-beyond c.args.frames c.args.frames_per_sec (sym c.is_rate.ensures ∙ c.if-not-is_rate.false) (sym (ap in_i64 told) ∙ sym c.is_i64.ensures ∙ c.if-not-is_i64.true)

pub returns : goal.returns
returns c =
    let frames = to_z-of_z w64 c.args.frames c.ranges.frames in
    let told : c.milliseconds-ms.result ≡ unrounded c.args.frames c.args.frames_per_sec =
    c.milliseconds-ms.ensures ∙ ap (λ z. unrounded z c.args.frames_per_sec) frames in
    let is_rate = sym c.is_rate.ensures ∙ c.if-not-is_rate.false in
    let fit = sym (ap in_i64 told) ∙ sym c.is_i64.ensures ∙ c.if-not-is_i64.false in
    tried c.args.frames c.args.frames_per_sec _ is_rate fit
    (both _ _ _ _ frames
    (to_z-of_z w64 c.round_to_i64.result (record { sfits = c.round_to_i64.type_inv })
    ∙ rounded c.args.frames_per_sec frames c.round_to_i64.ensures c.milliseconds-ms.ensures
    ∙ at-rate c.args.frames c.args.frames_per_sec is_rate))
