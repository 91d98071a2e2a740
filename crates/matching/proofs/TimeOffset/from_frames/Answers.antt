-- `matching::TimeOffset::from_frames` meets its contract. Assumes nothing.
use Rattle.std.proofs.Common.{sym, ◌∙◌, w64}
use mir.ValLaws.{to_z-of_z}
use Rattle.matching.proofs.Offsets.{both, rounded, at-rate, at_none}
use Rattle.matching.proofs.TimeOffset.from_frames.Goals as goal

pub returns-then-is_rate : goal.returns-then-is_rate
returns-then-is_rate c =
    let frames = to_z-of_z w64 c.args.frames c.ranges.frames in
    both _ _ _ _ frames
    (to_z-of_z w64 c.round_to_i64.result (record { sfits = c.round_to_i64.type_inv })
    ∙ rounded c.args.frames_per_sec frames c.round_to_i64.ensures c.milliseconds-ms.ensures
    ∙ at-rate c.args.frames c.args.frames_per_sec (sym c.is_rate.ensures ∙ c.if-is_rate.true))

pub returns : goal.returns
returns c = both _ _ _ _ (to_z-of_z w64 c.args.frames c.ranges.frames) (at_none c.args.frames c.args.frames_per_sec (sym c.is_rate.ensures ∙ c.if-is_rate.false))
