use Rattle.std.proofs.Common.{sym}
use Rattle.sha1.proofs.Schedule.{rounds_first}
use Rattle.bt_check.specs.Lanes.{lane, variables}
use Rattle.bt_check.proofs.VectorLemmas.{slice_index-lane}
use Rattle.bt_check.proofs.compress.first_step.Goals as goal

pub returns : goal.returns
returns c j b h lt win held =
    rounds_first b h (lane j c.args.w.now) (variables j c.args.v) c.args.t _ _ _ c.requires win held
    (sym (slice_index-lane j c.args.w.now c.args.t)) (c.ch.ensures j lt) (c.round.ensures j lt)
