use Rattle.std.proofs.Common.{rules}
use Rattle.bt_tables.proofs.floors.Floors.lower_for.Goals as goal

pub loop-worker-preserved : goal.loop-worker-preserved
loop-worker-preserved c = search rules
