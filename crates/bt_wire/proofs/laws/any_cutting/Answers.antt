use Rattle.std.proofs.Common.{arith}
use Rattle.bt_wire.proofs.Readings.{any_cutting}
use Rattle.bt_wire.proofs.laws.any_cutting.Goals as goal

pub returns : goal.returns
returns c = any_cutting c.args.limit (omega arith)
