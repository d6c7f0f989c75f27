use Rattle.std.proofs.Common.{arith}
use Rattle.bt_wire.proofs.Readings.{one_reading}
use Rattle.bt_wire.proofs.laws.one_reading.Goals as goal

pub returns : goal.returns
returns c = one_reading c.args.limit (omega arith)
