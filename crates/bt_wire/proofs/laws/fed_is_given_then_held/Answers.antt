use Rattle.bt_wire.proofs.Readings.{fed_is_given_then_held}
use Rattle.bt_wire.proofs.laws.fed_is_given_then_held.Goals as goal

pub returns : goal.returns
returns c = fed_is_given_then_held c.args.limit
