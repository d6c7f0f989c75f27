use Rattle.bt_history.proofs.Flights.{counts_one}
use Rattle.bt_history.proofs.laws.in_flight_asks_one.Goals as goal

pub returns : goal.returns
returns c = counts_one _ c.args.worker c.args.requested c.args.other c.args.block
