use Rattle.bt_history.proofs.Flights.{journal_untold}
use Rattle.bt_history.proofs.laws.journals_tell_no_flight.Goals as goal

pub returns : goal.returns
returns c = journal_untold c.args.call.now
