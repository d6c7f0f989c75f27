use Rattle.bt_history.specs.Setting.{setting_of}
use Rattle.bt_history.proofs.Flights.{asks_as_before}
use Rattle.bt_history.proofs.laws.unrequested_is_as_before.Goals as goal

pub returns : goal.returns
returns c =
    asks_as_before (setting_of c.args.torrent.now.layout c.args.workers c.args.rules) _ c.args.newest.now c.requires.legal.1 c.requires.untold
