use Rattle.bt_history.specs.Setting.{setting_of}
use Rattle.bt_history.proofs.Listed.{lists_asked}
use Rattle.bt_history.proofs.laws.outstanding_are_the_asked.Goals as goal

pub returns : goal.returns
returns c = lists_asked (setting_of c.args.torrent.now.layout c.args.workers c.args.rules) _ c.args.worker c.requires
