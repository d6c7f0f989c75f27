use Rattle.bt_history.specs.Setting.{setting_of}
use Rattle.bt_history.proofs.LineLaws.{asked_and_due}
use Rattle.bt_history.proofs.laws.asked_and_due_are_few.Goals as goal

pub returns : goal.returns
returns c = asked_and_due (setting_of c.args.torrent.now.layout c.args.workers c.args.rules) _ c.args.worker c.requires
