use Rattle.bt_history.specs.Setting.{setting_of}
use Rattle.bt_history.proofs.Askers.{askers_few}
use Rattle.bt_history.proofs.laws.askers_are_few.Goals as goal

pub returns : goal.returns
returns c = askers_few (setting_of c.args.torrent.now.layout c.args.workers c.args.rules) _ c.args.block c.requires.legal c.requires.some
