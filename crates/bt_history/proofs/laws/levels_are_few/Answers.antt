use Rattle.bt_history.specs.Setting.{setting_of}
use Rattle.bt_history.proofs.Levels.{level_bounded}
use Rattle.bt_history.proofs.laws.levels_are_few.Goals as goal

pub returns : goal.returns
returns c = level_bounded (setting_of c.args.torrent.now.layout c.args.workers c.args.rules) _ c.args.piece c.requires
