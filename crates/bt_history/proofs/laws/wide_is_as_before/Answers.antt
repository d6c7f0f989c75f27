use Rattle.bt_history.specs.Setting.{setting_of}
use Rattle.bt_history.proofs.Before.{doubles_as_before}
use Rattle.bt_history.proofs.laws.wide_is_as_before.Goals as goal

pub returns : goal.returns
returns c = doubles_as_before (setting_of c.args.torrent.now.layout c.args.workers c.args.rules) _ c.args.worker c.args.block c.requires.worker
    c.requires.wide
