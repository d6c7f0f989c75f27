use Rattle.bt_history.specs.Setting.{setting_of}
use Rattle.bt_history.proofs.HeldLaws.{held_unasked}
use Rattle.bt_history.proofs.laws.held_is_asked_of_nobody.Goals as goal

pub returns : goal.returns
returns c = held_unasked (setting_of c.args.torrent.now.layout c.args.workers c.args.rules) _ c.args.worker c.args.block c.requires.legal
    c.requires.held
