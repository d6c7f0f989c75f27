use Rattle.bt_history.specs.Setting.{setting_of}
use Rattle.bt_history.specs.Entries.{event_of}
use Rattle.bt_history.proofs.Owning.{works_apart}
use Rattle.bt_history.proofs.laws.alone_has_one_sender.Goals as goal

pub returns : goal.returns
returns c =
    works_apart (setting_of c.args.torrent.now.layout c.args.workers c.args.rules) _ (event_of c.args.entry.now) c.args.block
    c.requires.legal.1 c.requires.request c.requires.works c.requires.first
