use Rattle.bt_history.specs.Setting.{setting_of}
use Rattle.bt_history.specs.Entries.{event_of}
use Rattle.bt_history.proofs.Owning.{own_unasked}
use Rattle.bt_history.proofs.laws.belongs_to_one.Goals as goal

pub returns : goal.returns
returns c =
    own_unasked (setting_of c.args.torrent.now.layout c.args.workers c.args.rules) _ (event_of c.args.entry.now) c.args.block c.args.owner
    c.requires.legal.1 c.requires.request c.requires.worker c.requires.other c.requires.own
