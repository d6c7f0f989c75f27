use Rattle.bt_history.specs.Setting.{setting_of}
use Rattle.bt_history.specs.Entries.{event_of}
use Rattle.bt_history.proofs.Levels.{earlier_first}
use Rattle.bt_history.proofs.laws.rising_order.Goals as goal

pub returns : goal.returns
returns c =
    earlier_first (setting_of c.args.torrent.now.layout c.args.workers c.args.rules) _ (event_of c.args.entry.now) c.args.block
    c.requires.legal.1 c.requires.request c.requires.in_order
