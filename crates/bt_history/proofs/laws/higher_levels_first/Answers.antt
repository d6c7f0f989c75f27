use Rattle.bt_history.specs.Setting.{setting_of}
use Rattle.bt_history.specs.Entries.{event_of}
use Rattle.bt_history.proofs.Levels.{higher_first}
use Rattle.bt_history.proofs.laws.higher_levels_first.Goals as goal

pub returns : goal.returns
returns c =
    higher_first (setting_of c.args.torrent.now.layout c.args.workers c.args.rules) _ (event_of c.args.entry.now) c.args.block
    c.requires.legal.1 c.requires.request
