use Rattle.bt_history.specs.Setting.{setting_of}
use Rattle.bt_history.specs.Entries.{event_of}
use Rattle.bt_history.proofs.Opening.{few_open}
use Rattle.bt_history.proofs.laws.open_pieces_stay_few.Goals as goal

pub returns : goal.returns
returns c =
    few_open (setting_of c.args.torrent.now.layout c.args.workers c.args.rules) _ (event_of c.args.entry.now) c.args.block
    c.requires.legal.1 c.requires.request c.requires.unordered c.requires.many c.requires.begins
