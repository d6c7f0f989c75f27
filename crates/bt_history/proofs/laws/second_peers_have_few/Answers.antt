use Rattle.bt_history.specs.Setting.{setting_of}
use Rattle.bt_history.specs.Entries.{event_of, history_of}
use Rattle.bt_history.proofs.Endgame.{second_has_few}
use Rattle.bt_history.proofs.laws.second_peers_have_few.Goals as goal

pub returns : goal.returns
returns c =
    second_has_few (setting_of c.args.torrent.now.layout c.args.workers c.args.rules) (history_of c.args.older.now) (event_of c.args.entry.now)
    c.args.other c.args.block c.requires.legal.0 c.requires.legal.1 c.requires.request c.requires.expected
