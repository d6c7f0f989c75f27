use Rattle.bt_history.specs.Setting.{setting_of}
use Rattle.bt_history.specs.Entries.{event_of, history_of}
use Rattle.bt_history.proofs.Picks.{picked_allowed}
use Rattle.bt_history.proofs.pick_laws.picks_are_allowed.Goals as goal

pub returns : goal.returns
returns c =
    picked_allowed (setting_of c.args.torrent.now.layout c.args.workers c.args.rules) (history_of c.args.older.now) (event_of c.args.entry.now)
    c.requires.worker c.requires.picked
