use Rattle.bt_history.specs.Setting.{setting_of}
use Rattle.bt_history.specs.Entries.{event_of, history_of}
use Rattle.bt_history.proofs.Picks.{same_reply}
use Rattle.bt_history.proofs.pick_laws.one_pick.Goals as goal

pub returns : goal.returns
returns c =
    same_reply (setting_of c.args.torrent.now.layout c.args.workers c.args.rules) (history_of c.args.older.now) (event_of c.args.one.now)
    (event_of c.args.other.now) c.requires.worker c.requires.call c.requires.picked c.requires.too
