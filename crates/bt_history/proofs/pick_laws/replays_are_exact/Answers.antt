use Rattle.bt_history.specs.Setting.{setting_of}
use Rattle.bt_history.specs.Entries.{history_of}
use Rattle.bt_history.proofs.Picks.{same_history}
use Rattle.bt_history.proofs.pick_laws.replays_are_exact.Goals as goal

pub returns : goal.returns
returns c =
    same_history (setting_of c.args.torrent.now.layout c.args.workers c.args.rules) (history_of c.args.one.now) (history_of c.args.other.now)
    c.requires.picked c.requires.too c.requires.calls
