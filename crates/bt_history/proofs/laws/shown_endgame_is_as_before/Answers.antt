use Rattle.bt_history.specs.Setting.{setting_of}
use Rattle.bt_history.specs.Entries.{history_of}
use Rattle.bt_history.proofs.Endgame.{endgame_all}
use Rattle.bt_history.proofs.laws.shown_endgame_is_as_before.Goals as goal

pub returns : goal.returns
returns c =
    endgame_all (setting_of c.args.torrent.now.layout c.args.workers c.args.rules) (history_of c.args.journal.now) c.requires.legal c.requires.shown
