use Rattle.bt_history.specs.Setting.{setting_of}
use Rattle.bt_history.specs.Entries.{history_of}
use Rattle.bt_history.proofs.Endgame.{unrushed_answer}
use Rattle.bt_history.proofs.laws.no_rush_is_as_before.Goals as goal

pub returns : goal.returns
returns c =
    unrushed_answer (setting_of c.args.torrent.now.layout c.args.workers c.args.rules) (history_of c.args.journal.now) c.args.worker
    c.requires.legal c.requires.none
