use Rattle.std.proofs.lemmas.Bool.{ne_eqb}
use Rattle.bt_history.specs.Setting.{setting_of}
use Rattle.bt_history.specs.Entries.{history_of}
use Rattle.bt_history.proofs.Delaying.{answer_same}
use Rattle.bt_history.proofs.laws.late_is_release_for_others.Goals as goal

pub returns : goal.returns
returns c =
    answer_same (setting_of c.args.torrent.now.layout c.args.workers c.args.rules) (history_of c.args.journal.now) c.args.worker c.args.piece c.args.begin
    c.args.other (ne_eqb c.args.worker c.args.other c.requires)
