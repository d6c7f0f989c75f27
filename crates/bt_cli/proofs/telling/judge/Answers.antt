use Rattle.std.proofs.Common.{sym}
use Rattle.bt_history.specs.Entries.{history_of}
use Rattle.bt_history.specs.Legal.{IsLegal}
use Rattle.bt_history.specs.Setting.{setting_of}
use Rattle.bt_cli.proofs.Runs.{not_wrong}
use Rattle.bt_cli.proofs.telling.judge.Goals as goal

pub returns-in-Err-NotAllowed : goal.returns-in-Err-NotAllowed
returns-in-Err-NotAllowed c =
    let s = setting_of c.args.torrent.now.layout c.args.workers c.args.rules in
    let entries = c.journal.result.now in
    let legal : IsLegal s (history_of entries) = rw (c.journal.ensures.history, sym c.requires.setting) c.journal.ensures.legal in
    absurd (not_wrong s entries c.in-Err-NotAllowed.place legal (rw c.in-Err-NotAllowed.field-0-is at c.in-Err-NotAllowed.ensures.err))
