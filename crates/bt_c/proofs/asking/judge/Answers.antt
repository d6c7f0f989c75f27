use Rattle.std.proofs.Common.{subst, sym}
use Rattle.bt_history.specs.Legal.{IsLegal}
use Rattle.bt_history.specs.Setting.{setting_of}
use Rattle.bt_history.specs.Entries.{history_of}
use Rattle.bt_picker.specs.Audits.{IsFault}
use Rattle.bt_picker.specs.Positions.{DeskState}
use Rattle.bt_c.proofs.Sound.{not_wrong, setting_is}
use Rattle.bt_c.proofs.asking.judge.Goals as goal

pub unreachable-requires : goal.unreachable-requires
unreachable-requires c =
    let s = c.picker-picker.result.now.setting in let found = c.in-Err-NotAllowed in let xs = c.journal.result.now in
    let t = setting_of c.torrent.result.now.layout c.workers.result c.rules.result in
    let same = setting_is s c.torrent.result.now.layout c.workers.result c.rules.result
    c.torrent.ensures c.workers.ensures.count c.rules.ensures.depth c.rules.ensures.random c.rules.ensures.askers c.rules.ensures.deepest
    c.rules.ensures.most_open c.rules.ensures.rush c.rules.ensures.shown in
    let legal = subst (λ (d : DeskState). IsLegal d.setting (history_of xs)) (sym c.picker-picker.ensures)
    (subst (λ h. IsLegal c.args.desk.now.setting h) (sym c.journal.ensures.history) c.journal.ensures.legal) in
    not_wrong t s xs found.field-0-0 same legal (subst (IsFault t xs) found.field-0-is found.ensures.err)
