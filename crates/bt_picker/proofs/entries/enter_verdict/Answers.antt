use Rattle.std.proofs.Common.{◌∙◌, sym, arith}
use Rattle.std.proofs.lemmas.Bool.{not-true}
use Rattle.bt_check.specs.Checked.{joined}
use Rattle.bt_history.specs.declared.event.Action.TheVariants.{Settle}
use Rattle.bt_picker.proofs.Allowing.{counts_unrefused}
use Rattle.bt_picker.proofs.Entered.{cause_none, entered_counted, entered_refusal, settle_piece}
use Rattle.bt_picker.proofs.entries.enter_verdict.Goals as goal

pub returns-then-is_refusal-clause-are : goal.returns-then-is_refusal-clause-are
returns-then-is_refusal-clause-are c =
    entered_refusal _ _ c.args.worker (Settle c.args.verdict.now.piece (joined c.args.verdict.now)) c.args.reply c.requires.are c.requires.allowed
    (not-true _ (sym c.is_refusal.ensures ∙ c.if-is_refusal.true))

pub put_check-requires : goal.put_check-requires
put_check-requires c =
    let v = c.args.verdict.now in
    let cause = cause_none c.args.tables.now.setting c.args.past.now.entries c.args.worker (Settle v.piece (joined v)) c.args.reply c.requires.allowed
    (counts_unrefused _ _ c.is_refusal.ensures c.if-is_refusal.false) in
    let lp = settle_piece c.args.tables.now.setting c.args.past.now.entries c.args.worker v.piece (joined v) cause in
    omega (arith, lp, c.requires.are.pieces_len, c.piece.ensures)

pub returns-clause-are : goal.returns-clause-are
returns-clause-are c =
    let v = c.args.verdict.now in
    rw (c.put_check.ensures, c.piece.ensures)
    (entered_counted _ _ c.args.worker c.requires.are (Settle v.piece (joined v)) c.args.reply c.requires.allowed
    (counts_unrefused _ _ c.is_refusal.ensures c.if-is_refusal.false))
