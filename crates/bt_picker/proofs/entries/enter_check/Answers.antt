use Rattle.std.proofs.Common.{arith}
use Rattle.bt_history.specs.declared.event.Action.TheVariants.{Settle}
use Rattle.bt_history.specs.Pieces.{content}
use Rattle.bt_picker.proofs.Entered.{cause_none, entered_counted, settle_piece}
use Rattle.bt_picker.proofs.entries.enter_check.Goals as goal

pub put_check-requires : goal.put_check-requires
put_check-requires c =
    let bytes = content c.args.tables.now.setting c.args.past.now.entries c.args.piece in
    let cause = cause_none c.args.tables.now.setting c.args.past.now.entries c.args.worker (Settle c.args.piece bytes) c.args.reply c.requires.allowed c.requires.counts in
    let lp = settle_piece c.args.tables.now.setting c.args.past.now.entries c.args.worker c.args.piece bytes cause in
    omega (arith, lp, c.requires.are.pieces_len)

pub returns-clause-are : goal.returns-clause-are
returns-clause-are c =
    rw c.put_check.ensures
    (entered_counted _ _ c.args.worker c.requires.are
    (Settle c.args.piece (content c.args.tables.now.setting c.args.past.now.entries c.args.piece)) c.args.reply c.requires.allowed c.requires.counts)
