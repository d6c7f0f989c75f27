use Rattle.std.proofs.Common.{sym, arith}
use Rattle.bt_tables.proofs.Tabled.{edit_past}
use Rattle.bt_tables.proofs.sweep.hide.Goals as goal

pub returns-else-piece-len : goal.returns-else-piece-len
returns-else-piece-len c = sym (edit_past c.args.pieces.now c.args.piece _ (omega (arith, c.if-piece-len.false, c.len.ensures.is)))
