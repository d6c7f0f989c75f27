use Rattle.std.proofs.Common.{sym}
use Rattle.bt_tables.specs.Tables.{less_available}
use Rattle.bt_tables.proofs.Sweeps.{hides_none}
use Rattle.bt_tables.proofs.Tabled.{edit_none}
use Rattle.bt_tables.proofs.pieces.Pieces.withdraw.Goals as goal

pub returns-else-was_shown : goal.returns-else-was_shown
returns-else-was_shown c =
    sym (edit_none c.args.self.now c.args.piece (less_available c.args.was_shown) (λ row. hides_none c.args.was_shown row c.if-was_shown.false))
