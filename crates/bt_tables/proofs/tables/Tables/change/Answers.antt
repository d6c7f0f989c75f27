use Rattle.std.proofs.Common.{◌∙◌, ap, length, arith}
use Rattle.bt_tables.proofs.FloorSteps.{edit_beside}
use Rattle.bt_tables.proofs.Tabled.{length_edit}
use Rattle.bt_tables.proofs.tables.Tables.change.Goals as goal

pub admit-requires-clause-piece : goal.admit-requires-clause-piece
admit-requires-clause-piece c =
    let lp = rw (← c.self.view_is) at c.requires.piece in
    let long = ap length c.apply.ensures ∙ length_edit c.self.inside.pieces c.args.piece _ in
    omega (arith, lp, long)

pub admit-requires-clause-beside : goal.admit-requires-clause-beside
admit-requires-clause-beside c = rw c.apply.ensures (edit_beside _ _ _ c.args.piece _ c.self.invariant)
