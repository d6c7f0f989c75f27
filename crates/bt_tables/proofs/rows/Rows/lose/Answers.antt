use Rattle.std.proofs.Common.{ap, arith, false, length, ◌∙◌, List}
use Rattle.bt_tables.specs.Tables.{PieceState, edit, failed_row}
use Rattle.bt_tables.proofs.Tabled.{edit_twice, length_edit}
use Rattle.bt_tables.proofs.rows.Rows.lose.Goals as goal

pub put_had-requires : goal.put_had-requires
put_had-requires c = omega (arith, c.requires, ap length c.fail.ensures, length_edit c.args.self.now c.args.piece failed_row)

pub returns : goal.returns
returns c =
    c.put_had.ensures
    ∙ ap (λ (rows : List PieceState). edit rows c.args.piece (λ row. record row { had = false })) c.fail.ensures
    ∙ edit_twice c.args.self.now c.args.piece failed_row (λ row. record row { had = false })
