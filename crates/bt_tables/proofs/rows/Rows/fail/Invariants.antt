use Rattle.std.proofs.Common.{◌≡◌, ◌++◌, take, drop, map, length}
use Rattle.bt_tables.specs.Tables.{edit, piece_row, unheld}
use Rattle.bt_tables.proofs.rows.Rows.fail.Given as goal

abbrev pub invariant-loop-index : goal.invariant-loop-index
invariant-loop-index l =
    (l.index-end ≡ length (piece_row l.initial.self l.piece).blocks)
    × (l.self ≡ edit l.initial.self l.piece (λ row. record row { blocks = map unheld (take l.index row.blocks) ++ drop l.index row.blocks }))
