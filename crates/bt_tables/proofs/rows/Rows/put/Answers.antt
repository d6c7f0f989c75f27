use Rattle.std.proofs.Common.{arith, sym}
use Rattle.bt_tables.specs.Standings.{cell_kept, is_held, is_touched}
use Rattle.bt_tables.specs.Tables.{piece_row}
use Rattle.bt_tables.proofs.Counted.{count_most, count_part, keeps_moved}
use Rattle.bt_tables.proofs.rows.Rows.put.Goals as goal

pub noted-counts-requires-clause-held : goal.noted-counts-requires-clause-held
noted-counts-requires-clause-held c =
    let cells = (piece_row c.args.self.now c.args.piece).blocks in
    omega (arith, c.counts.ensures.keeps.are.held_is, count_part is_held cells c.args.index _ (cell_kept c.args.cell) c.requires.index (sym c.cell-old.ensures))

pub noted-counts-requires-clause-held_room : goal.noted-counts-requires-clause-held_room
noted-counts-requires-clause-held_room c =
    let cells = (piece_row c.args.self.now c.args.piece).blocks in
    let are = c.counts.ensures.keeps.are in
    omega (arith, are.held_is, are.short, count_most is_held cells c.args.index _ (cell_kept c.args.cell) c.requires.index (sym c.cell-old.ensures))

pub noted-counts-requires-clause-touched : goal.noted-counts-requires-clause-touched
noted-counts-requires-clause-touched c =
    let cells = (piece_row c.args.self.now c.args.piece).blocks in
    let are = c.counts.ensures.keeps.are in
    omega (arith, are.touched_is, count_part is_touched cells c.args.index _ (cell_kept c.args.cell) c.requires.index (sym c.cell-old.ensures))

pub noted-counts-requires-clause-touched_room : goal.noted-counts-requires-clause-touched_room
noted-counts-requires-clause-touched_room c =
    let cells = (piece_row c.args.self.now c.args.piece).blocks in
    let are = c.counts.ensures.keeps.are in
    omega (arith, are.touched_is, are.short, count_most is_touched cells c.args.index _ (cell_kept c.args.cell) c.requires.index (sym c.cell-old.ensures))

pub noted-counts-requires-clause-index : goal.noted-counts-requires-clause-index
noted-counts-requires-clause-index c = omega (arith, c.counts.ensures.keeps.are.short, c.requires.index)

pub set-requires-clause-keeps : goal.set-requires-clause-keeps
set-requires-clause-keeps c =
    keeps_moved c.counts.result.now c.noted-counts.result (piece_row c.args.self.now c.args.piece).blocks c.args.index _ (cell_kept c.args.cell)
    c.requires.index (sym c.cell-old.ensures) c.counts.ensures.keeps c.noted-counts.ensures.held c.noted-counts.ensures.touched c.noted-counts.ensures.first
