use Rattle.std.proofs.Common.{◌∙◌, ap, arith, sym}
use Rattle.bt_tables.specs.Standings.{cell_kept, is_held, is_touched}
use Rattle.bt_tables.specs.Tables.{one_if, one_more, piece_row}
use Rattle.bt_tables.proofs.Counted.{count_most, count_part, keeps_moved, more_held, more_touched}
use Rattle.bt_tables.proofs.Rowed.{cell_edited}
use Rattle.bt_tables.proofs.rows.Rows.raise.Goals as goal

pub asked-counts-requires-clause-touched : goal.asked-counts-requires-clause-touched
asked-counts-requires-clause-touched c =
    let cells = (piece_row c.args.self.now c.args.piece).blocks in
    let are = c.counts.ensures.keeps.are in
    omega (arith, are.touched_is, count_part is_touched cells c.args.index _ (one_more (cell_kept c.cell-old.result)) c.requires.index (sym c.cell-old.ensures))

pub asked-counts-requires-clause-touched_room : goal.asked-counts-requires-clause-touched_room
asked-counts-requires-clause-touched_room c =
    let cells = (piece_row c.args.self.now c.args.piece).blocks in
    let are = c.counts.ensures.keeps.are in
    let new = one_more (cell_kept c.cell-old.result) in
    omega (
      arith,
      are.touched_is,
      are.short,
      count_most is_touched cells c.args.index _ new c.requires.index (sym c.cell-old.ensures),
      ap one_if (more_touched (cell_kept c.cell-old.result)),
    )

pub asked-counts-requires-clause-index : goal.asked-counts-requires-clause-index
asked-counts-requires-clause-index c = omega (arith, c.counts.ensures.keeps.are.short, c.requires.index)

pub set-requires-clause-keeps : goal.set-requires-clause-keeps
set-requires-clause-keeps c =
    let cells = (piece_row c.args.self.now c.args.piece).blocks in
    let old = cell_kept c.cell-old.result in
    let free = ap is_held c.cell-old.ensures ∙ c.requires.free in
    rw c.raised.ensures
    (keeps_moved c.counts.result.now c.asked-counts.result cells c.args.index old (one_more old) c.requires.index (sym c.cell-old.ensures)
    c.counts.ensures.keeps
    (omega (arith, c.asked-counts.ensures.held, ap one_if (more_held old)))
    (omega (arith, c.asked-counts.ensures.touched, ap one_if (more_touched old)))
    (rw (more_touched old) c.asked-counts.ensures.first))

pub returns-clause-rows : goal.returns-clause-rows
returns-clause-rows c =
    c.set.ensures.rows
    ∙ cell_edited c.args.self.now c.args.piece c.args.index one_more (cell_kept c.raised.result) (cell_kept c.cell-old.result) c.requires.piece
    c.requires.index c.cell-old.ensures c.raised.ensures
