use Rattle.std.proofs.Common.{◌<◌, refl}
use Rattle.bt_tables.proofs.Blank.{blank_kept, blank_rows, some_pieces}
use Rattle.bt_tables.proofs.rows.Rows.new.Goals as goal

pub invariant_of-result : goal.invariant_of-result
invariant_of-result c =
    let layout = c.piece_count-pieces.ensures.layout in
    let count = c.piece_count-pieces.ensures.count in
    let some : 0 < c.piece_count-pieces.result = some_pieces _ layout _ count in
    let counts = c.in_ok-vec.ensures.items_if_clones_equal (λ y same. same) in
    let cells = c.in_ok-vec-2.ensures.items_if_clones_equal (λ y same. same) in
    rw (counts, cells, c.block_count-width.ensures)
    (blank_kept _ layout c.piece_count-pieces.result _ some count
    (rw (← c.block_count-width.ensures, c.block_count-last.ensures) refl))

pub returns : goal.returns
returns c =
    let layout = c.piece_count-pieces.ensures.layout in
    let count = c.piece_count-pieces.ensures.count in
    let some : 0 < c.piece_count-pieces.result = some_pieces _ layout _ count in
    let counts = c.in_ok-vec.ensures.items_if_clones_equal (λ y same. same) in
    let cells = c.in_ok-vec-2.ensures.items_if_clones_equal (λ y same. same) in
    rw (counts, cells, c.block_count-width.ensures)
    (blank_rows _ layout c.piece_count-pieces.result _ some count
    (rw (← c.block_count-width.ensures, c.block_count-last.ensures) refl))
