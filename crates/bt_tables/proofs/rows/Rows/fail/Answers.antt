use Rattle.std.proofs.Common.{◌≡◌, ◌<◌, ◌+◌, ◌∙◌, ℕ, List, ap, sym, arith, length, get_or, map, take, drop, set, refl, ◌++◌}
use Rattle.std.proofs.lemmas.List.{append-nil, drop_all, get_or_default, length-append, length-drop, length-map, length-take, take_all}
use Rattle.std.proofs.lemmas.List.Edits.{map_over_more}
use Rattle.bt_tables.specs.Tables.{CellState, PieceState, edit, empty_cell, failed_row, fresh_piece, piece_row, unheld}
use Rattle.bt_tables.specs.Standings.{cell_kept}
use Rattle.bt_tables.proofs.Tabled.{edit_none, edit_same, edit_twice, get_or_edit_same, length_edit}
use Rattle.bt_tables.proofs.rows.Rows.fail.Goals as goal

-- the row when its first i blocks were gone over
abbrev partly : ℕ → PieceState → PieceState
partly i row = record row { blocks = map unheld (take i row.blocks) ++ drop i row.blocks }

partly_long : (i : ℕ) (row : PieceState) → i < length row.blocks → length (partly i row).blocks ≡ length row.blocks
partly_long i row lt =
    let parts = length-append (map unheld (take i row.blocks)) (drop i row.blocks) in
    omega (arith, lt, parts, length-map (take i row.blocks) unheld, length-take i row.blocks, length-drop i row.blocks)

pub loop-index-init : goal.loop-index-init
loop-index-init c = (
  c.len-index-end.ensures ∙ ap (λ (r : PieceState). length r.blocks) c.row.ensures,
  sym (edit_none c.args.self.now c.args.piece (partly 0) (λ row. refl)),
)

module _ (rows now : List PieceState) (p i : ℕ) (lp : p < length rows) (lt : i < length (piece_row rows p).blocks)
    (is : now ≡ edit rows p (partly i)) where
  here : piece_row now p ≡ partly i (piece_row rows p)
  here = ap (λ (l : List PieceState). piece_row l p) is ∙ get_or_edit_same rows p (partly i) (fresh_piece 0) lp

  in_rows : p < length now
  in_rows = omega (arith, lp, ap length is, length_edit rows p (partly i))

  in_row : i < length (piece_row now p).blocks
  in_row = omega (arith, lt, ap (λ (r : PieceState). length r.blocks) here, partly_long i (piece_row rows p) lt)

  one_more_gone : (old new : CellState) → old ≡ get_or (piece_row now p).blocks i empty_cell → new ≡ unheld old
      → edit now p (λ row. record row { blocks = set row.blocks i new }) ≡ edit rows p (partly (i + 1))
  one_more_gone old new read released =
      let start = (piece_row rows p).blocks in
      let blocks : (piece_row now p).blocks ≡ (partly i (piece_row rows p)).blocks = ap (λ (r : PieceState). r.blocks) here in
      let more = map_over_more unheld start (partly i (piece_row rows p)).blocks i old lt refl (read_here old read blocks) in
      ap (λ (l : List PieceState). edit l p (λ row. record row { blocks = set row.blocks i new })) is
      ∙ (edit_twice rows p (partly i) (λ row. record row { blocks = set row.blocks i new })
      ∙ edit_same rows p (λ row. record (partly i row) { blocks = set (partly i row).blocks i new }) (partly (i + 1)) (fresh_piece 0) lp
      (ap (λ (l : List CellState). record (piece_row rows p) { blocks = l })
      (ap (λ (cell : CellState). set (partly i (piece_row rows p)).blocks i cell) released ∙ more)))
    where
      read_here : (old : CellState) → old ≡ get_or (piece_row now p).blocks i empty_cell →
          (piece_row now p).blocks ≡ (partly i (piece_row rows p)).blocks
          → old ≡ get_or (partly i (piece_row rows p)).blocks i old
      read_here old read blocks =
          read ∙ (ap (λ (l : List CellState). get_or l i empty_cell) blocks ∙
          get_or_default (partly i (piece_row rows p)).blocks i empty_cell old (omega (arith, lt, partly_long i (piece_row rows p) lt)))

pub cell-cell-requires-clause-piece : goal.cell-cell-requires-clause-piece
cell-cell-requires-clause-piece c =
    let lt : c.loop-index.index < length (piece_row c.args.self.now c.args.piece).blocks =
    omega (arith, c.loop-index-test.true, c.loop-index.invariant.0) in
    in_rows c.args.self.now c.loop-index.self c.args.piece c.loop-index.index c.requires lt c.loop-index.invariant.1

pub cell-cell-requires-clause-index : goal.cell-cell-requires-clause-index
cell-cell-requires-clause-index c =
    let lt : c.loop-index.index < length (piece_row c.args.self.now c.args.piece).blocks =
    omega (arith, c.loop-index-test.true, c.loop-index.invariant.0) in
    in_row c.args.self.now c.loop-index.self c.args.piece c.loop-index.index c.requires lt c.loop-index.invariant.1

pub put-requires-clause-piece : goal.put-requires-clause-piece
put-requires-clause-piece c =
    let lt : c.loop-index.index < length (piece_row c.args.self.now c.args.piece).blocks =
    omega (arith, c.loop-index-test.true, c.loop-index.invariant.0) in
    in_rows c.args.self.now c.loop-index.self c.args.piece c.loop-index.index c.requires lt c.loop-index.invariant.1

pub put-requires-clause-index : goal.put-requires-clause-index
put-requires-clause-index c =
    let lt : c.loop-index.index < length (piece_row c.args.self.now c.args.piece).blocks =
    omega (arith, c.loop-index-test.true, c.loop-index.invariant.0) in
    in_row c.args.self.now c.loop-index.self c.args.piece c.loop-index.index c.requires lt c.loop-index.invariant.1

pub loop-index-preserved : goal.loop-index-preserved
loop-index-preserved c =
    let lt : c.loop-index.index < length (piece_row c.args.self.now c.args.piece).blocks =
    omega (arith, c.loop-index-test.true, c.loop-index.invariant.0) in (
      c.loop-index.invariant.0,
      c.put.ensures.rows ∙ one_more_gone c.args.self.now c.loop-index.self c.args.piece c.loop-index.index c.requires lt c.loop-index.invariant.1
          (cell_kept c.cell-cell.result) (cell_kept c.released.result)
          c.cell-cell.ensures c.released.ensures,
    )

pub returns : goal.returns
returns c =
    let blocks = (piece_row c.args.self.now c.args.piece).blocks in
    let all : length blocks ≡ c.loop-index.index = omega (arith, c.loop-index-test.false, c.loop-index.auto.index-end, c.loop-index.invariant.0) in
    c.loop-index.invariant.1
    ∙ edit_same c.args.self.now c.args.piece (partly c.loop-index.index) failed_row (fresh_piece 0) c.requires
    (ap (λ (l : List CellState). record (piece_row c.args.self.now c.args.piece) { blocks = l })
    (rw (take_all c.loop-index.index blocks (omega (arith, all)), drop_all c.loop-index.index blocks (omega (arith, all)))
    (append-nil (map unheld blocks))))
