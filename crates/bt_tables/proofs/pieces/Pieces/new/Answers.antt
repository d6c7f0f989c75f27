use Rattle.std.proofs.Common.{◌≡◌, ◌<◌, ◌≤◌, ◌+◌, ◌-◌, ◌*◌, ◌^◌, ◌∙◌, ◌++◌, ◌∷◌, [], ℕ, List, ap, arith, length, map, replicate, subst, sym, take}
use Rattle.std.specs.List.{sum_by}
use Rattle.std.proofs.lemmas.List.{length-append, length-map, length-replicate, length-take, take_all, take_more}
use Rattle.std.proofs.lemmas.List.Sums.{sum_by_push}
use Rattle.bt_meta.specs.Layout.{IsLayout, Layout, block_count, piece_count}
use Rattle.bt_history.specs.Counting.{table}
use Rattle.bt_tables.specs.Orders.{at}
use Rattle.bt_tables.specs.Apart.{AreApart}
use Rattle.bt_tables.specs.Tables.{PieceState, empty_cell, fresh_piece, piece_row}
use Rattle.bt_tables.specs.Standings.{Amount, no_amount, AreShelved, ShelfState, group_of_row, refiled, shown_row, standing_of, whole_rows}
use Rattle.bt_tables.proofs.Apart.{fresh_apart, whole_fresh}
use Rattle.bt_tables.proofs.Blank.{few_blocks}
use Rattle.bt_tables.proofs.Shelves.{filling, none_filed, shelf_fits, shelf_more, shelf_whole}
use Rattle.bt_tables.proofs.Tabled.{get_or_is_table, length_is_table}
use Rattle.bt_tables.proofs.pieces.Pieces.new.Goals as goal

-- how much one row more makes
sum_step : (rows : List PieceState) (row : PieceState) (k : ℕ) → sum_by (λ r. length r.blocks) rows ≤ k * (2 ^ 32 - 1) → length row.blocks < 2 ^ 32
    → sum_by (λ r. length r.blocks) (rows ++ row ∷ []) ≤ (k + 1) * (2 ^ 32 - 1)
sum_step rows row k le lt = omega (arith, sum_by_push (λ (r : PieceState). length r.blocks) rows row)

-- the rows of a torrent of which nothing is known
module _ (t : Layout) where
  abbrev fresh : List PieceState
  fresh = table (piece_count t) (λ p. fresh_piece (block_count t p))

  rows_long : (rows : List PieceState) → rows ≡ fresh → length rows ≡ piece_count t
  rows_long rows is = length_is_table rows (piece_count t) (λ p. fresh_piece (block_count t p)) is

  row_fresh : (rows : List PieceState) (p : ℕ) → rows ≡ fresh → p < piece_count t → piece_row rows p ≡ fresh_piece (block_count t p)
  row_fresh rows p is lp = get_or_is_table rows (piece_count t) (λ k. fresh_piece (block_count t k)) p (fresh_piece 0) is lp

  few_cells : IsLayout t → (rows : List PieceState) (p : ℕ) → rows ≡ fresh → p < piece_count t → length (piece_row rows p).blocks < 2 ^ 32
  few_cells layout rows p is lp =
      omega (
        arith,
        ap (λ (r : PieceState). length r.blocks) (row_fresh rows p is lp),
        length-replicate (block_count t p) empty_cell,
        few_blocks t layout p,
      )

  unshown : (rows : List PieceState) (p : ℕ) → rows ≡ fresh → p < piece_count t
      → standing_of (shown_row 0 (piece_row rows p)) ≡ standing_of (piece_row rows p)
  unshown rows p is lp =
      let row = row_fresh rows p is lp in
      ap (λ (r : PieceState). standing_of (shown_row 0 r)) row ∙ sym (ap standing_of row)

  -- the sum stays in its bound with the next row
  sum_next : IsLayout t → (rows : List PieceState) (i : ℕ) → rows ≡ fresh → i < piece_count t
      → sum_by (λ r. length r.blocks) (take i rows) ≤ i * (2 ^ 32 - 1)
      → sum_by (λ r. length r.blocks) (take i rows ++ piece_row rows i ∷ []) ≤ (i + 1) * (2 ^ 32 - 1)
  sum_next layout rows i is lt le = sum_step (take i rows) (piece_row rows i) i le (few_cells layout rows i is lt)

  -- the standing that was read is that of the row, since no peer shows the piece
  stands_new : (rows : List PieceState) (i : ℕ) (row : PieceState) (standing : Amount) → rows ≡ fresh → i < piece_count t → row ≡ piece_row rows i
      → standing ≡ standing_of (shown_row 0 row) → standing ≡ standing_of (piece_row rows i)
  stands_new rows i row standing is lt row_is read =
      read ∙ (ap (λ (r : PieceState). standing_of (shown_row 0 r)) row_is ∙ unshown rows i is lt)

  -- the rows so far and the next one
  take_next : (rows : List PieceState) (i : ℕ) → rows ≡ fresh → i < piece_count t → take i rows ++ piece_row rows i ∷ [] ≡ take (i + 1) rows
  take_next rows i is lt = sym (take_more rows i (fresh_piece 0) (omega (arith, rows_long rows is, lt)))

  -- the shelf of the rows so far, with the next one put on it
  shelf_next : (rows : List PieceState) (i : ℕ) → rows ≡ fresh → i < piece_count t
      → refiled (filling (take i rows) (piece_count t - i)) i no_amount (standing_of (piece_row rows i))
      ≡ filling (take (i + 1) rows) (piece_count t - (i + 1))
  shelf_next rows i is lt =
      let long : length (take i rows) ≡ i = omega (arith, length-take i rows, rows_long rows is, lt) in
      let less : piece_count t - i - 1 ≡ piece_count t - (i + 1) = omega arith in
      shelf_more (take i rows) (piece_row rows i) (piece_count t - i) i long (omega (arith, lt)) ∙ (λ j. filling (take_next rows i is lt j) (less j))

  -- the rows beside counts that are zeros
  counted : (rows : List PieceState) (zeros : List ℕ) → rows ≡ fresh → zeros ≡ replicate (piece_count t) 0 → whole_rows rows zeros ≡ rows
  counted rows zeros is none = ap (whole_rows rows) none ∙ (whole_fresh (piece_count t) (block_count t) rows is ∙ sym is)

pub row-requires : goal.row-requires
row-requires c =
    let t = c.args.torrent.now.layout in
    let rows = c.in_ok-rows.rows in
    let i = c.loop-piece.piece in
    let n = piece_count t in
    let all = rows_long t rows c.in_ok-rows.ensures in
    let lt : i < n = omega (arith, c.loop-piece-test.true, c.piece_count-piece-end.ensures.count) in
    omega (arith, all, lt)

pub put-requires-clause-piece : goal.put-requires-clause-piece
put-requires-clause-piece c =
    let t = c.args.torrent.now.layout in
    let rows = c.in_ok-rows.rows in
    let i = c.loop-piece.piece in
    let n = piece_count t in
    let all = rows_long t rows c.in_ok-rows.ensures in
    let lt : i < n = omega (arith, c.loop-piece-test.true, c.piece_count-piece-end.ensures.count) in
    let groups = ap (λ (s : ShelfState). length s.groups) c.loop-piece.invariant.0 in
    let front = length-append (map group_of_row (take i rows)) (replicate (n - i) 0) in
    let back = length-replicate {A = ℕ} (n - i) 0 in
    omega (arith, groups, front, back, length-map (take i rows) group_of_row, length-take i rows, all, lt)

pub put-requires-clause-before : goal.put-requires-clause-before
put-requires-clause-before c =
    let t = c.args.torrent.now.layout in
    let rows = c.in_ok-rows.rows in
    let i = c.loop-piece.piece in
    let n = piece_count t in
    let all = rows_long t rows c.in_ok-rows.ensures in
    let lt : i < n = omega (arith, c.loop-piece-test.true, c.piece_count-piece-end.ensures.count) in
    sym (ap (λ (s : ShelfState). at s.groups i) c.loop-piece.invariant.0
    ∙ none_filed (map group_of_row (take i rows)) (n - i) i
    (length-map (take i rows) group_of_row ∙ (let long = length-take i rows in omega (arith, long, all, lt))))

pub put-requires-clause-fits : goal.put-requires-clause-fits
put-requires-clause-fits c =
    let t = c.args.torrent.now.layout in
    let rows = c.in_ok-rows.rows in
    let i = c.loop-piece.piece in
    let lt : i < piece_count t = omega (arith, c.loop-piece-test.true, c.piece_count-piece-end.ensures.count) in
    let sum = sum_next t c.piece_count.ensures.layout rows i c.in_ok-rows.ensures lt c.loop-piece.invariant.1 in
    rw (c.loop-piece.invariant.0, stands_new t rows i _ _ c.in_ok-rows.ensures lt c.row.ensures c.standing-standing.ensures.amount)
    (shelf_fits (take i rows) (piece_row rows i) _ (omega (arith, length-take i rows, c.loop-piece-test.true))
    (omega (arith, sum, c.loop-piece-test.true)))

pub loop-piece-preserved : goal.loop-piece-preserved
loop-piece-preserved c =
    let t = c.args.torrent.now.layout in
    let rows = c.in_ok-rows.rows in
    let i = c.loop-piece.piece in
    let lt : i < piece_count t = omega (arith, c.loop-piece-test.true, c.piece_count-piece-end.ensures.count) in
    let sum = sum_next t c.piece_count.ensures.layout rows i c.in_ok-rows.ensures lt c.loop-piece.invariant.1 in
    let stands = stands_new t rows i _ _ c.in_ok-rows.ensures lt c.row.ensures c.standing-standing.ensures.amount in
    let put = c.put.ensures ∙ (λ j. refiled (c.loop-piece.invariant.0 j) i no_amount (stands j)) in
    (put ∙ shelf_next t rows i c.in_ok-rows.ensures lt, rw (← take_next t rows i c.in_ok-rows.ensures lt) sum)

-- the counts that are made are zeros
zeros : (c : goal.In_ok-vec) → c.in_ok-vec.field-0.items ≡ replicate (piece_count c.args.torrent.now.layout) 0
zeros c = c.in_ok-vec.ensures.items_if_clones_equal (λ y same. same) ∙ ap (λ (k : ℕ). replicate k 0) c.piece_count-2.ensures.count

-- then all rows are on the shelf
shelved : (c : goal.In_ok-vec) → AreShelved c.loop-piece.shelf c.in_ok-rows.rows
shelved c =
    let t = c.args.torrent.now.layout in
    let rows = c.in_ok-rows.rows in
    let all = rows_long t rows c.in_ok-rows.ensures in
    let done : c.loop-piece.piece ≡ piece_count t =
    omega (arith, c.loop-piece-test.false, c.loop-piece.auto.piece-end, c.piece_count-piece-end.ensures.count) in
    let whole : take c.loop-piece.piece rows ≡ rows = take_all c.loop-piece.piece rows (omega (arith, all, done)) in
    record {
      is = (rw whole at c.loop-piece.invariant.0) ∙ shelf_whole rows (piece_count t - c.loop-piece.piece) (omega (arith, done));
      short = omega (arith, all, done, c.loop-piece.auto.piece-end);
      fit = omega (arith, (rw whole at c.loop-piece.invariant.1), c.loop-piece.auto.piece-end);
    }

pub invariant_of-result : goal.invariant_of-result
invariant_of-result c =
    let t = c.args.torrent.now.layout in
    let rows = c.in_ok-rows.rows in (
      subst (AreShelved c.loop-piece.shelf) (sym (counted t rows _ c.in_ok-rows.ensures (zeros c))) (shelved c),
      ap length (zeros c) ∙ (length-replicate {A = ℕ} (piece_count t) 0 ∙ sym (rows_long t rows c.in_ok-rows.ensures)),
      subst AreApart (sym c.in_ok-rows.ensures) (fresh_apart (piece_count t) (block_count t)),
      λ p before within. absurd (omega (arith, before)),
    )

pub returns : goal.returns
returns c = counted c.args.torrent.now.layout c.in_ok-rows.rows _ c.in_ok-rows.ensures (zeros c) ∙ c.in_ok-rows.ensures
