-- Rows as they are kept: what is read of one, and what a change of its counts and its cells makes of all.
use Rattle.std.proofs.Common.{◌≡◌, ◌<◌, ◌≤◌, ◌+◌, ◌*◌, ◌-◌, ◌∙◌, ℕ, zero, suc, List, [], ◌∷◌, length, get_or, set, take, drop, min, ap, arith, refl}
use Rattle.std.proofs.Common.{subst, sym, length-set, ⊎_elim, ◌==◌, ◌&&◌, ◌||◌, not}
use Rattle.std.proofs.Math.Nat.{min-le_left, min-le_right, mul-le-mul_right, suc-mul, zero-mul}
use Rattle.std.proofs.Math.Seq.{take-set-lt}
use Rattle.std.proofs.lemmas.Bool.{cases_eq, cases_lt}
use Rattle.std.proofs.lemmas.List.{get_or_default, drop-drop, drop-set-add, drop-set-lt, get_or-drop, get_or-map, get_or-set_other, get_or-set_same}
use Rattle.std.proofs.lemmas.List.{get_or-take, length-drop, length-map, length-take, map-set, take-set-le, take_all}
use Rattle.bt_tables.specs.declared.cell.Cell.{Cell}
use Rattle.bt_tables.specs.declared.counts.Counts.{Counts}
use Rattle.bt_tables.specs.Floors.{is_fresh}
use Rattle.bt_tables.specs.Rows.{AreKept, AreOf, Keeps, amount_of, counts_at, is_fresh_by, no_counts, row_of, rows_of, said}
use Rattle.bt_tables.specs.Standings.{cell_kept, shown_row, standing_of}
use Rattle.bt_tables.specs.Tables.{CellState, PieceState, edit, empty_cell, fresh_piece, piece_row}
use Rattle.bt_tables.proofs.Tabled.{edit_read, edit_same, edit_set, get_or_edit_same}

-- the cells of piece p
abbrev pub cells_at : ℕ → List Cell → ℕ → List CellState
cells_at w xs p = said (take w (drop (p * w) xs))

-- the first place of the next piece
next_place : (p w k : ℕ) → suc p * w + k ≡ w + (p * w + k)
next_place p w k = let next = suc-mul p w in omega (arith, next)

next_start : (p w : ℕ) → w + p * w ≡ suc p * w
next_start p w = let next = suc-mul p w in omega (arith, next)

pub rows_length : (w : ℕ) (cs : List Counts) (xs : List Cell) → length (rows_of w cs xs) ≡ length cs
rows_length w [] xs = refl
rows_length w (c ∷ cs) xs = ap suc (rows_length w cs (drop w xs))

next_cells : (w : ℕ) (xs : List Cell) (p : ℕ) → cells_at w (drop w xs) p ≡ cells_at w xs (suc p)
next_cells w xs p = ap (λ (l : List Cell). said (take w l)) (drop-drop (p * w) w xs ∙ ap (λ (n : ℕ). drop n xs) (next_start p w))

first_cells : (w : ℕ) (xs : List Cell) → said (take w xs) ≡ cells_at w xs 0
first_cells w xs = ap (λ (n : ℕ). said (take w (drop n xs))) (sym (zero-mul w))

pub row_is : (w : ℕ) (cs : List Counts) (xs : List Cell) (p : ℕ) (d : PieceState) → p < length cs
    → get_or (rows_of w cs xs) p d ≡ row_of (counts_at cs p) (cells_at w xs p)
row_is w [] xs p d lp = absurd (omega (arith, lp))
row_is w (c ∷ cs) xs zero d lp = ap (row_of c) (first_cells w xs)
row_is w (c ∷ cs) xs (suc p) d lp = row_is w cs (drop w xs) p d (omega (arith, lp)) ∙ ap (row_of (counts_at cs p)) (next_cells w xs p)

-- ---- places

pub cells_long : (w : ℕ) (xs : List Cell) (p : ℕ) → length (cells_at w xs p) ≡ min w (length xs - p * w)
cells_long w xs p = length-map (take w (drop (p * w) xs)) cell_kept ∙ length-take w (drop (p * w) xs) ∙ ap (min w) (length-drop (p * w) xs)

pub in_width : (w : ℕ) (xs : List Cell) (p k : ℕ) → k < length (cells_at w xs p) → k < w
in_width w xs p k lk = omega (arith, cells_long w xs p, min-le_left w (length xs - p * w), lk)

pub in_cells : (w : ℕ) (xs : List Cell) (p k : ℕ) → k < length (cells_at w xs p) → p * w + k < length xs
in_cells w xs p k lk = omega (arith, cells_long w xs p, min-le_right w (length xs - p * w), lk)

-- a piece begins among the cells
pub row_begins : (n w m p : ℕ) → n * w ≤ m + w → p < n → p * w ≤ m
row_begins n w m p filled lp = omega (arith, filled, suc-mul p w, mul-le-mul_right w (next p n lp)) where
  next : (p n : ℕ) → p < n → suc p ≤ n
  next p n lt = omega (arith, lt)

pub cell_is : (w : ℕ) (xs : List Cell) (p k : ℕ) (cell : Cell) (d : CellState) → k < length (cells_at w xs p) → cell ≡ get_or xs (p * w + k) cell
    → get_or (cells_at w xs p) k d ≡ cell_kept cell
cell_is w xs p k cell d lk read =
    get_or-map cell_kept (take w (drop (p * w) xs)) k cell d (omega (arith, lk, length-map (take w (drop (p * w) xs)) cell_kept))
    ∙ ap cell_kept (get_or-take w (drop (p * w) xs) k cell (in_width w xs p k lk) ∙ get_or-drop (p * w) xs k cell ∙ sym read)

-- a slice that ends where the cells do
pub lent : (w : ℕ) (xs : List Cell) (start end : ℕ) → end ≡ min (length xs) (start + w) → start ≤ length xs
    → take (end - start) (drop start xs) ≡ take w (drop start xs)
lent w xs start end is within =
    ⊎_elim (λ (less : start + w < length xs). ap (λ (n : ℕ). take n (drop start xs)) (omega (arith, is, less)))
    (λ (most : length xs ≤ start + w).
    take_all (end - start) (drop start xs) (omega (arith, is, most, within, length-drop start xs))
    ∙ sym (take_all w (drop start xs) (omega (arith, most, length-drop start xs))))
    (cases_lt (start + w) (length xs))

-- ---- changes

pub rows_set : (w : ℕ) (cs : List Counts) (xs : List Cell) (p k : ℕ) (c : Counts) (v : Cell) → p < length cs → k < w
    → rows_of w (set cs p c) (set xs (p * w + k) v) ≡ set (rows_of w cs xs) p (row_of c (set (cells_at w xs p) k (cell_kept v)))
rows_set w [] xs p k c v lp lk = absurd (omega (arith, lp))
rows_set w (b ∷ cs) xs zero k c v lp lk =
    let here : 0 * w + k ≡ k = (let none = zero-mul w in omega (arith, none)) in
    let cells : said (take w (set xs (0 * w + k) v)) ≡ set (cells_at w xs 0) k (cell_kept v) =
    ap (λ (i : ℕ). said (take w (set xs i v))) here ∙ (ap said (take-set-lt w xs k v lk) ∙ (map-set cell_kept (take w xs) k v
    ∙ ap (λ (l : List CellState). set l k (cell_kept v)) (first_cells w xs))) in
    let rest : drop w (set xs (0 * w + k) v) ≡ drop w xs = ap (λ (i : ℕ). drop w (set xs i v)) here ∙ drop-set-lt w xs k v lk in
    λ i. row_of c (cells i) ∷ rows_of w cs (rest i)
rows_set w (b ∷ cs) xs (suc p) k c v lp lk =
    let place = next_place p w k in
    let first : take w (set xs (suc p * w + k) v) ≡ take w xs =
    ap (λ (i : ℕ). take w (set xs i v)) place ∙ take-set-le w xs (w + (p * w + k)) v (omega arith) in
    let rest : drop w (set xs (suc p * w + k) v) ≡ set (drop w xs) (p * w + k) v =
    ap (λ (i : ℕ). drop w (set xs i v)) place ∙ drop-set-add w xs (p * w + k) v in
    let others = ap (rows_of w (set cs p c)) rest ∙ (rows_set w cs (drop w xs) p k c v (omega (arith, lp)) lk
    ∙ ap (λ (l : List CellState). set (rows_of w cs (drop w xs)) p (row_of c (set l k (cell_kept v)))) (next_cells w xs p)) in
    λ i. row_of b (said (first i)) ∷ others i

pub rows_counted : (w : ℕ) (cs : List Counts) (xs : List Cell) (p : ℕ) (c : Counts) → p < length cs
    → rows_of w (set cs p c) xs ≡ set (rows_of w cs xs) p (row_of c (cells_at w xs p))
rows_counted w [] xs p c lp = absurd (omega (arith, lp))
rows_counted w (b ∷ cs) xs zero c lp = ap (λ (l : List CellState). row_of c l ∷ rows_of w cs (drop w xs)) (first_cells w xs)
rows_counted w (b ∷ cs) xs (suc p) c lp =
    ap (λ (l : List PieceState). row_of b (said (take w xs)) ∷ l)
    (rows_counted w cs (drop w xs) p c (omega (arith, lp))
    ∙ ap (λ (l : List CellState). set (rows_of w cs (drop w xs)) p (row_of c l)) (next_cells w xs p))

-- one row changes, with its counts
pub kept_on : (w : ℕ) (cs : List Counts) (xs ys : List Cell) (p : ℕ) (c : Counts) (row : PieceState) → AreKept w cs xs → p < length cs
    → length ys ≡ length xs → rows_of w (set cs p c) ys ≡ set (rows_of w cs xs) p row → Keeps c row.blocks → AreKept w (set cs p c) ys
kept_on w cs xs ys p c row kept lp long is keeps = record {
  filled = rw (length-set cs p c, long) kept.filled;
  each = λ q lq. ⊎_elim
      (λ (same : q ≡ p). subst (λ (k : ℕ). Keeps (counts_at (set cs p c) k) (piece_row (rows_of w (set cs p c) ys) k).blocks) (sym same)
      (rw (get_or-set_same cs p c no_counts lp, is, get_or-set_same (rows_of w cs xs) p row (fresh_piece 0) (omega (arith, lp, rows_length w cs xs)))
      keeps))
      (λ (other : q ≡ p → ⊥). rw (get_or-set_other cs p q c no_counts other, is, get_or-set_other (rows_of w cs xs) p q row (fresh_piece 0) other)
      (kept.each q (omega (arith, lq, length-set cs p c))))
      (cases_eq q p);
}

-- ---- one row of all, as it was read

pub record IsRow (w : ℕ) (cs : List Counts) (xs : List Cell) (p : ℕ) (counts : Counts) : Type 0 where
  pub within : p < length cs
  pub row : piece_row (rows_of w cs xs) p ≡ row_of counts (cells_at w xs p)
  pub keeps : Keeps counts (cells_at w xs p)

pub is_row : (w : ℕ) (cs : List Counts) (xs : List Cell) (rows : List PieceState) (p : ℕ) (counts : Counts) → AreKept w cs xs
    → rows_of w cs xs ≡ rows → p < length rows → counts ≡ get_or cs p counts → IsRow w cs xs p counts
is_row w cs xs rows p counts kept are lp read =
    let within : p < length cs = omega (arith, lp, ap length are, rows_length w cs xs) in
    let own : counts ≡ counts_at cs p = read ∙ get_or_default cs p counts no_counts within in
    let row = row_is w cs xs p (fresh_piece 0) within in
    record {
      within = within;
      row = row ∙ ap (λ (c : Counts). row_of c (cells_at w xs p)) (sym own);
      keeps = rw (row, ← own) at (kept.each p within);
    }

-- where the cell stands
pub place_within : (w : ℕ) (cs : List Counts) (xs : List Cell) (rows : List PieceState) (p k : ℕ) → rows_of w cs xs ≡ rows → p < length rows
    → k < length (piece_row rows p).blocks → p * w + k < length xs
place_within w cs xs rows p k are lp lk =
    let row = row_is w cs xs p (fresh_piece 0) (omega (arith, lp, ap length are, rows_length w cs xs)) in
    in_cells w xs p k (subst (λ (r : PieceState). k < length r.blocks) (ap (λ (l : List PieceState). piece_row l p) (sym are) ∙ row) lk)

-- and what is read there
pub read_cell : (w : ℕ) (cs : List Counts) (xs : List Cell) (rows : List PieceState) (p k : ℕ) (cell : Cell) → rows_of w cs xs ≡ rows
    → p < length rows → k < length (piece_row rows p).blocks → cell ≡ get_or xs (p * w + k) cell
    → cell_kept cell ≡ get_or (piece_row rows p).blocks k empty_cell
read_cell w cs xs rows p k cell are lp lk read =
    let row : piece_row rows p ≡ row_of (counts_at cs p) (cells_at w xs p) = ap (λ (l : List PieceState). piece_row l p) (sym are)
    ∙ row_is w cs xs p (fresh_piece 0) (omega (arith, lp, ap length are, rows_length w cs xs)) in
    sym (ap (λ (r : PieceState). get_or r.blocks k empty_cell) row
    ∙ cell_is w xs p k cell empty_cell (subst (λ (r : PieceState). k < length r.blocks) row lk) read)

-- a row is edited
pub row_edited : (rows : List PieceState) (p : ℕ) (change : PieceState → PieceState) (row : PieceState) → p < length rows
    → row ≡ change (piece_row rows p) → set rows p row ≡ edit rows p change
row_edited rows p change row lp is =
    ap (set rows p) is ∙ edit_set rows p change (piece_row rows p) lp (get_or_default rows p (fresh_piece 0) (piece_row rows p) lp)

-- its counts alone change
pub counts_edited : (w : ℕ) (cs : List Counts) (xs : List Cell) (p : ℕ) (counts new : Counts) (change : PieceState → PieceState)
    → IsRow w cs xs p counts → row_of new (cells_at w xs p) ≡ change (row_of counts (cells_at w xs p))
    → rows_of w (set cs p new) xs ≡ edit (rows_of w cs xs) p change
counts_edited w cs xs p counts new change is changed =
    rows_counted w cs xs p new is.within
    ∙ row_edited (rows_of w cs xs) p change (row_of new (cells_at w xs p)) (omega (arith, is.within, rows_length w cs xs))
    (changed ∙ ap change (sym is.row))

-- one of its cells, as it was read
pub record IsCell (w : ℕ) (xs : List Cell) (p k : ℕ) (cell : Cell) : Type 0 where
  pub within : k < length (cells_at w xs p)
  pub read : get_or (cells_at w xs p) k empty_cell ≡ cell_kept cell

pub is_cell : (w : ℕ) (cs : List Counts) (xs : List Cell) (rows : List PieceState) (p k : ℕ) (counts : Counts) (cell : Cell)
    → IsRow w cs xs p counts → rows_of w cs xs ≡ rows → k < length (piece_row rows p).blocks
    → cell_kept cell ≡ get_or (piece_row rows p).blocks k empty_cell → IsCell w xs p k cell
is_cell w cs xs rows p k counts cell is are lk read =
    let row : piece_row rows p ≡ row_of counts (cells_at w xs p) = ap (λ (l : List PieceState). piece_row l p) (sym are) ∙ is.row in
    record {
      within = subst (λ (r : PieceState). k < length r.blocks) row lk;
      read = sym (read ∙ ap (λ (r : PieceState). get_or r.blocks k empty_cell) row);
    }

-- a cell is edited by what was read of it
pub cell_edited : (rows : List PieceState) (p k : ℕ) (change : CellState → CellState) (now old : CellState) → p < length rows
    → k < length (piece_row rows p).blocks → old ≡ get_or (piece_row rows p).blocks k empty_cell → now ≡ change old
    → edit rows p (λ r. record r { blocks = set r.blocks k now }) ≡ edit rows p (λ r. record r { blocks = edit r.blocks k change })
cell_edited rows p k change now old lp lk read is =
    let row = piece_row rows p in
    edit_same rows p (λ r. record r { blocks = set r.blocks k now }) (λ r. record r { blocks = edit r.blocks k change }) (fresh_piece 0) lp
    (ap (λ (cells : List CellState). record row { blocks = cells })
    (ap (λ (cell : CellState). set row.blocks k cell) is ∙ edit_read row.blocks k change old empty_cell lk read))

-- ---- a cell is put, with the counts that its piece has then

module _ (w : ℕ) (cs : List Counts) (xs : List Cell) (rows : List PieceState) (p k : ℕ) (counts : Counts) (cell : Cell)
    (are : rows_of w cs xs ≡ rows) (lp : p < length rows) (lk : k < length (piece_row rows p).blocks)
  where
    own : piece_row rows p ≡ row_of (counts_at cs p) (cells_at w xs p)
    own = ap (λ (l : List PieceState). piece_row l p) (sym are) ∙ row_is w cs xs p (fresh_piece 0) within_counts where
      within_counts : p < length cs
      within_counts = omega (arith, lp, ap length are, rows_length w cs xs)

    -- the row with the cell
    abbrev now : PieceState
    now = row_of counts (set (cells_at w xs p) k (cell_kept cell))

    cells_put : rows_of w (set cs p counts) (set xs (p * w + k) cell) ≡ set (rows_of w cs xs) p now
    cells_put =
        rows_set w cs xs p k counts cell (omega (arith, lp, ap length are, rows_length w cs xs))
        (in_width w xs p k (subst (λ (r : PieceState). k < length r.blocks) own lk))

    pub rows_put : counts.had ≡ (piece_row rows p).had → counts.level ≡ (piece_row rows p).level
        → rows_of w (set cs p counts) (set xs (p * w + k) cell) ≡ edit rows p (λ r. record r { blocks = set r.blocks k (cell_kept cell) })
    rows_put had level =
        cells_put
        ∙ (ap (λ (l : List PieceState). set l p now) are
        ∙ row_edited rows p (λ r. record r { blocks = set r.blocks k (cell_kept cell) }) now lp
        (λ i. record {
          had = had i;
          level = level i;
          availability = own_availability i;
          blocks = set (sym (ap (λ (r : PieceState). r.blocks) own) i) k (cell_kept cell);
        }))
      where
        own_availability : 0 ≡ (piece_row rows p).availability
        own_availability = sym (ap (λ (r : PieceState). r.availability) own)

    pub kept_put : AreKept w cs xs → Keeps counts (set (piece_row rows p).blocks k (cell_kept cell))
        → AreKept w (set cs p counts) (set xs (p * w + k) cell)
    kept_put kept keeps =
        kept_on w cs xs (set xs (p * w + k) cell) p counts now kept (omega (arith, lp, ap length are, rows_length w cs xs))
        (length-set xs (p * w + k) cell) cells_put
        (subst (λ (r : PieceState). Keeps counts (set r.blocks k (cell_kept cell))) own keeps)

    pub counts_put : counts.had ≡ (piece_row rows p).had → counts.level ≡ (piece_row rows p).level
        → Keeps counts (set (piece_row rows p).blocks k (cell_kept cell))
        → AreOf counts (piece_row (edit rows p (λ r. record r { blocks = set r.blocks k (cell_kept cell) })) p)
    counts_put had level keeps =
        subst (AreOf counts) (sym (get_or_edit_same rows p (λ r. record r { blocks = set r.blocks k (cell_kept cell) }) (fresh_piece 0) lp))
        (record { had = had; level = level; held = keeps.are.held_is; touched = keeps.are.touched_is })

-- ---- how a piece stands

-- what a piece with these counts amounts to
pub amount_is : (counts : Counts) (row : PieceState) (n blocks : ℕ) → AreOf counts row → blocks ≡ length row.blocks
    → amount_of (record { had = counts.had; level = counts.level; held = counts.held; touched = counts.touched; blocks = blocks; shown_by = n })
    ≡ standing_of (shown_row n row)
amount_is counts row n blocks are long =
    λ i. amount_of (record { had = are.had i; level = are.level i; held = are.held i; touched = are.touched i; blocks = long i; shown_by = n })

-- whether it is wanted and unbegun
pub fresh_is : (counts : Counts) (row : PieceState) (n blocks : ℕ) → AreOf counts row
    → is_fresh_by (record { had = counts.had; level = counts.level; held = counts.held; touched = counts.touched; blocks = blocks; shown_by = n })
    ≡ is_fresh row
fresh_is counts row n blocks are = λ i. not (are.had i || (are.level i == 0)) && (are.touched i == 0)

-- the counts that are kept are those of the row
pub own_counts : (counts : Counts) (cells : List CellState) → Keeps counts cells → AreOf counts (row_of counts cells)
own_counts counts cells keeps = record { had = refl; level = refl; held = keeps.are.held_is; touched = keeps.are.touched_is }
