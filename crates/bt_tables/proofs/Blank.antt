-- The rows of a torrent of which nothing is known.
use Rattle.std.proofs.Common.{◌≡◌, ◌<◌, ◌≤◌, ◌+◌, ◌*◌, ◌-◌, ◌/◌, ◌^◌, ◌∙◌, ℕ, zero, suc, List, ◌∷◌, get_or, take, min, replicate, ap, arith, refl}
use Rattle.std.proofs.Common.{sym, ⊎_elim}
use Rattle.std.proofs.Math.Nat.{div-mul-le_self, mul-le-mul_right, suc-mul}
use Rattle.std.proofs.lemmas.Bool.{cases_lt}
use Rattle.std.proofs.lemmas.Nat.{le-div}
use Rattle.std.proofs.lemmas.List.{drop-replicate, get_or-replicate, length-replicate, take-replicate, take_all}
use Rattle.bt_meta.specs.Layout.{IsLayout, Layout, block_count, block_size, piece_count, piece_len}
use Rattle.bt_history.specs.Counting.{table}
use Rattle.bt_tables.specs.declared.cell.Cell.{Cell}
use Rattle.bt_tables.specs.declared.counts.Counts.{Counts}
use Rattle.bt_tables.specs.Rows.{AreKept, no_counts, row_of, rows_of, said}
use Rattle.bt_tables.specs.Tables.{CellState, PieceState, empty_cell, fresh_piece}
use Rattle.bt_tables.proofs.Counted.{keeps_none}
use Rattle.bt_tables.proofs.Rowed.{cells_at, row_is, rows_length}
use Rattle.bt_tables.proofs.Tabled.{table_from}

-- the cell of a block that is neither held nor asked
abbrev pub blank : Cell
blank = record { word = 0 }

said_blank : (n : ℕ) → said (replicate n blank) ≡ replicate n empty_cell
said_blank zero = refl
said_blank (suc n) = ap (λ (cells : List CellState). empty_cell ∷ cells) (said_blank n)

take_blank : (w n : ℕ) → take w (replicate n blank) ≡ replicate (min w n) blank
take_blank w n =
    ⊎_elim (λ (less : w < n). take-replicate w n blank (omega (arith, less)) ∙ ap (λ (k : ℕ). replicate k blank) (omega (arith, less)))
    (λ (most : n ≤ w). take_all w (replicate n blank) (omega (arith, most, length-replicate {A = Cell} n blank))
    ∙ ap (λ (k : ℕ). replicate k blank) (omega (arith, most)))
    (cases_lt w n)

cells_blank : (w m p : ℕ) → cells_at w (replicate m blank) p ≡ replicate (min w (m - p * w)) empty_cell
cells_blank w m p =
    ap (λ (l : List Cell). said (take w l)) (drop-replicate (p * w) m blank)
    ∙ (ap said (take_blank w (m - p * w)) ∙ said_blank (min w (m - p * w)))

-- a torrent has a piece
pub some_pieces : (t : Layout) → IsLayout t → (n : ℕ) → n ≡ piece_count t → 0 < n
some_pieces t is n count =
    let one = le-div 1 (t.total + t.piece_length - 1) t.piece_length is.piece_length_low (omega (arith, is.total_low)) in
    omega (arith, one, count, is.count)

module _ (t : Layout) (is : IsLayout t) where
  -- a piece with one behind it has the usual length
  whole : (p : ℕ) → p + 1 < piece_count t → piece_len t p ≡ t.piece_length
  whole p lt =
      let all = div-mul-le_self (t.total + t.piece_length - 1) t.piece_length in
      let most = mul-le-mul_right t.piece_length (after p lt) in
      let count = ap (λ (n : ℕ). n * t.piece_length) is.count in
      let one = suc-mul p t.piece_length in
      let two = suc-mul (suc p) t.piece_length in
      omega (arith, all, most, count, one, two, is.piece_length_low, is.total_low)
    where
      after : (p : ℕ) → p + 1 < piece_count t → suc (suc p) ≤ piece_count t
      after p lt = omega (arith, lt)

  -- none is longer than the first
  most_bytes : (p : ℕ) → piece_len t p ≤ piece_len t 0
  most_bytes p = omega arith

  pub most_blocks : (p : ℕ) → block_count t p ≤ block_count t 0
  most_blocks p = omega (arith, most_bytes p)

  pub few_blocks : (p : ℕ) → block_count t p < 2 ^ 32
  few_blocks p = omega (arith, is.piece_length_high)

  module _ (n m : ℕ) (some : 0 < n) (pieces : n ≡ piece_count t) (blocks : m ≡ (n - 1) * block_count t 0 + block_count t (n - 1)) where
    -- so many cells are those of the piece
    own_cells : (p : ℕ) → p < n → min (block_count t 0) (m - p * block_count t 0) ≡ block_count t p
    own_cells p lp =
        ⊎_elim (λ (less : p + 1 < n).
        let here : piece_len t p ≡ t.piece_length = whole p (omega (arith, less, pieces)) in
        let first : piece_len t 0 ≡ t.piece_length = whole 0 (omega (arith, less, pieces)) in
        let same : block_count t p ≡ block_count t 0 = ap (λ (k : ℕ). (k + (block_size - 1)) / block_size) (here ∙ sym first) in
        let begins = mul-le-mul_right (block_count t 0) (before p less) in
        omega (arith, same, begins, suc-mul p (block_count t 0), blocks))
        (λ (last : n ≤ p + 1).
        let same : p ≡ n - 1 = omega (arith, last, lp) in
        let begins = ap (λ (k : ℕ). k * block_count t 0) same in
        let own = ap (block_count t) same in
        omega (arith, begins, own, blocks, most_blocks p))
        (cases_lt (p + 1) n)
      where
        before : (p : ℕ) → p + 1 < n → suc p ≤ n - 1
        before p lt = omega (arith, lt)

    row_blank : (p : ℕ) (d : PieceState) → p < n
        → get_or (rows_of (block_count t 0) (replicate n no_counts) (replicate m blank)) p d ≡ fresh_piece (block_count t p)
    row_blank p d lp =
        row_is (block_count t 0) (replicate n no_counts) (replicate m blank) p d (omega (arith, lp, length-replicate {A = Counts} n no_counts))
        ∙ (λ i. row_of (get_or-replicate n p no_counts no_counts lp i)
        ((cells_blank (block_count t 0) m p ∙ ap (λ (k : ℕ). replicate k empty_cell) (own_cells p lp)) i))

    pub blank_rows : rows_of (block_count t 0) (replicate n no_counts) (replicate m blank) ≡ table (piece_count t)
        (λ p. fresh_piece (block_count t p))
    blank_rows =
        table_from n (λ p. fresh_piece (block_count t p)) (rows_of (block_count t 0) (replicate n no_counts) (replicate m blank))
        (rows_length (block_count t 0) (replicate n no_counts) (replicate m blank) ∙ length-replicate {A = Counts} n no_counts)
        (λ p d lt. row_blank p d lt)
        ∙ ap (λ (k : ℕ). table k (λ p. fresh_piece (block_count t p))) pieces

    pub blank_kept : AreKept (block_count t 0) (replicate n no_counts) (replicate m blank)
    blank_kept = record {
      filled =
          omega (
            arith,
            length-replicate {A = Counts} n no_counts,
            length-replicate {A = Cell} m blank,
            blocks,
            ap (λ (k : ℕ). k * block_count t 0) (length-replicate {A = Counts} n no_counts),
            ap (λ (k : ℕ). k * block_count t 0) (one_before n some),
            suc-mul (n - 1) (block_count t 0),
          );
      each = λ p lp.
          let within : p < n = omega (arith, lp, length-replicate {A = Counts} n no_counts) in
          rw (get_or-replicate n p no_counts no_counts within, row_blank p (fresh_piece 0) within) (keeps_none (block_count t p) (few_blocks p));
    }
      where
        one_before : (k : ℕ) → 0 < k → k ≡ suc (k - 1)
        one_before k lt = omega (arith, lt)
