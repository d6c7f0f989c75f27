-- The rows of all pieces, as those of a set change one after the other.
use Rattle.std.proofs.Common.{◌≡◌, ℕ, ◌+◌, ◌-◌, ◌<◌, ◌≤◌, ◌^◌, Bool, true, false, List, length, ap, sym, ◌∙◌, arith, inl, inr, refl, get_or}
use Rattle.std.specs.Prelude.{slice_index_or}
use Rattle.std.proofs.lemmas.Bool.{cases_lt, false≢true}
use Rattle.std.proofs.lemmas.List.{get_or_past}
use Rattle.bt_history.specs.Counting.{table}
use Rattle.bt_tables.specs.Tables.{AreCounted, PieceState, edit, fresh_piece, hidden_rows, less_available, more_available, one_if, piece_row}
use Rattle.bt_tables.specs.Tables.{level_row, recounted, shown_rows}
use Rattle.bt_tables.specs.Showing.{AreSet}
use Rattle.bt_tables.proofs.Tabled.{edit_none, edit_past, edit_read, edit_table, get_or_table, length_is_table, length_table, rows_init, rows_more, rows_read}
use Rattle.bt_tables.proofs.Tabled.{same_table, upto, edit_unmoved, upto_above, upto_below}

module _ {A : Type 0} (n : ℕ) (g f : ℕ → A) where
  -- where g and f agree from i up to j
  skipped : (i j : ℕ) → i ≤ j → ((p : ℕ) → i ≤ p → p < j → g p ≡ f p) → table n (upto i g f) ≡ table n (upto j g f)
  skipped i j le same = same_table n (upto i g f) (upto j g f) (λ k lk.
      elim (cases_lt k i) [
        | inl below ↦ upto_below i g f k below ∙ sym (upto_below j g f k (omega arith))
        | inr above ↦ upto_above i g f k above ∙ elim (cases_lt k j) [
          | inl inside ↦ sym (upto_below j g f k inside ∙ same k above inside)
          | inr behind ↦ sym (upto_above j g f k behind)
        ]
      ])

  changed_at : (j : ℕ) (change : A → A) → g j ≡ change (f j) → edit (table n (upto j g f)) j change ≡ table n (upto (j + 1) g f)
  changed_at j change here =
      elim (cases_lt j n) [
        | inl within ↦ edit_table n (upto j g f) (upto (j + 1) g f) j change within
            (upto_below (j + 1) g f j (omega arith) ∙ (here ∙ ap change (sym (upto_above j g f j (omega arith)))))
            (λ k lk apart. elim (cases_lt k j) [
              | inl below ↦ upto_below j g f k below ∙ sym (upto_below (j + 1) g f k (omega arith))
              | inr above ↦ upto_above j g f k above ∙ sym (upto_above (j + 1) g f k (omega (arith, apart)))
            ])
        | inr past ↦ edit_past (table n (upto j g f)) j change (omega (arith, length_table n (upto j g f)))
            ∙ same_table n (upto j g f) (upto (j + 1) g f) (λ k lk. upto_below j g f k (omega arith) ∙ sym (upto_below (j + 1) g f k (omega arith)))
      ]

  -- one more element changes, and those before it stay
  sweep_more : (ys : List A) (i j : ℕ) (change : A → A) → ys ≡ table n (upto i g f) → i ≤ j → ((p : ℕ) → i ≤ p → p < j → g p ≡ f p)
      → g j ≡ change (f j) → edit ys j change ≡ table n (upto (j + 1) g f)
  sweep_more ys i j change is le same here = ap (λ (l : List A). edit l j change) (is ∙ skipped i j le same) ∙ changed_at j change here

  -- no more changes
  sweep_done : (ys : List A) (i : ℕ) → ys ≡ table n (upto i g f) → ((p : ℕ) → i ≤ p → g p ≡ f p) → ys ≡ table n g
  sweep_done ys i is same = is ∙ same_table n (upto i g f) g (λ k lk.
      elim (cases_lt k i) [
        | inl below ↦ upto_below i g f k below
        | inr above ↦ upto_above i g f k above ∙ sym (same k above)
      ])

-- a flag that is set is one of the list
pub set_within : (flags : List Bool) (p : ℕ) → slice_index_or flags p false ≡ true → p < length flags
set_within flags p is =
    elim (cases_lt p (length flags)) [
      | inl within ↦ within
      | inr past ↦ absurd (false≢true (sym (get_or_past flags p false past) ∙ is))
    ]

-- ---- rows that are hidden and shown

pub hides_none : (flag : Bool) (row : PieceState) → flag ≡ false → less_available flag row ≡ row
hides_none flag row none =
    let same : row.availability - one_if false ≡ row.availability = omega arith in
    ap (λ (b : Bool). less_available b row) none ∙ (λ i. record { had = row.had; level = row.level; availability = same i; blocks = row.blocks })

pub shows_none : (flag : Bool) (row : PieceState) → flag ≡ false → more_available flag row ≡ row
shows_none flag row none =
    let same : row.availability + one_if false ≡ row.availability = omega arith in
    ap (λ (b : Bool). more_available b row) none ∙ (λ i. record { had = row.had; level = row.level; availability = same i; blocks = row.blocks })

-- a step for each piece of a set, that does nothing where the flag isn't set
module _ (step : Bool → PieceState → PieceState) (nothing : (flag : Bool) (row : PieceState) → flag ≡ false → step flag row ≡ row)
    (rows : List PieceState) (flags : List Bool) where
  abbrev pub swept : ℕ → PieceState
  swept p = step (slice_index_or flags p false) (piece_row rows p)

  -- the next piece of the set is one, and those before it aren't
  pub swept_more : (now : List PieceState) (i j : ℕ) → now ≡ table (length rows) (upto i swept (piece_row rows)) → i ≤ j
      → ((p : ℕ) → i ≤ p → p < j → slice_index_or flags p false ≡ false) → slice_index_or flags j false ≡ true
      → edit now j (step true) ≡ table (length rows) (upto (j + 1) swept (piece_row rows))
  swept_more now i j is le none here =
      sweep_more (length rows) swept (piece_row rows) now i j (step true) is le
      (λ p from below. nothing (slice_index_or flags p false) (piece_row rows p) (none p from below))
      (ap (λ (b : Bool). step b (piece_row rows j)) here)

  -- no piece from i on is one
  pub swept_none : (now : List PieceState) (i : ℕ) → now ≡ table (length rows) (upto i swept (piece_row rows))
      → ((p : ℕ) → i ≤ p → slice_index_or flags p false ≡ false) → now ≡ table (length rows) swept
  swept_none now i is none =
      sweep_done (length rows) swept (piece_row rows) now i is (λ p from. nothing (slice_index_or flags p false) (piece_row rows p) (none p from))

  -- the set has no flags from i on
  pub swept_all : (now : List PieceState) (i : ℕ) → now ≡ table (length rows) (upto i swept (piece_row rows)) → length flags ≤ i
      → now ≡ table (length rows) swept
  swept_all now i is past = swept_none now i is (λ p from. get_or_past flags p false (omega (arith, past, from)))

-- a peer that shows other pieces hides its own and shows these
pub hidden_then_shown : (rows : List PieceState) (before after : List Bool) → shown_rows after (hidden_rows before rows) ≡ recounted rows before after
hidden_then_shown rows before after =
    let hidden : ℕ → PieceState = λ p. less_available (slice_index_or before p false) (piece_row rows p) in
    let n = length rows in
    ap (λ (m : ℕ). table m (λ p. more_available (slice_index_or after p false) (piece_row (table n hidden) p))) (length_table n hidden)
    ∙ same_table n (λ p. more_available (slice_index_or after p false) (piece_row (table n hidden) p))
    (λ p. more_available (slice_index_or after p false) (hidden p))
    (λ k lk. ap (more_available (slice_index_or after k false)) (get_or_table n hidden k (fresh_piece 0) lk))

-- there is room for one more that shows a piece of the set
pub has_room : (rows now : List PieceState) (flags : List Bool) (i p : ℕ) → AreCounted (shown_rows flags rows)
    → now ≡ table (length rows) (upto i (λ k. more_available (slice_index_or flags k false) (piece_row rows k)) (piece_row rows))
    → i ≤ p → slice_index_or flags p false ≡ true → p < length now → (piece_row now p).availability + 1 < 2 ^ 16
has_room rows now flags i p counted is from shown within =
    let n = length rows in
    let g : ℕ → PieceState = λ k. more_available (slice_index_or flags k false) (piece_row rows k) in
    let long : length now ≡ n = ap length is ∙ length_table n (upto i g (piece_row rows)) in
    let lt : p < n = omega arith in
    let here : piece_row now p ≡ piece_row rows p =
    ap (λ (l : List PieceState). piece_row l p) is ∙ (get_or_table n (upto i g (piece_row rows)) p (fresh_piece 0) lt ∙
    upto_above i g (piece_row rows) p from) in
    let fits = counted p (omega (arith, lt, length_table n g)) in
    let one : (piece_row (shown_rows flags rows) p).availability ≡ (piece_row rows p).availability + 1 =
    ap (λ (r : PieceState). r.availability) (get_or_table n g p (fresh_piece 0) lt) ∙
    ap (λ (b : Bool). (piece_row rows p).availability + one_if b) shown in
    omega (arith, fits, one, ap (λ (r : PieceState). r.availability) here)

-- a piece that was shown before stays as it is
pub tells_nothing : (rows : List PieceState) (p : ℕ) (is_new : Bool) → is_new ≡ false →
    edit rows p (λ row. more_available is_new (less_available false row)) ≡ rows
tells_nothing rows p is_new old = edit_none rows p (λ row. more_available is_new (less_available false row))
    (λ row. shows_none is_new (less_available false row) old ∙ hides_none false row refl)

-- ---- levels

-- the rows once the pieces below n have the levels that the function gives them
abbrev pub levelled_upto : List PieceState → (ℕ → ℕ) → ℕ → List PieceState
levelled_upto rows level n = table (length rows) (upto n (λ p. level_row (level p) (piece_row rows p)) (piece_row rows))

pub levelled_more : (rows now after : List PieceState) (level : ℕ → ℕ) (i n : ℕ) → now ≡ levelled_upto rows level i → i < length rows → n ≡ level i
    → after ≡ edit now i (level_row n) → after ≡ levelled_upto rows level (i + 1)
levelled_more rows now after level i n are lt is edited =
    let long : length now ≡ length rows = length_is_table _ _ _ are in
    let old = get_or now i (fresh_piece 0) in
    let row : old ≡ piece_row rows i = rows_read now _ i _ (piece_row rows) (fresh_piece 0) are lt in
    edited ∙ (sym (edit_read now i (level_row n) old (fresh_piece 0) (omega (arith, long, lt)) refl)
    ∙ rows_more now _ i _ _ _ are lt (ap (λ (m : ℕ). level_row m old) is ∙ ap (level_row (level i)) row))

-- a piece that has the told level stays as it is
pub same_level : (rows : List PieceState) (p n : ℕ) → p < length rows → (piece_row rows p).level ≡ n → rows ≡ edit rows p (level_row n)
same_level rows p n lt is = sym (edit_unmoved rows p (level_row n) (fresh_piece 0) lt (λ i. record (piece_row rows p) { level = sym is i }))

-- ---- a peer that shows each piece

-- each row changes where each flag is set
pub stepped_all : (step : Bool → PieceState → PieceState) (rows : List PieceState) (flags : List Bool) → AreSet flags → length rows ≤ length flags
    → table (length rows) (λ p. step true (piece_row rows p)) ≡ table (length rows) (λ p. step (slice_index_or flags p false) (piece_row rows p))
stepped_all step rows flags all few =
    same_table (length rows) (λ p. step true (piece_row rows p)) (λ p. step (slice_index_or flags p false) (piece_row rows p))
    (λ p lp. ap (λ (b : Bool). step b (piece_row rows p)) (sym (all p (omega (arith, lp, few)))))

-- and there is room for one more in each count
pub has_rooms : (rows : List PieceState) (flags : List Bool) → AreSet flags → length rows ≤ length flags → AreCounted (shown_rows flags rows)
    → (p : ℕ) → p < length rows → (piece_row rows p).availability + 1 < 2 ^ 16
has_rooms rows flags all few counted p lp =
    has_room rows rows flags 0 p counted
    (rows_init rows _ (fresh_piece 0)) (omega arith) (all p (omega (arith, lp, few))) lp
