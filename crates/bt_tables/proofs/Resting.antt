-- Whether nothing is left to get of any piece, by how many pieces something is left of.
use Rattle.std.proofs.Common.{◌≡◌, ℕ, zero, suc, ◌<◌, ◌==◌, Bool, true, false, not, List, [], ◌∷◌, length, refl, ap, sym, ◌∙◌, arith}
use Rattle.std.specs.List.{count_by}
use Rattle.std.proofs.lemmas.Bool.{false≢true, ne_eqb}
use Rattle.std.proofs.lemmas.List.Sums.{get_or-le-sum_by, sum_by-cons}
use Rattle.bt_tables.specs.Tables.{PieceState, fresh_piece, one_if, piece_row}
use Rattle.bt_tables.specs.Standings.{TellsRest, is_resting}

abbrev is_left : PieceState → Bool
is_left row = not (is_resting row)

all_rest : (rows : List PieceState) → count_by is_left rows ≡ 0 → (p : ℕ) → p < length rows → is_resting (piece_row rows p) ≡ true
all_rest rows none p lp = by_part (is_resting (piece_row rows p)) refl where
  by_part : (x : Bool) → is_resting (piece_row rows p) ≡ x → x ≡ true
  by_part true is = refl
  by_part false is =
      let part = get_or-le-sum_by (λ (row : PieceState). one_if (is_left row)) rows p (fresh_piece 0) lp in
      let one : one_if (is_left (piece_row rows p)) ≡ 1 = ap (λ (b : Bool). one_if (not b)) is in
      absurd (omega (arith, part, one, none))

some_left : (rows : List PieceState) → 0 < count_by is_left rows → (p : ℕ) × (p < length rows) × (is_resting (piece_row rows p) ≡ false)
some_left [] some = absurd (omega (arith, some))
some_left (row ∷ rows) some = by_row (is_resting row) refl (some_left rows) where
  by_row : (x : Bool) → is_resting row ≡ x → (0 < count_by is_left rows → (p : ℕ) × (p < length rows) × (is_resting (piece_row rows p) ≡ false))
      → (p : ℕ) × (p < length (row ∷ rows)) × (is_resting (piece_row (row ∷ rows) p) ≡ false)
  by_row false is behind = (0, omega arith, is)
  by_row true is behind =
      let sum = sum_by-cons (λ (r : PieceState). one_if (is_left r)) row rows in
      let here : one_if (is_left row) ≡ 0 = ap (λ (b : Bool). one_if (not b)) is in
      let rest = behind (omega (arith, some, sum, here)) in
      (suc rest.0, omega (arith, rest.1), rest.2)

pub tells_rest : (rows : List PieceState) (n : ℕ) → n ≡ count_by is_left rows → TellsRest rows (n == 0)
tells_rest rows n is = by_count n is where
  by_count : (m : ℕ) → m ≡ count_by is_left rows → TellsRest rows (m == 0)
  by_count zero count = record {
    each = λ yes. all_rest rows (sym count);
    other = λ no. absurd (false≢true (sym no));
  }
  by_count (suc m) count = record {
    each = λ yes. absurd (false≢true (sym (ne_eqb (suc m) 0 (λ same. omega (arith, same))) ∙ yes));
    other = λ no. some_left rows (omega (arith, count));
  }
