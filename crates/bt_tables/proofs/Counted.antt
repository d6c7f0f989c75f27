-- What is counted of the cells of a piece, once one of them changes.
use Rattle.std.proofs.Common.{◌≡◌, ℕ, ◌*◌, replicate, cond, ◌+◌, ◌<◌, ◌≤◌, ◌==◌, ◌≢◌, ◌^◌, Bool, true, false, List, length, get_or}
use Rattle.std.proofs.Common.{set, refl, ap, sym, ◌∙◌, arith, length-set}
use Rattle.std.specs.List.{count_by}
use Rattle.std.specs.Prelude.{if◌then◌else◌, nat_lt}
use Rattle.std.proofs.Math.Nat.{min-le_left, min-le_right}
use Rattle.std.proofs.lemmas.Bool.{eqb-true, lt-ltb, or_right}
use Rattle.std.proofs.lemmas.List.{get_or-set_other, get_or-set_same, length-replicate}
use Rattle.std.proofs.lemmas.List.Folds.{sum_by-replicate}
use Rattle.std.proofs.lemmas.List.Sums.{sum_by-set, count_by-le-length, get_or-le-sum_by}
use mathlib.Core.Logic.{dite}
use native.Mathlib.Decide.{ℕ_discrete}
use Rattle.bt_tables.specs.declared.counts.Counts.{Counts}
use Rattle.bt_tables.specs.Rows.{Keeps, no_counts, passed_to}
use Rattle.bt_tables.specs.Tables.{CellState, empty_cell, one_if, one_more}
use Rattle.bt_tables.specs.Standings.{AreTouched, is_held, is_touched}

module _ (test : CellState → Bool) (cells : List CellState) (i : ℕ) (old new : CellState) (lt : i < length cells)
    (read : get_or cells i empty_cell ≡ old)
  where
    abbrev one : CellState → ℕ
    one cell = one_if (test cell)

    -- the old cell is counted, if it is to be
    pub count_part : one_if (test old) ≤ count_by test cells
    count_part = omega (arith, ap one read, get_or-le-sum_by one cells i empty_cell lt)

    pub count_moved : count_by test (set cells i new) + one_if (test old) ≡ count_by test cells + one_if (test new)
    count_moved = omega (arith, ap one read, sum_by-set one cells i new empty_cell lt)

    pub count_most : count_by test cells + one_if (test new) ≤ length cells + one_if (test old)
    count_most = omega (arith, count_by-le-length test (set cells i new), count_moved, length-set cells i new)

-- up to which block each is held or asked
pub still_touched : (n i : ℕ) (cells : List CellState) (cell : CellState) → i < length cells → AreTouched n cells
    → AreTouched (passed_to n i (is_touched cell)) (set cells i cell)
still_touched n i cells cell lt so_far = by_test (is_touched cell) refl where
  within : (j : ℕ) → j < length (set cells i cell) → j < length cells
  within j lj = omega (arith, lj, length-set cells i cell)

  elsewhere : (j : ℕ) → j ≢ i → j < n → j < length (set cells i cell) → is_touched (get_or (set cells i cell) j empty_cell) ≡ true
  elsewhere j other lj inside = ap is_touched (get_or-set_other cells i j cell empty_cell other) ∙ so_far j lj (within j inside)

  by_test : (x : Bool) → is_touched cell ≡ x → AreTouched (passed_to n i x) (set cells i cell)
  by_test false untouched j lj inside = elsewhere j (omega (arith, lj, min-le_right n i)) (omega (arith, lj, min-le_left n i)) inside
  by_test true touched j lj inside = dite (ℕ_discrete j i)
      (λ same. ap (λ (m : ℕ). is_touched (get_or (set cells i cell) m empty_cell)) same
      ∙ (ap is_touched (get_or-set_same cells i cell empty_cell lt) ∙ touched))
      (λ other. elsewhere j other (below other (i == n) refl lj) inside)
    where
      below : j ≢ i → (y : Bool) → (i == n) ≡ y → j < (if y then n + 1 else n) → j < n
      below other false differ less = less
      below other true same less = (let e : i ≡ n = eqb-true i n same in omega (arith, less, e, other))

-- counts that are moved are those of the changed cells
pub keeps_moved : (counts new : Counts) (cells : List CellState) (i : ℕ) (old cell : CellState) → i < length cells → get_or cells i empty_cell ≡ old
    → Keeps counts cells
    → new.held + one_if (is_held old) ≡ counts.held + one_if (is_held cell)
    → new.touched + one_if (is_touched old) ≡ counts.touched + one_if (is_touched cell)
    → new.first ≡ passed_to counts.first i (is_touched cell) → Keeps new (set cells i cell)
keeps_moved counts new cells i old cell lt read keeps held touched first = record {
  are = record {
    held_is = omega (arith, held, keeps.are.held_is, count_moved is_held cells i old cell lt read);
    touched_is = omega (arith, touched, keeps.are.touched_is, count_moved is_touched cells i old cell lt read);
    short = omega (arith, keeps.are.short, length-set cells i cell);
  };
  passed = rw first (still_touched counts.first i cells cell lt keeps.passed);
}

-- one peer more that is asked leaves whether the block is held, and it is touched then
pub more_held : (cell : CellState) → is_held (one_more cell) ≡ is_held cell
more_held cell = refl

pub more_touched : (cell : CellState) → is_touched (one_more cell) ≡ true
more_touched cell = or_right (is_held cell) (nat_lt 0 (one_more cell).askers) (lt-ltb 0 (one_more cell).askers (omega arith))

-- nothing is counted of a piece of which nothing is known
pub keeps_none : (n : ℕ) → n < 2 ^ 32 → Keeps no_counts (replicate n empty_cell)
keeps_none n few = record {
  are = record {
    held_is = sym (sum_by-replicate (λ (cell : CellState). cond (is_held cell) 1 0) n empty_cell ∙ none n);
    touched_is = sym (sum_by-replicate (λ (cell : CellState). cond (is_touched cell) 1 0) n empty_cell ∙ none n);
    short = rw (length-replicate n empty_cell) few;
  };
  passed = λ i below inside. absurd (omega (arith, below));
}
  where
    none : (m : ℕ) → m * 0 ≡ 0
    none m = omega arith
