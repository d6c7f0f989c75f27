-- Rows of bytes that stand side by side: what one of them tells, and what a byte that is put makes of them.
use Rattle.std.proofs.Common.{◌≡◌, ℕ, ◌+◌, ◌*◌, ◌%◌, ◌<◌, ◌≤◌, List, [], length, get_or, set, replicate, ap, sym, ◌∙◌, arith, inl, inr}
use Rattle.std.proofs.Math.Nat.{mod-eq_of_lt, mul-add-mod_self_left, mul-le-mul_left}
use Rattle.std.proofs.lemmas.Bool.{cases_lt}
use Rattle.std.proofs.lemmas.List.{get_or-set_same, get_or-set_other, get_or-replicate}
use Rattle.bt_history.specs.Counting.{table}
use Rattle.bt_tables.specs.Stripes.{stripe, striped}
use Rattle.bt_tables.specs.Tables.{edit}
use Rattle.bt_tables.proofs.Tabled.{edit_none, edit_same, edit_table, edit_twice, get_or_edit_same, get_or_table, length_table, rows_init, same_table}
use Rattle.bt_tables.proofs.Tabled.{set_table, table_replicate, upto, upto_below, upto_more}

-- ---- where a byte stands

pub stands_within : (rows width row place : ℕ) → row < rows → place < width → rows * place + row < rows * width
stands_within rows width row place lr lp =
    let next : place + 1 ≤ width = omega arith in
    let most = mul-le-mul_left rows next in
    let one : rows * (place + 1) ≡ rows * place + rows = omega arith in
    omega (arith, most, one)

-- two bytes that stand at one place are of one row
same_row : (rows row place row' place' : ℕ) → row < rows → row' < rows → rows * place' + row' ≡ rows * place + row → row' ≡ row
same_row rows row place row' place' lr lr' is =
    let one : (rows * place + row) % rows ≡ row = mul-add-mod_self_left rows place row ∙ mod-eq_of_lt lr in
    let other : (rows * place' + row') % rows ≡ row' = mul-add-mod_self_left rows place' row' ∙ mod-eq_of_lt lr' in
    sym other ∙ (ap (λ (n : ℕ). n % rows) is ∙ one)

-- and they are of one place of the row
same_place : (rows row place place' : ℕ) → row < rows → rows * place' + row ≡ rows * place + row → place' ≡ place
same_place rows row place place' lr is =
    elim (cases_lt place place') [
      | inl below ↦ absurd (before place place' below is)
      | inr above ↦ elim (cases_lt place' place) [
        | inl below ↦ absurd (before place' place below (sym is))
        | inr same ↦ omega arith
      ]
    ]
  where
    before : (a b : ℕ) → a < b → rows * b + row ≡ rows * a + row → ⊥
    before a b lt same =
        let next : a + 1 ≤ b = omega arith in
        let most = mul-le-mul_left rows next in
        let one : rows * (a + 1) ≡ rows * a + rows = omega arith in
        omega (arith, most, one, same, lr)

-- ---- the rows that the bytes hold

pub length_striped : (rows width : ℕ) (bytes : List ℕ) → length (striped rows width bytes) ≡ rows
length_striped rows width bytes = length_table rows _

pub stripe_is : (rows width row : ℕ) (bytes : List ℕ) → row < rows
    → stripe (striped rows width bytes) row ≡ table width (λ place. get_or bytes (rows * place + row) 0)
stripe_is rows width row bytes lr = get_or_table rows _ row [] lr

pub length_stripe : (rows width row : ℕ) (bytes : List ℕ) → row < rows → length (stripe (striped rows width bytes) row) ≡ width
length_stripe rows width row bytes lr = ap length (stripe_is rows width row bytes lr) ∙ length_table width _

pub byte_is : (rows width row place : ℕ) (bytes : List ℕ) → row < rows → place < width
    → get_or (stripe (striped rows width bytes) row) place 0 ≡ get_or bytes (rows * place + row) 0
byte_is rows width row place bytes lr lp =
    ap (λ (bs : List ℕ). get_or bs place 0) (stripe_is rows width row bytes lr) ∙ get_or_table width _ place 0 lp

pub striped_zeros : (rows width : ℕ) → striped rows width (replicate (rows * width) 0) ≡ table rows (λ row. replicate width 0)
striped_zeros rows width = same_table rows _ (λ row. replicate width 0) (λ row lr. same_table width _ (λ place. 0) (λ place lp.
    get_or-replicate (rows * width) (rows * place + row) 0 0 (stands_within rows width row place lr lp)) ∙ sym (table_replicate width 0))

-- what a call that names a row and a place of it knows
pub record Stands (rows width row place : ℕ) (bytes : List ℕ) : Type 0 where
  pub row_is : row < rows
  pub place_is : place < width
  pub within : rows * place + row < length bytes

pub stands : (rows width row place : ℕ) (bytes : List ℕ) (now : List (List ℕ)) → striped rows width bytes ≡ now
    → length bytes ≡ rows * width → row < length now → place < length (stripe now row) → Stands rows width row place bytes
stands rows width row place bytes now is long lr lp =
    let own : row < rows = omega (arith, lr, ap length is, length_striped rows width bytes) in
    let wide : length (stripe now row) ≡ width = ap (λ (l : List (List ℕ)). length (stripe l row)) (sym is) ∙
    length_stripe rows width row bytes own in
    let inside : place < width = omega (arith, lp, wide) in
    record { row_is = own; place_is = inside; within = omega (arith, long, stands_within rows width row place own inside) }

-- a byte is put at a place of a row
pub striped_put : (rows width row place byte : ℕ) (bytes : List ℕ) → length bytes ≡ rows * width → row < rows → place < width
    → striped rows width (set bytes (rows * place + row) byte) ≡ edit (striped rows width bytes) row (λ bs. set bs place byte)
striped_put rows width row place byte bytes long lr lp =
    let at = rows * place + row in
    let within : at < length bytes = omega (arith, long, stands_within rows width row place lr lp) in
    let now : ℕ → ℕ → ℕ = λ r k. get_or (set bytes at byte) (rows * k + r) 0 in
    let old : ℕ → ℕ → ℕ = λ r k. get_or bytes (rows * k + r) 0 in
    let here : now row place ≡ byte = get_or-set_same bytes at byte 0 within in
    sym (edit_table rows (λ r. table width (old r)) (λ r. table width (now r)) row (λ bs. set bs place byte) lr
    (sym (ap (set (table width (old row)) place) (sym here) ∙ set_table width (old row) (now row) place lp
    (λ k lk other. sym (get_or-set_other bytes at (rows * k + row) byte 0 (λ is. other (same_place rows row place k lr is))))))
    (λ r lt other. same_table width (old r) (now r)
    (λ k lk. sym (get_or-set_other bytes at (rows * k + r) byte 0 (λ is. other (same_row rows row place r k lr lt is))))))

-- ---- a row that is written byte by byte

-- the row, with the bytes up to this place written
abbrev pub written : ℕ → (ℕ → ℕ) → List ℕ → List ℕ
written place g old = table (length old) (upto place g (λ k. get_or old k 0))

pub written_none : (stripes : List (List ℕ)) (row : ℕ) (g : ℕ → ℕ) → stripes ≡ edit stripes row (written 0 g)
written_none stripes row g = sym (edit_none stripes row (written 0 g) (λ old. sym (rows_init old g 0)))

pub written_more : (stripes : List (List ℕ)) (row place : ℕ) (g : ℕ → ℕ) → row < length stripes → place < length (stripe stripes row)
    → edit (edit stripes row (written place g)) row (λ bs. set bs place (g place)) ≡ edit stripes row (written (place + 1) g)
written_more stripes row place g lr lp =
    edit_twice stripes row (written place g) (λ bs. set bs place (g place))
    ∙ edit_same stripes row (λ old. set (written place g old) place (g place)) (written (place + 1) g) [] lr
    (upto_more (length (stripe stripes row)) place g (λ k. get_or (stripe stripes row) k 0) lp)

pub written_all : (stripes : List (List ℕ)) (row place : ℕ) (g : ℕ → ℕ) (whole : List ℕ → List ℕ) → row < length stripes
    → length (stripe stripes row) ≤ place → whole (stripe stripes row) ≡ table (length (stripe stripes row)) g
    → edit stripes row (written place g) ≡ edit stripes row whole
written_all stripes row place g whole lr past is =
    let old = stripe stripes row in
    edit_same stripes row (written place g) whole [] lr
    (same_table (length old) (upto place g (λ k. get_or old k 0)) g (λ k lk. upto_below place g (λ k. get_or old k 0) k (omega arith)) ∙ sym is)

-- a row that is written in part is as long as before
pub length_written : (stripes : List (List ℕ)) (row place : ℕ) (g : ℕ → ℕ) → row < length stripes
    → length (stripe (edit stripes row (written place g)) row) ≡ length (stripe stripes row)
length_written stripes row place g lr =
    ap length (get_or_edit_same stripes row (written place g) [] lr) ∙ length_table (length (stripe stripes row)) _
