-- Before the front no piece is wanted and unbegun.
use Rattle.std.proofs.Common.{◌≡◌, ℕ, ◌+◌, ◌<◌, ◌≤◌, Bool, true, false, List, length, length-set, min, refl, ap, sym, ◌∙◌, arith, set, ⊎_elim}
use Rattle.std.specs.Prelude.{if◌then◌else◌}
use Rattle.std.proofs.lemmas.Bool.{cases_eq}
use Rattle.std.proofs.lemmas.List.{get_or-set_other, get_or-set_same}
use Rattle.bt_tables.specs.Floors.{NoneFresh, is_fresh}
use Rattle.bt_tables.specs.Standings.{whole_rows}
use Rattle.bt_tables.specs.Tables.{PieceState, fresh_piece, piece_row}
use Rattle.bt_tables.proofs.Apart.{length_whole, whole_at}

-- a row changes
pub front_kept : (rows : List PieceState) (p front now : ℕ) (new : PieceState) (fresh : Bool) → NoneFresh front rows → fresh ≡ is_fresh new
    → now ≡ (if fresh then min front p else front) → NoneFresh now (set rows p new)
front_kept rows p front now new fresh none is told r before within = ⊎_elim
    (λ (same : r ≡ p).
    let lp : p < length rows = omega (arith, within, length-set rows p new, same) in
    let row : piece_row (set rows p new) r ≡ new = ap (piece_row (set rows p new)) same ∙ get_or-set_same rows p new (fresh_piece 0) lp in
    ap is_fresh row ∙ (sym is ∙ stale fresh told same))
    (λ (apart : r ≡ p → ⊥).
    let row : piece_row (set rows p new) r ≡ piece_row rows r = get_or-set_other rows p r new (fresh_piece 0) apart in
    ap is_fresh row ∙ none r (omega (arith, before, less fresh told)) (omega (arith, within, length-set rows p new)))
    (cases_eq r p)
  where
    stale : (x : Bool) → now ≡ (if x then min front p else front) → r ≡ p → x ≡ false
    stale true at same = absurd (omega (arith, at, same, before))
    stale false at same = refl

    less : (x : Bool) → now ≡ (if x then min front p else front) → now ≤ front
    less true at = omega (arith, at)
    less false at = omega (arith, at)

-- the front moves over a piece that isn't
pub front_more : (rows : List PieceState) (p : ℕ) → NoneFresh p rows → is_fresh (piece_row rows p) ≡ false → NoneFresh (p + 1) rows
front_more rows p none stale r before within = ⊎_elim
    (λ (same : r ≡ p). ap (λ (m : ℕ). is_fresh (piece_row rows m)) same ∙ stale)
    (λ (apart : r ≡ p → ⊥). none r (omega (arith, before, apart)) within)
    (cases_eq r p)

-- it is that of the rows with their counts too
pub front_whole : (rows : List PieceState) (shown : List ℕ) (front : ℕ) → length shown ≡ length rows → NoneFresh front rows
    → NoneFresh front (whole_rows rows shown)
front_whole rows shown front len none p before within =
    let lp : p < length rows = omega (arith, within, length_whole rows shown len) in
    ap is_fresh (whole_at rows shown p (fresh_piece 0) (fresh_piece 0) 0 len lp) ∙ none p before lp
