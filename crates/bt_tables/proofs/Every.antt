-- What is left of all rows once one peer more shows each piece, or one less.
use Rattle.std.proofs.Common.{◌≡◌, ℕ, ◌+◌, ◌-◌, ◌*◌, ◌^◌, ◌<◌, ◌≤◌, ◌==◌, Bool, true, false, List, [], ◌∷◌, length, map, not, refl, ap, subst, sym, ◌∙◌, arith}
use Rattle.std.specs.List.{sum_by}
use Rattle.std.proofs.lemmas.List.{get_or-map, get_or_default, length-map, same_lists}
use Rattle.std.proofs.lemmas.List.Sums.{sum_by-cons}
use Rattle.bt_history.specs.Counting.{table}
use Rattle.bt_tables.specs.Orders.{at, AreMoved}
use Rattle.bt_tables.specs.Tables.{PieceState, fresh_piece, one_if, piece_row}
use Rattle.bt_tables.specs.Standings.{AreShelved, NoneCrowded, ShelfState, group_of_row, is_resting, lowered_in, place_in, place_of, raised_in}
use Rattle.bt_tables.specs.Standings.{shown_row, slot_of, standing_of, touched_count, whole_rows}
use Rattle.bt_tables.specs.declared.piece.TheConstants.{SPAN}
use Rattle.bt_tables.proofs.Apart.{length_whole, slot_few, staged, whole_at}
use Rattle.bt_tables.proofs.Slots.{lowered_cases, raised_cases}
use Rattle.bt_tables.proofs.Tabled.{table_from}

-- ---- the group of one piece

raised_stage : (b : ℕ) (resting unbegun asked : Bool) (n : ℕ) → b ≤ 6
    → b * SPAN + place_of (staged resting unbegun asked (n + 1)) ≡ raised_in 7 (b * SPAN + place_of (staged resting unbegun asked n))
raised_stage b true unbegun asked n low = (let is = raised_cases 7 (b * SPAN + 0) in omega (arith, is))
raised_stage b false true asked n low = (let is = raised_cases 7 (b * SPAN + place_of (staged false true asked n)) in omega (arith, is, low))
raised_stage b false false true n low = (let is = raised_cases 7 (b * SPAN + 1) in omega (arith, is))
raised_stage b false false false n low = (let is = raised_cases 7 (b * SPAN + 2) in omega (arith, is))

pub raised_row : (row : PieceState) (n : ℕ) → group_of_row (shown_row (n + 1) row) ≡ raised_in 7 (group_of_row (shown_row n row))
raised_row row n =
    raised_stage (slot_of row.level) (is_resting row) (touched_count row.blocks == 0) (touched_count row.blocks == length row.blocks) n
    (slot_few row.level)

lowered_stage : (b : ℕ) (resting unbegun asked : Bool) (n : ℕ) → b ≤ 6 → place_in (b * SPAN + place_of (staged resting unbegun asked n)) < SPAN - 1
    → b * SPAN + place_of (staged resting unbegun asked (n - 1)) ≡ lowered_in 7 (b * SPAN + place_of (staged resting unbegun asked n))
lowered_stage b true unbegun asked n low few = (let is = lowered_cases 7 (b * SPAN + 0) in omega (arith, is))
lowered_stage b false true asked n low few =
    (let is = lowered_cases 7 (b * SPAN + place_of (staged false true asked n)) in omega (arith, is, low, few))
lowered_stage b false false true n low few = (let is = lowered_cases 7 (b * SPAN + 1) in omega (arith, is))
lowered_stage b false false false n low few = (let is = lowered_cases 7 (b * SPAN + 2) in omega (arith, is))

pub lowered_row : (row : PieceState) (n : ℕ) → place_in (group_of_row (shown_row n row)) < SPAN - 1
    → group_of_row (shown_row (n - 1) row) ≡ lowered_in 7 (group_of_row (shown_row n row))
lowered_row row n few =
    lowered_stage (slot_of row.level) (is_resting row) (touched_count row.blocks == 0) (touched_count row.blocks == length row.blocks) n
    (slot_few row.level) few

-- each group is one of the seven slots
group_stage : (b : ℕ) (resting unbegun asked : Bool) (n : ℕ) → b ≤ 6 → b * SPAN + place_of (staged resting unbegun asked n) < 7 * SPAN
group_stage b true unbegun asked n low = omega (arith, low)
group_stage b false true asked n low = omega (arith, low)
group_stage b false false true n low = omega (arith, low)
group_stage b false false false n low = omega (arith, low)

group_few : (row : PieceState) → group_of_row row < 7 * SPAN
group_few row =
    group_stage (slot_of row.level) (is_resting row) (touched_count row.blocks == 0) (touched_count row.blocks == length row.blocks)
    row.availability (slot_few row.level)

-- ---- all rows

-- a sum that no count of peers has a part in
same_sum : (f : PieceState → ℕ) → ((n m : ℕ) (row : PieceState) → f (shown_row n row) ≡ f (shown_row m row)) → (rows : List PieceState)
    (shown counts : List ℕ) → length shown ≡ length rows → length counts ≡ length rows
    → sum_by f (whole_rows rows shown) ≡ sum_by f (whole_rows rows counts)
same_sum f same [] shown counts len long = refl
same_sum f same (row ∷ rows) [] counts len long = absurd (omega (arith, len))
same_sum f same (row ∷ rows) (n ∷ shown) [] len long = absurd (omega (arith, long))
same_sum f same (row ∷ rows) (n ∷ shown) (m ∷ counts) len long =
    (let rest = same_sum f same rows shown counts (omega (arith, len)) (omega (arith, long)) in
    sum_by-cons f (shown_row n row) (whole_rows rows shown)
    ∙ ((λ i. same n m row i + rest i) ∙ sym (sum_by-cons f (shown_row m row) (whole_rows rows counts))))

module _ (rows : List PieceState) (shown counts : List ℕ) (len : length shown ≡ length rows) (recount : ℕ → ℕ)
    (counted : AreMoved recount shown counts) where
  long : length counts ≡ length rows
  long = counted.len ∙ len

  abbrev row_at : ℕ → PieceState
  row_at p = piece_row (whole_rows rows shown) p

  -- each row has the count that is made of its count
  pub counted_rows : whole_rows rows counts ≡ table (length (whole_rows rows shown)) (λ p. shown_row (recount (row_at p).availability) (row_at p))
  counted_rows =
      table_from (length (whole_rows rows shown)) (λ p. shown_row (recount (row_at p).availability) (row_at p)) (whole_rows rows counts)
      (length_whole rows counts long ∙ sym (length_whole rows shown len))
      (λ k d lt.
      let within : k < length rows = omega (arith, lt, length_whole rows shown len) in
      whole_at rows counts k d (fresh_piece 0) 0 long within
      ∙ (ap (λ (n : ℕ). shown_row n (piece_row rows k)) (counted.each k (omega (arith, within, len)))
      ∙ sym (ap (λ (row : PieceState). shown_row (recount row.availability) row) (whole_at rows shown k (fresh_piece 0) (fresh_piece 0) 0 len within))))

  module _ (shelf now : ShelfState) (are : AreShelved shelf (whole_rows rows shown)) (move : ℕ → ℕ) (moved : AreMoved move shelf.groups now.groups)
      (rest : now ≡ record shelf { groups = now.groups })
      (goes : (p : ℕ) → p < length rows
      → group_of_row (shown_row (recount (at shown p)) (piece_row rows p)) ≡ move (group_of_row (shown_row (at shown p) (piece_row rows p)))) where
    -- the group of the piece before and after
    group_before : (p : ℕ) → p < length rows → at shelf.groups p ≡ group_of_row (shown_row (at shown p) (piece_row rows p))
    group_before p lp =
        ap (λ (s : ShelfState). at s.groups p) are.is
        ∙ (get_or-map group_of_row (whole_rows rows shown) p (fresh_piece 0) 0 (omega (arith, lp, length_whole rows shown len))
        ∙ ap group_of_row (whole_at rows shown p (fresh_piece 0) (fresh_piece 0) 0 len lp))

    group_after : (p : ℕ) → p < length rows → group_of_row (piece_row (whole_rows rows counts) p) ≡ move (at shelf.groups p)
    group_after p lp =
        ap group_of_row (whole_at rows counts p (fresh_piece 0) (fresh_piece 0) 0 long lp)
        ∙ (ap (λ (n : ℕ). group_of_row (shown_row n (piece_row rows p))) (counted.each p (omega (arith, lp, len)))
        ∙ (goes p lp ∙ ap move (sym (group_before p lp))))

    groups_len : length shelf.groups ≡ length rows
    groups_len = ap (λ (s : ShelfState). length s.groups) are.is ∙ (length-map (whole_rows rows shown) group_of_row ∙ length_whole rows shown len)

    groups_are : now.groups ≡ map group_of_row (whole_rows rows counts)
    groups_are =
        same_lists now.groups (map group_of_row (whole_rows rows counts))
        (moved.len ∙ (groups_len ∙ sym (length-map (whole_rows rows counts) group_of_row ∙ length_whole rows counts long)))
        (λ k d lt.
        let in_groups : k < length shelf.groups = omega (arith, lt, moved.len) in
        let within : k < length rows = omega (arith, in_groups, groups_len) in
        get_or_default now.groups k d 0 lt
        ∙ (moved.each k in_groups
        ∙ (sym (group_after k within)
        ∙ sym (get_or-map group_of_row (whole_rows rows counts) k (fresh_piece 0) d (omega (arith, within, length_whole rows counts long))))))

    -- so the shelf is that of the rows with the new counts
    pub still_shelved : AreShelved now (whole_rows rows counts)
    still_shelved =
        let unasked = same_sum (λ row. (standing_of row).unasked) (λ n m row. refl) rows shown counts len long in
        let unheld = same_sum (λ row. (standing_of row).unheld) (λ n m row. refl) rows shown counts len long in
        let had = same_sum (λ row. one_if row.had) (λ n m row. refl) rows shown counts len long in
        let left = same_sum (λ row. one_if (not (is_resting row))) (λ n m row. refl) rows shown counts len long in
        record {
          is = rest ∙ (ap (λ (s : ShelfState). record s { groups = now.groups }) are.is ∙ (λ i. record {
            groups = groups_are i;
            unasked = unasked i;
            unheld = unheld i;
            had = had i;
            left = left i;
          }));
          short = omega (arith, are.short, length_whole rows shown len, length_whole rows counts long);
          fit = omega (arith, are.fit, same_sum (λ row. length row.blocks) (λ n m row. refl) rows shown counts len long);
        }

-- ---- what is read of the rows

-- there is room for one more in each count
pub counts_fit : (rows : List PieceState) (shown : List ℕ) → length shown ≡ length rows
    → ((p : ℕ) → p < length (whole_rows rows shown) → (piece_row (whole_rows rows shown) p).availability + 1 < 2 ^ 16)
    → (p : ℕ) → p < length shown → at shown p + 1 < 2 ^ 16
counts_fit rows shown len few p lp =
    let within : p < length rows = omega (arith, lp, len) in
    let count = ap (λ (row : PieceState). row.availability) (whole_at rows shown p (fresh_piece 0) (fresh_piece 0) 0 len within) in
    omega (arith, count, few p (omega (arith, within, length_whole rows shown len)))

-- no piece is in the last group of its level
pub not_crowded : (rows : List PieceState) (shown : List ℕ) → length shown ≡ length rows
    → NoneCrowded 7 (map group_of_row (whole_rows rows shown)) → (p : ℕ) → p < length rows
    → place_in (group_of_row (shown_row (at shown p) (piece_row rows p))) < SPAN - 1
not_crowded rows shown len few p lp =
    let whole = whole_rows rows shown in
    let within : p < length whole = omega (arith, lp, length_whole rows shown len) in
    let group : at (map group_of_row whole) p ≡ group_of_row (shown_row (at shown p) (piece_row rows p)) =
    get_or-map group_of_row whole p (fresh_piece 0) 0 within
    ∙ ap group_of_row (whole_at rows shown p (fresh_piece 0) (fresh_piece 0) 0 len lp) in
    let last = few p (omega (arith, within, length-map whole group_of_row))
    (omega (arith, group, group_few (shown_row (at shown p) (piece_row rows p)))) in
    subst (λ (g : ℕ). place_in g < SPAN - 1) group last
