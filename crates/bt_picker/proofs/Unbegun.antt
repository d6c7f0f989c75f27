-- The groups of unbegun pieces, and the blocks that are yet to be asked, by the history.
use Rattle.std.proofs.Common.{◌≡◌, ℕ, zero, suc, ◌+◌, ◌-◌, ◌<◌, ◌==◌, Bool, true, false, not, ◌&&◌, List, [], ◌∷◌, ◌++◌, length, map, refl, ap, sym}
use Rattle.std.proofs.Common.{◌∙◌, subst, arith}
use Rattle.std.specs.Prelude.{nat_lt, if◌then◌else◌}
use Rattle.std.specs.List.{sum_by}
use Rattle.std.proofs.lemmas.Bool.{eq-eqb, eqb-true, ltb-true, and_from, and_parts, not-true}
use Rattle.std.proofs.lemmas.List.Sums.{sum_by_push}
use Rattle.bt_meta.specs.Layout.{piece_count, block_count, block}
use Rattle.bt_history.specs.Counting.{count_below, sum_below, table}
use Rattle.bt_history.specs.Setting.{Setting, some_block_of}
use Rattle.bt_history.specs.History.{History}
use Rattle.bt_history.specs.Legal.{IsLegal}
use Rattle.bt_history.specs.Pieces.{availability, chosen, had, held_or_asked, level, unasked, unbegun, wanted}
use Rattle.bt_history.proofs.Below.{count_none, count_same, sum_same}
use Rattle.bt_tables.specs.Orders.{at, ListsGroup}
use Rattle.bt_picker.specs.Tables.{AreTables, piece_of, groups_of}
use Rattle.bt_tables.specs.Tables.{PieceState, TablesState}
use Rattle.bt_tables.specs.declared.piece.Stage.TheVariants.{Unbegun}
use Rattle.bt_tables.specs.Standings.{group_number, group_of_row, place_of, standing_of, touched_count}
use Rattle.bt_picker.specs.Unbegun.{is_unbegun_at, ListsUnbegun, unasked_count}
use Rattle.bt_picker.specs.Search.{IsLevel}
use Rattle.bt_picker.proofs.Rarest.{uncrowded}
use Rattle.bt_picker.proofs.Stages.{listed_place, place_listed, stage_unbegun, unbegun_stage}
use Rattle.bt_picker.proofs.Telling.{cells_long, touched_counted, unchosen, wanted_chosen}
use Rattle.bt_tables.specs.declared.piece.TheConstants.{CROWD}
use Rattle.bt_tables.proofs.Tabled.{map_table, table_more}

module _ (s : Setting) (h : History) (l n : ℕ) (pieces : List ℕ) (legal : IsLegal s h) (is : IsLevel l) (under : n < CROWD)
    (lists : ListsGroup (groups_of s h) (group_number l (Unbegun n)) pieces) where
  listed : (i : ℕ) → i < length pieces → is_unbegun_at s h l n (at pieces i) ≡ true
  listed i li =
      let p = at pieces i in
      let place = listed_place s h l (Unbegun n) pieces legal is (omega arith) lists i li in
      let parts = stage_unbegun s h p n place.2 in
      let shown = uncrowded (availability s h p) n under parts.3 in
      and_from (wanted s h p && (level h p == l)) _
      (and_from (wanted s h p) (level h p == l) (wanted_chosen s h p place.0 ∙ parts.1) (eq-eqb (level h p) l place.1))
      (and_from (unbegun s h p) _ (and_from (not (had h p)) _ (ap not parts.0) (ap not parts.2)) (eq-eqb (availability s h p) n shown))

  all_listed : (p : ℕ) → is_unbegun_at s h l n p ≡ true → (i : ℕ) × (i < length pieces) × (at pieces i ≡ p)
  all_listed p known =
      let both = and_parts (wanted s h p && (level h p == l)) (unbegun s h p && (availability s h p == n)) known in
      let wants = and_parts (wanted s h p) (level h p == l) both.0 in
      let picks = and_parts (nat_lt p (piece_count s.torrent)) (chosen h p) wants.0 in
      let lp : p < piece_count s.torrent = ltb-true p (piece_count s.torrent) picks.0 in
      let rest = and_parts (unbegun s h p) (availability s h p == n) both.1 in
      let begins = and_parts (not (had h p)) (not (some_block_of s.torrent p (held_or_asked s h))) rest.0 in
      let shown = eqb-true (availability s h p) n rest.1 in
      let stage = unbegun_stage s h p (not-true (had h p) begins.0) picks.1 (not-true (some_block_of s.torrent p (held_or_asked s h)) begins.1) in
      place_listed s h l (Unbegun n) p pieces lists lp (eqb-true (level h p) l wants.1)
      (ap place_of stage ∙ ap (λ (m : ℕ). place_of (Unbegun m)) shown)

  pub lists_unbegun : ListsUnbegun s h l n pieces
  lists_unbegun = record { each = listed; all = all_listed; once = lists.once }

-- the pieces of a group of tables that are those of the history
pub group_unbegun_of : (t : TablesState) (h : History) (l n : ℕ) (pieces : List ℕ) → AreTables t h → IsLevel l → n < CROWD →
    ListsGroup (map group_of_row t.pieces) (group_number l (Unbegun n)) pieces → ListsUnbegun t.setting h l n pieces
group_unbegun_of t h l n pieces are is under lists =
    let rows : map group_of_row t.pieces ≡ groups_of t.setting h =
    ap (map group_of_row) are.pieces_are ∙ map_table group_of_row (piece_count t.setting.torrent) (piece_of t.setting h) in
    lists_unbegun t.setting h l n pieces are.legal is under
    (subst (λ (groups : List ℕ). ListsGroup groups (group_number l (Unbegun n)) pieces) rows lists)

-- ---- the sum of unasked blocks

sum_table : {A : Type 0} (n : ℕ) (f : ℕ → A) (g : A → ℕ) → sum_by g (table n f) ≡ sum_below n (λ k. g (f k))
sum_table {A = A} zero f g = refl
sum_table {A = A} (suc n) f g =
    let next : suc n ≡ n + 1 = omega arith in
    let more : table (suc n) f ≡ table n f ++ f n ∷ [] = ap (λ m. table m f) next ∙ table_more n f in
    ap (sum_by g) more ∙ (sum_by_push g (table n f) (f n) ∙ ap (λ (m : ℕ). m + g (f n)) (sum_table n f g))

-- those that don't pass are the rest
count_rest : (n : ℕ) (test : ℕ → Bool) → count_below n test + count_below n (λ k. not (test k)) ≡ n
count_rest zero test = refl
count_rest (suc n) test = by_test (test n) (count_rest n test) where
  by_test : (x : Bool) → count_below n test + count_below n (λ k. not (test k)) ≡ n
      → (count_below n test + (if x then 1 else 0)) + (count_below n (λ k. not (test k)) + (if not x then 1 else 0)) ≡ suc n
  by_test true before = omega (arith, before)
  by_test false before = omega (arith, before)

unasked_row : (s : Setting) (h : History) (p : ℕ) → p < piece_count s.torrent
    → (standing_of (piece_of s h p)).unasked ≡ count_below (block_count s.torrent p) (λ k. wanted s h p && unasked s h (block s.torrent p k))
unasked_row s h p lp = by_choice (chosen h p) refl where
  row : PieceState
  row = piece_of s h p

  m : ℕ
  m = block_count s.torrent p

  touched : ℕ → Bool
  touched k = held_or_asked s h (block s.torrent p k)

  by_choice : (x : Bool) → chosen h p ≡ x → (standing_of (piece_of s h p)).unasked ≡ count_below m
      (λ k. wanted s h p && unasked s h (block s.torrent p k))
  by_choice true is =
      let rest = count_rest m touched in
      let left : length row.blocks - touched_count row.blocks ≡ count_below m (λ k. not (touched k)) =
      omega (arith, rest, touched_counted s h p, cells_long s h p) in
      (λ i. (if (unchosen s h p ∙ ap not is) i then 0 else length row.blocks) - touched_count row.blocks)
      ∙ (left ∙ count_same m (λ k. not (touched k)) (λ k. wanted s h p && not (touched k))
      (λ k lk. ap (λ (x : Bool). x && not (touched k)) (sym (wanted_chosen s h p lp ∙ is))))
  by_choice false is =
      (λ i. (if (unchosen s h p ∙ ap not is) i then 0 else length row.blocks) - touched_count row.blocks)
      ∙ (nothing (touched_count row.blocks)
      ∙ sym (count_none m (λ k. wanted s h p && not (touched k)) (λ k lk. ap (λ (x : Bool). x && not (touched k)) (wanted_chosen s h p lp ∙ is))))
    where
      nothing : (k : ℕ) → 0 - k ≡ 0
      nothing k = omega arith

pub unasked_rows : (t : TablesState) (h : History) → AreTables t h → sum_by (λ row. (standing_of row).unasked) t.pieces ≡ unasked_count t.setting h
unasked_rows t h are =
    let s = t.setting in
    ap (sum_by (λ (row : PieceState). (standing_of row).unasked)) are.pieces_are
    ∙ (sum_table (piece_count s.torrent) (piece_of s h) (λ row. (standing_of row).unasked)
    ∙ sum_same (piece_count s.torrent) (λ p. (standing_of (piece_of s h p)).unasked)
    (λ p. count_below (block_count s.torrent p) (λ k. wanted s h p && unasked s h (block s.torrent p k))) (unasked_row s h))
