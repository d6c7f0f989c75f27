-- What the rows of all pieces amount to, as one row changes.
use Rattle.std.proofs.Common.{Some, not, ◌≡◌, ℕ, zero, suc, ◌+◌, ◌-◌, ◌<◌, ◌≤◌, ◌^◌, ◌==◌, ◌++◌, Bool, true, false, List, [], ◌∷◌, length, get_or}
use Rattle.std.proofs.Common.{set, map, replicate, refl, ap, sym, ◌∙◌, arith, length-set}
use Rattle.std.specs.Prelude.{if◌then◌else◌}
use Rattle.std.specs.List.{sum_by, count_by}
use Rattle.std.proofs.lemmas.List.{set-get_or, map-set, length-map, append-nil, map-append}
use Rattle.std.proofs.lemmas.List.Sums.{sum_by-set, count_by-le-length, get_or-le-sum_by, sum_by-le-sum_by, sum_by_push}
use Rattle.bt_tables.specs.Orders.{at}
use Rattle.bt_tables.specs.declared.piece.Change.{Change}
use Rattle.bt_tables.specs.declared.piece.Change.TheVariants.{Raise, Lower, Store, Pass, Fail, Level, Lose, Discard}
use Rattle.bt_tables.specs.Tables.{PieceState, changed_row, one_if, one_less, one_more, unheld}
use Rattle.bt_tables.specs.Standings.{Amount, held_count, touched_count, wanted_length, group_of_row, standing_of, ShelfState, shelf_of, IsFiled, AreShelved}
use Rattle.bt_tables.specs.Standings.{AreGrouped, is_resting, no_amount, refiled}
use Rattle.bt_tables.proofs.Tabled.{length_edit}

-- where the group stays, and whether the piece is had and at rest, two sums alone change
pub refiled_beside : (shelf : ShelfState) (p : ℕ) (before after : Amount) → AreGrouped before after → before.group ≡ at shelf.groups p
    → IsFiled shelf before after
    → record shelf {
      unasked = shelf.unasked - before.unasked + after.unasked;
      unheld = shelf.unheld - before.unheld + after.unheld;
    } ≡ refiled shelf p before after
refiled_beside shelf p before after are in_group fits =
    let groups : shelf.groups ≡ set shelf.groups p after.group =
    sym (ap (set shelf.groups p) (sym are.group ∙ in_group) ∙ set-get_or shelf.groups p 0) in
    let had : shelf.had ≡ shelf.had - one_if before.had + one_if after.had = omega (arith, fits.had, ap one_if are.had) in
    let left : shelf.left ≡ shelf.left - one_if before.left + one_if after.left = omega (arith, fits.left, ap one_if are.left) in
    λ i. record {
      groups = groups i;
      unasked = shelf.unasked - before.unasked + after.unasked;
      unheld = shelf.unheld - before.unheld + after.unheld;
      had = had i;
      left = left i;
    }

-- no change makes a piece longer
pub same_length : (change : Change) (row : PieceState) → length (changed_row change row).blocks ≡ length row.blocks
same_length (Raise index) row = length_edit row.blocks index one_more
same_length (Lower index) row = length_edit row.blocks index one_less
same_length (Store index sender) row = length-set row.blocks index (record { sender = Some sender; askers = 0 })
same_length Pass row = refl
same_length Fail row = length-map row.blocks unheld
same_length Lose row = length-map row.blocks unheld
same_length (Discard index) row = length_edit row.blocks index unheld
same_length (Level n) row = refl

-- an element's part of a sum
pub sum_part : {A : Type 0} (f : A → ℕ) (xs : List A) (i : ℕ) (x : A) → i < length xs → x ≡ get_or xs i x → f x ≤ sum_by f xs
sum_part f xs i x lt is =
    let same : f (get_or xs i x) ≡ f x = ap f (sym is) in
    omega (arith, get_or-le-sum_by f xs i x lt)

-- a sum once an element is another
pub sum_moved : {A : Type 0} (f : A → ℕ) (xs : List A) (i : ℕ) (x y : A) → i < length xs → x ≡ get_or xs i x
    → sum_by f xs - f x + f y ≡ sum_by f (set xs i y)
sum_moved f xs i x y lt is =
    let same : f (get_or xs i x) ≡ f x = ap f (sym is) in
    omega (arith, sum_by-set f xs i y x lt, sum_part f xs i x lt is)

abbrev unasked_of : PieceState → ℕ
unasked_of row = wanted_length row - touched_count row.blocks

abbrev unheld_of : PieceState → ℕ
unheld_of row = wanted_length row - held_count row.blocks

abbrev had_of : PieceState → ℕ
had_of row = one_if row.had

abbrev left_of : PieceState → ℕ
left_of row = one_if (not (is_resting row))

abbrev blocks_of : PieceState → ℕ
blocks_of row = length row.blocks

wanted_most : (row : PieceState) → wanted_length row ≤ blocks_of row
wanted_most row = either (row.level == 0) (length row.blocks) where
  either : (x : Bool) (n : ℕ) → (if x then 0 else n) ≤ n
  either true n = omega arith
  either false n = omega arith

unasked_most : (row : PieceState) → unasked_of row ≤ blocks_of row
unasked_most row = (let most = wanted_most row in omega (arith, most))

unheld_most : (row : PieceState) → unheld_of row ≤ blocks_of row
unheld_most row = (let most = wanted_most row in omega (arith, most))

module _ (rows : List PieceState) (p : ℕ) (old new : PieceState) (lp : p < length rows) (read : old ≡ get_or rows p old)
    (same : length new.blocks ≡ length old.blocks) where
  -- the lengths of the rows stay, and with them their sum
  pub still_fit : sum_by blocks_of (set rows p new) ≡ sum_by blocks_of rows
  still_fit =
      let here : blocks_of (get_or rows p old) ≡ blocks_of old = ap blocks_of (sym read) in
      omega (arith, sum_by-set blocks_of rows p new old lp)

  pub filed : AreShelved (shelf_of rows) rows → IsFiled (shelf_of rows) (standing_of old) (standing_of new)
  filed are =
      let unasked = sum_moved unasked_of rows p old new lp read in
      let unheld = sum_moved unheld_of rows p old new lp read in
      let had = sum_moved had_of rows p old new lp read in
      let few = count_by-le-length (λ (row : PieceState). row.had) (set rows p new) in
      let left = sum_moved left_of rows p old new lp read in
      let few_left = count_by-le-length (λ (row : PieceState). not (is_resting row)) (set rows p new) in
      let len = length-set rows p new in
      record {
        unasked = sum_part unasked_of rows p old lp read;
        unheld = sum_part unheld_of rows p old lp read;
        had = sum_part had_of rows p old lp read;
        left = sum_part left_of rows p old lp read;
        unasked_fits = omega (arith, unasked, sum_by-le-sum_by unasked_of blocks_of (set rows p new) (λ row. unasked_most row), still_fit, are.fit);
        unheld_fits = omega (arith, unheld, sum_by-le-sum_by unheld_of blocks_of (set rows p new) (λ row. unheld_most row), still_fit, are.fit);
        had_fits = omega (arith, had, few, len, are.short);
        left_fits = omega (arith, left, few_left, len, are.short);
      }

  pub shelved : record {
    groups = set (map group_of_row rows) p (group_of_row new);
    unasked = sum_by unasked_of rows - unasked_of old + unasked_of new;
    unheld = sum_by unheld_of rows - unheld_of old + unheld_of new;
    had = sum_by had_of rows - had_of old + had_of new;
    left = sum_by left_of rows - left_of old + left_of new;
  } ≡ shelf_of (set rows p new)
  shelved =
      let groups = sym (map-set group_of_row rows p new) in
      let unasked = sum_moved unasked_of rows p old new lp read in
      let unheld = sum_moved unheld_of rows p old new lp read in
      let had = sum_moved had_of rows p old new lp read in
      let left = sum_moved left_of rows p old new lp read in
      λ i. record { groups = groups i; unasked = unasked i; unheld = unheld i; had = had i; left = left i }

  pub still_shelved : (shelf : ShelfState) → AreShelved (shelf_of rows) rows → shelf ≡ shelf_of (set rows p new) → AreShelved shelf (set rows p new)
  still_shelved shelf are is = record {
    is = is;
    short = omega (arith, length-set rows p new, are.short);
    fit = omega (arith, still_fit, are.fit);
  }

-- a row's change can be put on the shelf
pub can_file : (shelf : ShelfState) (rows : List PieceState) (p : ℕ) (old new : PieceState) (before after : Amount) → AreShelved shelf rows →
    p < length rows → old ≡ get_or rows p old
    → before ≡ standing_of old → after ≡ standing_of new → length new.blocks ≡ length old.blocks → IsFiled shelf before after
can_file shelf rows p old new before after are lp read before_is after_is same =
    let own : AreShelved (shelf_of rows) rows = rw (are.is) at are in
    rw (are.is, before_is, after_is) (filed rows p old new lp read same own)

-- and then the shelf is that of the rows again
pub files : (shelf now : ShelfState) (rows : List PieceState) (p : ℕ) (old new : PieceState) (before after : Amount) → AreShelved shelf rows →
    p < length rows → old ≡ get_or rows p old
    → before ≡ standing_of old → after ≡ standing_of new → length new.blocks ≡ length old.blocks
    → now ≡ refiled shelf p before after → AreShelved now (set rows p new)
files shelf now rows p old new before after are lp read before_is after_is same is =
    let own : AreShelved (shelf_of rows) rows = rw (are.is) at are in
    still_shelved rows p old new lp read same now own ((rw (are.is, before_is, after_is) at is) ∙ shelved rows p old new lp read same)

-- ---- a shelf that is filled row by row

-- the place behind a list is filled
pub fill_more : (xs : List ℕ) (n g : ℕ) → 0 < n → set (xs ++ replicate n 0) (length xs) g ≡ (xs ++ g ∷ []) ++ replicate (n - 1) 0
fill_more [] zero g some = absurd (omega arith)
fill_more [] (suc n) g some = ap (λ (m : ℕ). g ∷ replicate m 0) (less n) where
  less : (m : ℕ) → m ≡ suc m - 1
  less m = omega arith
fill_more (x ∷ xs) n g some = ap (λ (l : List ℕ). x ∷ l) (fill_more xs n g some)

-- and before it no group was told of it
pub none_filed : (xs : List ℕ) (n i : ℕ) → length xs ≡ i → at (xs ++ replicate n 0) i ≡ 0
none_filed xs n i is = ap (at (xs ++ replicate n 0)) (sym is) ∙ behind xs n where
  behind : (ys : List ℕ) (m : ℕ) → at (ys ++ replicate m 0) (length ys) ≡ 0
  behind [] zero = refl
  behind [] (suc m) = refl
  behind (y ∷ ys) m = behind ys m

-- the shelf of these rows, and of so many pieces more that have not come yet
abbrev pub filling : List PieceState → ℕ → ShelfState
filling rows n = record {
  groups = map group_of_row rows ++ replicate n 0;
  unasked = sum_by (λ row. (standing_of row).unasked) rows;
  unheld = sum_by (λ row. (standing_of row).unheld) rows;
  had = count_by (λ row. row.had) rows;
  left = count_by (λ row. not (is_resting row)) rows;
}

pub shelf_more : (rows : List PieceState) (row : PieceState) (n p : ℕ) → length rows ≡ p → 0 < n
    → refiled (filling rows n) p no_amount (standing_of row) ≡ filling (rows ++ row ∷ []) (n - 1)
shelf_more rows row n p len some =
    let mapped = length-map rows group_of_row in
    let at : p ≡ length (map group_of_row rows) = omega arith in
    let groups : set (map group_of_row rows ++ replicate n 0) p (group_of_row row) ≡ map group_of_row (rows ++ row ∷ []) ++ replicate (n - 1) 0 =
    ap (λ (i : ℕ). set (map group_of_row rows ++ replicate n 0) i (group_of_row row)) at
    ∙ (fill_more (map group_of_row rows) n (group_of_row row) some ∙
    ap (λ (l : List ℕ). l ++ replicate (n - 1) 0) (sym (map-append group_of_row rows (row ∷ [])))) in
    let unasked : sum_by unasked_of rows - 0 + unasked_of row ≡ sum_by unasked_of (rows ++ row ∷ []) =
    omega (arith, sum_by_push unasked_of rows row) in
    let unheld : sum_by unheld_of rows - 0 + unheld_of row ≡ sum_by unheld_of (rows ++ row ∷ []) = omega (arith, sum_by_push unheld_of rows row) in
    let had : sum_by had_of rows - 0 + had_of row ≡ sum_by had_of (rows ++ row ∷ []) = omega (arith, sum_by_push had_of rows row) in
    let left : sum_by left_of rows - 0 + left_of row ≡ sum_by left_of (rows ++ row ∷ []) = omega (arith, sum_by_push left_of rows row) in
    λ i. record { groups = groups i; unasked = unasked i; unheld = unheld i; had = had i; left = left i }

pub shelf_fits : (rows : List PieceState) (row : PieceState) (n : ℕ) → length rows + 1 < 2 ^ 32 →
    sum_by (λ r. length r.blocks) (rows ++ row ∷ []) < 2 ^ 64
    → IsFiled (filling rows n) no_amount (standing_of row)
shelf_fits rows row n short fit =
    let few = count_by-le-length (λ (r : PieceState). r.had) rows in
    let one : had_of row ≤ 1 = at_most (row.had) in
    let few_left = count_by-le-length (λ (r : PieceState). not (is_resting r)) rows in
    let one_left : left_of row ≤ 1 = at_most (not (is_resting row)) in
    record {
      unasked = omega arith;
      unheld = omega arith;
      had = omega arith;
      left = omega arith;
      unasked_fits = omega (
        arith,
        sum_by_push unasked_of rows row,
        sum_by-le-sum_by unasked_of blocks_of (rows ++ row ∷ []) (λ r. unasked_most r),
        fit,
      );
      unheld_fits = omega (arith, sum_by_push unheld_of rows row, sum_by-le-sum_by unheld_of blocks_of (rows ++ row ∷ []) (λ r. unheld_most r), fit);
      had_fits = omega (arith, few, one, short);
      left_fits = omega (arith, few_left, one_left, short);
    }
  where
    at_most : (b : Bool) → one_if b ≤ 1
    at_most true = omega arith
    at_most false = omega arith

pub shelf_whole : (rows : List PieceState) (n : ℕ) → n ≡ 0 → filling rows n ≡ shelf_of rows
shelf_whole rows n none =
    let groups : map group_of_row rows ++ replicate n 0 ≡ map group_of_row rows =
    ap (λ (m : ℕ). map group_of_row rows ++ replicate m 0) none ∙ append-nil (map group_of_row rows) in
    λ i. record {
      groups = groups i;
      unasked = sum_by unasked_of rows;
      unheld = sum_by unheld_of rows;
      had = sum_by had_of rows;
      left = sum_by left_of rows;
    }
