-- What a piece's row tells by its counts: whether the piece is full, whether it is begun, and the group that it stands in.
use Rattle.std.proofs.Common.{◌≡◌, ◌⊎◌, ℕ, zero, suc, ◌+◌, ◌<◌, ◌≤◌, ◌==◌, Bool, true, false, not, ◌&&◌, ◌||◌, Option, None, Some, List, [], ◌∷◌}
use Rattle.std.proofs.Common.{◌++◌, length, refl, ap, sym, ◌∙◌, subst, arith, ⊎_elim, inl, inr, cond}
use Rattle.std.specs.Prelude.{nat_lt, unwrap_or, if◌then◌else◌}
use Rattle.std.specs.List.{count_by}
use Rattle.std.proofs.lemmas.Bool.{cases_eq, eq-eqb, ne_eqb, eqb-true, lt-ltb, false≢true, and_right}
use Rattle.std.proofs.lemmas.List.Sums.{sum_by_push}
use Rattle.bt_meta.specs.Layout.{piece_count, block_count, block}
use Rattle.bt_history.specs.Counting.{any_below, all_below, count_below, table}
use Rattle.bt_history.specs.Setting.{Setting, some_block_of, each_block_of}
use Rattle.bt_history.specs.History.{History}
use Rattle.bt_history.specs.Pieces.{had, held, full, held_or_asked, availability, chosen, level, wanted, had_count}
use Rattle.bt_history.proofs.Below.{count_most, count_same}
use Rattle.bt_history.proofs.Sending.{sender_held}
use Rattle.bt_picker.specs.Tables.{piece_of, cell_of}
use Rattle.bt_picker.specs.Search.{FindsRarest, IsRarer}
use Rattle.bt_tables.specs.Standings.{is_held, is_touched, held_count, touched_count, stage_of_row}
use Rattle.bt_tables.specs.declared.piece.Stage.{Stage}
use Rattle.bt_tables.specs.declared.piece.Stage.TheVariants.{AskedOut, Open, Resting, Unbegun}
use Rattle.bt_tables.proofs.Tabled.{table_more, length_table}
use Rattle.bt_tables.specs.Orders.{at}
use Rattle.bt_picker.proofs.Cells.{any_counted, asked_counted}

-- ---- counts of tables

pub count_table : {A : Type 0} (n : ℕ) (f : ℕ → A) (test : A → Bool) → count_by test (table n f) ≡ count_below n (λ k. test (f k))
count_table zero f test = refl
count_table (suc n) f test =
    let next : suc n ≡ n + 1 = omega arith in
    let more : table (suc n) f ≡ table n f ++ f n ∷ [] = ap (λ m. table m f) next ∙ table_more n f in
    ap (count_by test) more
    ∙ (sum_by_push (λ x. cond (test x) 1 0) (table n f) (f n) ∙ ap (λ m. m + (if test (f n) then 1 else 0)) (count_table n f test))

-- as many pass as there are where each passes
pub counted_all : (n : ℕ) (test : ℕ → Bool) → (count_below n test == n) ≡ all_below n test
counted_all zero test = refl
counted_all (suc n) test = by_test (test n) (counted_all n test) where
  by_test : (x : Bool) → (count_below n test == n) ≡ all_below n test → (count_below n test + (if x then 1 else 0) == suc n) ≡ (all_below n test && x)
  by_test false before =
      ne_eqb (count_below n test + 0) (suc n) (let most = count_most n test in λ same. omega (arith, most, same))
      ∙ sym (and_right (all_below n test) false refl)
  by_test true before = one (all_below n test) refl where
    one : (y : Bool) → all_below n test ≡ y → (count_below n test + 1 == suc n) ≡ (y && true)
    one true is = eq-eqb (count_below n test + 1) (suc n) (let e : count_below n test ≡ n = eqb-true (count_below n test) n (before ∙ is) in
        omega (arith, e))
    one false is = ne_eqb (count_below n test + 1) (suc n) (λ same.
        false≢true (sym (before ∙ is) ∙ eq-eqb (count_below n test) n (omega (arith, same))))

-- none passes where none is counted
pub counted_none : (n : ℕ) (test : ℕ → Bool) → (count_below n test == 0) ≡ not (any_below n test)
counted_none n test = by_count (count_below n test) refl where
  by_count : (m : ℕ) → count_below n test ≡ m → (m == 0) ≡ not (any_below n test)
  by_count zero is = ap not (sym (any_counted n test ∙ ap (nat_lt 0) is))
  by_count (suc m) is = ne_eqb (suc m) 0 (λ same. omega (arith, same)) ∙
      ap not (sym (any_counted n test ∙ (ap (nat_lt 0) is ∙ lt-ltb 0 (suc m) (omega arith))))

-- a number is 0, or more
none_or_more : (n : ℕ) → (n == 0) ≡ not (nat_lt 0 n)
none_or_more zero = refl
none_or_more (suc n) = ne_eqb (suc n) 0 (λ same. omega (arith, same)) ∙ ap not (sym (lt-ltb 0 (suc n) (omega arith)))

-- ---- the counts of a piece

-- the stage of a piece by four tests: it is had, it is chosen, some block of it is held or asked, and each one is
abbrev pub stage_by : Bool → Bool → Bool → Bool → ℕ → Stage
stage_by had chosen touched full n =
    if had || not chosen then Resting else if not touched then Unbegun n else if full then AskedOut else Open

module _ (s : Setting) (h : History) (p : ℕ) where
  held_is : (k : ℕ) → is_held (cell_of s h (block s.torrent p k)) ≡ held h (block s.torrent p k)
  held_is k = sender_held h (block s.torrent p k)

  touched_is : (k : ℕ) → is_touched (cell_of s h (block s.torrent p k)) ≡ held_or_asked s h (block s.torrent p k)
  touched_is k = λ i. sender_held h (block s.torrent p k) i || sym (asked_counted s h (block s.torrent p k)) i

  pub held_counted : held_count (piece_of s h p).blocks ≡ count_below (block_count s.torrent p) (λ k. held h (block s.torrent p k))
  held_counted =
      count_table (block_count s.torrent p) (λ k. cell_of s h (block s.torrent p k)) is_held
      ∙ count_same (block_count s.torrent p) _ (λ k. held h (block s.torrent p k)) (λ k lk. held_is k)

  pub touched_counted : touched_count (piece_of s h p).blocks ≡ count_below (block_count s.torrent p) (λ k. held_or_asked s h (block s.torrent p k))
  touched_counted =
      count_table (block_count s.torrent p) (λ k. cell_of s h (block s.torrent p k)) is_touched
      ∙ count_same (block_count s.torrent p) _ (λ k. held_or_asked s h (block s.torrent p k)) (λ k lk. touched_is k)

  pub cells_long : length (piece_of s h p).blocks ≡ block_count s.torrent p
  cells_long = length_table (block_count s.torrent p) (λ k. cell_of s h (block s.torrent p k))

  pub full_row : (held_count (piece_of s h p).blocks == length (piece_of s h p).blocks) ≡ full s h p
  full_row = (λ i. held_counted i == cells_long i) ∙ counted_all (block_count s.torrent p) (λ k. held h (block s.torrent p k))

  pub touched_row : nat_lt 0 (touched_count (piece_of s h p).blocks) ≡ some_block_of s.torrent p (held_or_asked s h)
  touched_row = ap (nat_lt 0) touched_counted ∙ sym (any_counted (block_count s.torrent p) (λ k. held_or_asked s h (block s.torrent p k)))

  pub untouched_row : (touched_count (piece_of s h p).blocks == 0) ≡ not (some_block_of s.torrent p (held_or_asked s h))
  untouched_row = ap (λ (n : ℕ). n == 0) touched_counted ∙ counted_none (block_count s.torrent p) (λ k. held_or_asked s h (block s.torrent p k))

  pub all_touched_row : (touched_count (piece_of s h p).blocks == length (piece_of s h p).blocks) ≡ each_block_of s.torrent p (held_or_asked s h)
  all_touched_row = (λ i. touched_counted i == cells_long i) ∙ counted_all (block_count s.torrent p) (λ k. held_or_asked s h (block s.torrent p k))

  -- a piece that isn't chosen has level 0
  pub unchosen : (level h p == 0) ≡ not (chosen h p)
  unchosen = none_or_more (level h p)

  -- the stage of a piece, by the definitions
  pub stage_is : stage_of_row (piece_of s h p)
      ≡ stage_by (had h p) (chosen h p) (some_block_of s.torrent p (held_or_asked s h)) (each_block_of s.torrent p (held_or_asked s h))
      (availability s h p)
  stage_is = λ i. if had h p || unchosen i then Resting else if untouched_row i then Unbegun (availability s h p)
      else if all_touched_row i then AskedOut else Open

  -- a piece of the torrent is wanted where it is chosen
  pub wanted_chosen : p < piece_count s.torrent → wanted s h p ≡ chosen h p
  wanted_chosen lp = ap (λ (x : Bool). x && chosen h p) (lt-ltb p (piece_count s.torrent) lp)

-- how many pieces are had
pub had_rows : (s : Setting) (h : History) → count_by (λ row. row.had) (table (piece_count s.torrent) (piece_of s h)) ≡ had_count s h
had_rows s h = count_table (piece_count s.torrent) (piece_of s h) (λ row. row.had)

-- ---- the search among listed pieces

-- ---- the search for one that ranks first

pub rarer_step : (test : ℕ → Bool) (rank : ℕ → ℕ) (pieces : List ℕ) (n piece : ℕ) (found next : Option ℕ) → piece ≡ at pieces n →
    FindsRarest test rank pieces n found
    → IsRarer test rank found piece next → FindsRarest test rank pieces (n + 1) next
rarer_step test rank pieces n piece found next here so_far step = ⊎_elim
    (λ (new : (next ≡ Some piece) × (test piece ≡ true) × ((b : ℕ) → found ≡ Some b → rank piece ≤ rank b)).
    subst (FindsRarest test rank pieces (n + 1)) (sym new.0) (new.1, (n, omega arith, sym here), changed found so_far new.2))
    (λ (old : (next ≡ found) × ((test piece ≡ false) ⊎ ((b : ℕ) × (found ≡ Some b) × (rank b ≤ rank piece)))).
    subst (FindsRarest test rank pieces (n + 1)) (sym old.0) (kept found so_far old.1))
    step
  where
    changed : (f : Option ℕ) → FindsRarest test rank pieces n f → ((b : ℕ) → f ≡ Some b → rank piece ≤ rank b)
        → (i : ℕ) → i < n + 1 → test (at pieces i) ≡ true → rank piece ≤ rank (at pieces i)
    changed f before less i li passes = ⊎_elim
        (λ (same : i ≡ n). (let equal : rank (at pieces i) ≡ rank piece = ap (λ (j : ℕ). rank (at pieces j)) same ∙ ap rank (sym here) in
        omega (arith, equal)))
        (λ (apart : i ≡ n → ⊥). among f before less (omega (arith, li, apart)))
        (cases_eq i n)
      where
        among : (g : Option ℕ) → FindsRarest test rank pieces n g → ((b : ℕ) → g ≡ Some b → rank piece ≤ rank b) → i < n →
            rank piece ≤ rank (at pieces i)
        among None none below lt = absurd (false≢true (sym (none i lt) ∙ passes))
        among (Some b) some below lt = (let first = below b refl in let rest = some.2 i lt passes in omega (arith, first, rest))

    kept : (f : Option ℕ) → FindsRarest test rank pieces n f → (test piece ≡ false) ⊎ ((b : ℕ) × (f ≡ Some b) × (rank b ≤ rank piece)) →
        FindsRarest test rank pieces (n + 1) f
    kept None none why = λ i li. ⊎_elim
        (λ (same : i ≡ n). ap (λ (j : ℕ). test (at pieces j)) same ∙ (ap test (sym here) ∙ fails why))
        (λ (apart : i ≡ n → ⊥). none i (omega (arith, li, apart)))
        (cases_eq i n)
      where
        fails : (test piece ≡ false) ⊎ ((b : ℕ) × (None ≡ Some b) × (rank b ≤ rank piece)) → test piece ≡ false
        fails (inl is) = is
        fails (inr some) = absurd (cc some.1)
    kept (Some p) some why = (
      some.0,
      (some.1.0, omega (arith, some.1.1), some.1.2),
      λ i li passes. ⊎_elim
          (λ (same : i ≡ n).
          let equal : rank (at pieces i) ≡ rank piece = ap (λ (j : ℕ). rank (at pieces j)) same ∙ ap rank (sym here) in
          let less = last why (ap test here ∙ (ap (λ (j : ℕ). test (at pieces j)) (sym same) ∙ passes)) in
          omega (arith, equal, less))
          (λ (apart : i ≡ n → ⊥). some.2 i (omega (arith, li, apart)) passes)
          (cases_eq i n),
    )
      where
        some_same : (a b : ℕ) → Some a ≡ Some b → a ≡ b
        some_same a b is = ap (λ (o : Option ℕ). unwrap_or o 0) is

        last : (test piece ≡ false) ⊎ ((b : ℕ) × (Some p ≡ Some b) × (rank b ≤ rank piece)) → test piece ≡ true → rank p ≤ rank piece
        last (inl fails) passes = absurd (false≢true (sym fails ∙ passes))
        last (inr other) passes = subst (λ (m : ℕ). rank m ≤ rank piece) (sym (some_same p other.0 other.1)) other.2
