-- What is counted of all rows for endgame, and the pieces whose lacking blocks are all asked.
use Rattle.std.proofs.Common.{◌≡◌, ℕ, zero, suc, ◌+◌, ◌-◌, ◌*◌, ◌<◌, ◌≤◌, ◌==◌, Bool, true, false, not, ◌&&◌, ◌||◌, ◌⊎◌, Option, None, Some, List, []}
use Rattle.std.proofs.Common.{◌∷◌, ◌++◌, length, refl, ap, sym, ◌∙◌, subst, arith, inl, inr, ⊎_elim}
use Rattle.std.specs.Prelude.{IfSome, nat_le, nat_lt, if◌then◌else◌}
use Rattle.std.specs.List.{sum_by}
use Rattle.std.proofs.lemmas.Bool.{cases_eq, cases_lt, eq-eqb, ne_eqb, le-ltb, lt-ltb, false≢true, false_from_ne_true, and_from, and_left, and_parts}
use Rattle.std.proofs.lemmas.List.Sums.{sum_by_push, count_by-le-length}
use Rattle.bt_meta.specs.declared.block.Block.{Block}
use Rattle.bt_meta.specs.Layout.{piece_count, block_count, block, block_size}
use Rattle.bt_history.specs.Counting.{any_below, all_below, count_below, table}
use Rattle.bt_history.specs.Setting.{Setting, is_block, some_block, some_block_of, each_block, each_block_of}
use Rattle.bt_history.specs.History.{History}
use Rattle.bt_history.specs.Peers.{reach, shows, asked}
use Rattle.bt_history.specs.Pieces.{had, asker_count, begun, gives, held, held_or_asked, awaited, chosen, level, wanted, endgame}
use Rattle.bt_history.specs.Legal.{IsLegal}
use Rattle.bt_history.specs.Next.{doubles}
use Rattle.bt_history.proofs.Below.{any_found, any_none, any_witness, all_found, all_at, any_same, count_at}
use Rattle.bt_history.proofs.Endgame.{shown_awaited}
use Rattle.bt_history.proofs.HeldLaws.{had_full}
use Rattle.bt_tables.specs.Tables.{one_if, PieceState}
use Rattle.bt_picker.specs.Tables.{piece_of, groups_of}
use Rattle.bt_tables.specs.Standings.{group_number, place_of, stage_of_row, is_held, is_touched, standing_of, held_count, touched_count}
use Rattle.bt_tables.specs.declared.piece.Stage.TheVariants.{AskedOut}
use Rattle.bt_picker.proofs.Levelled.{Covers}
use Rattle.bt_picker.proofs.Stages.{begun_stage, listed_place, place_listed}
use Rattle.bt_picker.specs.Search.{DoublesFirst, DoublesNone, FindsAmong, FindsLesser, IsLevel, NoneBeforeIn}
use Rattle.bt_tables.specs.Orders.{at, ListsGroup}
use Rattle.bt_picker.proofs.Scans.{finds_in_piece, first_in_piece, none_in_pieces}
use Rattle.bt_tables.proofs.Tabled.{table_more}
use Rattle.bt_picker.proofs.Telling.{unchosen, wanted_chosen, full_row, all_touched_row, cells_long, counted_all, held_counted}

-- ---- in endgame a piece with a block to ask again has all its lacking blocks asked

implied : (w x : Bool) → (not w || x) ≡ true → w ≡ true → x ≡ true
implied true x is wt = is
implied false x is wt = absurd (cc wt)

double_parts : (w v a d : Bool) → (w && (v && (not a && d))) ≡ true → (v ≡ true) × (a ≡ false) × (w ≡ true)
double_parts false v a d is = absurd (cc is)
double_parts true false a d is = absurd (cc is)
double_parts true true true d is = absurd (cc is)
double_parts true true false d is = (refl, refl, refl)

pub doubles_stage : (s : Setting) (h : History) (q p : ℕ) → IsLegal s h → q < s.workers → p < piece_count s.torrent → endgame s h ≡ true →
    some_block_of s.torrent p (doubles s h q) ≡ true
    → (shows h q p ≡ true) × (stage_of_row (piece_of s h p) ≡ AskedOut) × (begun s h p ≡ true)
doubles_stage s h q p legal lq lp ending some =
    let found = any_witness (block_count s.torrent p) (λ k. doubles s h q (block s.torrent p k)) some in
    let k = found.0 in
    let b = block s.torrent p k in
    let parts = double_parts (wanted s h p) (gives h q p) (held h b) (nat_lt (asker_count s h b) s.askers && not (asked h q b)) found.2 in
    let shown = (and_parts (shows h q p) (nat_le (level h p) (reach h q)) parts.0).0 in
    let all = (and_parts (each_block s.torrent (λ c. not (awaited s h c.piece) || held_or_asked s h c))
    (some_block s.torrent (λ c. wanted s h c.piece && not (held h c))) ending).0 in
    let mine = all_at (piece_count s.torrent) (λ r. each_block_of s.torrent r (λ c. not (awaited s h c.piece) || held_or_asked s h c)) p all lp in
    let each : (j : ℕ) → j < block_count s.torrent p → held_or_asked s h (block s.torrent p j) ≡ true = λ j lj.
    implied (awaited s h p) (held_or_asked s h (block s.torrent p j))
    (all_at (block_count s.torrent p) (λ i. not (awaited s h p) || held_or_asked s h (block s.torrent p i)) j mine lj) (shown_awaited s h q p legal lq shown parts.2) in
    let touched = any_found (block_count s.torrent p) (λ j. held_or_asked s h (block s.torrent p j)) k found.1 (each k found.1) in
    let all_touched = all_found (block_count s.torrent p) (λ j. held_or_asked s h (block s.torrent p j)) each in
    let not_had = never (had h p) refl (λ was. false≢true (sym parts.1 ∙ had_full s h p k legal was found.1)) in
    let picked = sym (wanted_chosen s h p lp) ∙ parts.2 in (
      shown,
      begun_stage s h p true not_had picked touched all_touched,
      and_from (not (had h p)) _ (ap not not_had) touched,
    )
  where
    never : (x : Bool) → had h p ≡ x → (had h p ≡ true → ⊥) → had h p ≡ false
    never false is fails = is
    never true is fails = absurd (fails is)

-- ---- the search among the pieces of that group

pub among_step : (t : _) (test : Block → Bool) (pieces : List ℕ) (n : ℕ) (found next : Option Block) → at pieces n < piece_count t
    → FindsAmong t test pieces n found → FindsLesser t test found (at pieces n) next → FindsAmong t test pieces (n + 1) next
among_step t test pieces n found next lp so_far (inr (b, is, finds, later)) =
    let inside = finds_in_piece t test (at pieces n) b finds lp in
    let own : b.piece ≡ at pieces n = ap (λ (c : Block). c.piece) finds.2 in
    subst (FindsAmong t test pieces (n + 1)) (sym is) (
      inside.0,
      inside.1,
      (n, omega arith, sym own),
      λ i li. ⊎_elim
          (λ (same : i ≡ n). subst (NoneBeforeIn t test b) (ap (λ (j : ℕ). at pieces j) (sym same)) (first_in_piece t (at pieces n) test b finds))
          (λ (apart : i ≡ n → ⊥). among found so_far later i (omega (arith, li, apart)) own)
          (cases_eq i n),
    )
  where
    among : (f : Option Block) → FindsAmong t test pieces n f → ((c : Block) → f ≡ Some c → at pieces n ≤ c.piece) → (i : ℕ) → i < n
        → b.piece ≡ at pieces n → NoneBeforeIn t test b (at pieces i)
    among None none later i li own k lk passes =
        absurd (false≢true (sym (none i li) ∙ any_found (block_count t (at pieces i)) (λ j. test (block t (at pieces i) j)) k lk passes))
    among (Some c) some later i li own k lk passes =
        let le = later c refl in ⊎_elim
        (λ (more : c.piece < at pieces i). inl (omega (arith, le, own, more)))
        (λ (here : (c.piece ≡ at pieces i) × (c.begin ≤ block_size * k)). ⊎_elim
        (λ (equal : at pieces n ≡ at pieces i).
        let index : k < block_count t (at pieces n) = subst (λ (p : ℕ). k < block_count t p) (sym equal) lk in
        let passed : test (block t (at pieces n) k) ≡ true = ap (λ (p : ℕ). test (block t p k)) equal ∙ passes in
        subst (λ (p : ℕ). (b.piece < p) ⊎ ((b.piece ≡ p) × (b.begin ≤ block_size * k))) equal
        (first_in_piece t (at pieces n) test b finds k index passed))
        (λ (apart : at pieces n ≡ at pieces i → ⊥). inl (omega (arith, le, own, here.0, apart)))
        (cases_eq (at pieces n) (at pieces i)))
        (some.3 i li k lk passes)
among_step t test pieces n found next lp so_far (inl (is, why)) = subst (FindsAmong t test pieces (n + 1)) (sym is) (kept found so_far why) where
  kept : (f : Option Block) → FindsAmong t test pieces n f
      → (some_block_of t (at pieces n) test ≡ false) ⊎ ((b : Block) × (f ≡ Some b) × (b.piece < at pieces n))
      → FindsAmong t test pieces (n + 1) f
  kept None none why = λ i li. ⊎_elim
      (λ (same : i ≡ n). ap (λ (j : ℕ). some_block_of t (at pieces j) test) same ∙ fails why)
      (λ (apart : i ≡ n → ⊥). none i (omega (arith, li, apart)))
      (cases_eq i n)
    where
      fails : (some_block_of t (at pieces n) test ≡ false) ⊎ ((b : Block) × (None ≡ Some b) × (b.piece < at pieces n))
          → some_block_of t (at pieces n) test ≡ false
      fails (inl none_of) = none_of
      fails (inr some) = absurd (cc some.1)
  kept (Some c) some why = (
    some.0,
    some.1,
    (some.2.0, omega (arith, some.2.1), some.2.2),
    λ i li. ⊎_elim
        (λ (same : i ≡ n). subst (NoneBeforeIn t test c) (ap (λ (j : ℕ). at pieces j) (sym same)) (last why))
        (λ (apart : i ≡ n → ⊥). some.3 i (omega (arith, li, apart)))
        (cases_eq i n),
  )
    where
      last : (some_block_of t (at pieces n) test ≡ false) ⊎ ((b : Block) × (Some c ≡ Some b) × (b.piece < at pieces n))
          → NoneBeforeIn t test c (at pieces n)
      last (inl none_of) k lk passes =
          absurd (false≢true (sym none_of ∙ any_found (block_count t (at pieces n)) (λ j. test (block t (at pieces n) j)) k lk passes))
      last (inr (b, same, less)) k lk passes =
          let equal : c.piece ≡ b.piece = cc same in
          inl (omega (arith, less, equal))

pub among_some : (t : _) (test : Block → Bool) (pieces : List ℕ) (n : ℕ) (found : Option Block) → FindsAmong t test pieces n found
    → IfSome found (λ b. (is_block t b ≡ true) × (test b ≡ true))
among_some t test pieces n None so_far = tt
among_some t test pieces n (Some b) so_far = (so_far.0, so_far.1)

-- what was found among them is of that level, and the first block of it to ask again
pub doubles_least : (s : Setting) (h : History) (q n : ℕ) (pieces : List ℕ) (b : Block) → IsLegal s h → q < s.workers → IsLevel n → endgame s h ≡ true →
    ListsGroup (groups_of s h) (group_number n AskedOut) pieces
    → FindsAmong s.torrent (doubles s h q) pieces (length pieces) (Some b)
    → DoublesFirst s h q n b
doubles_least s h q n pieces b legal lq is_level ending lists found =
    let place = listed_place s h n AskedOut pieces legal is_level (omega arith) lists found.2.0 found.2.1 in (
      ap (level h) (sym found.2.2) ∙ place.1,
      λ p lp same k lk is.
          let stage = doubles_stage s h q p legal lq lp ending (any_found (block_count s.torrent p) (λ j. doubles s h q (block s.torrent p j)) k lk is) in
          let listed = place_listed s h n AskedOut p pieces lists lp same (ap place_of stage.1) in
          subst (NoneBeforeIn s.torrent (doubles s h q) b) listed.2 (found.3 listed.0 listed.1) k lk is,
    )

-- where nothing was found among the pieces of the level whose lacking blocks are all asked, no piece of the level has a block to ask again
pub doubles_none : (s : Setting) (h : History) (q n : ℕ) (pieces : List ℕ) → IsLegal s h → q < s.workers → endgame s h ≡ true →
    ListsGroup (groups_of s h) (group_number n AskedOut) pieces
    → FindsAmong s.torrent (doubles s h q) pieces (length pieces) None → DoublesNone s h q n
doubles_none s h q n pieces legal lq ending lists none p lp same = false_from_ne_true (some_block_of s.torrent p (doubles s h q)) (λ is.
    let stage = doubles_stage s h q p legal lq lp ending is in
    let listed = place_listed s h n AskedOut p pieces lists lp same (ap place_of stage.1) in
    false≢true (sym (none listed.0 listed.1) ∙ (ap (λ (r : ℕ). some_block_of s.torrent r (doubles s h q)) listed.2 ∙ is)))

-- so where no level has one there is none
pub doubling_none : (s : Setting) (h : History) (q slot : ℕ) → Covers s h slot
    → ((p : ℕ) → p < piece_count s.torrent → 7 - slot < level h p → some_block_of s.torrent p (doubles s h q) ≡ false)
    → some_block s.torrent (doubles s h q) ≡ false
doubling_none s h q slot covers above = none_in_pieces s.torrent (doubles s h q) (λ p lp. ⊎_elim
    (λ (some : 0 < level h p). above p lp (covers p lp some))
    (λ (none : level h p ≤ 0). any_none (block_count s.torrent p) (λ k. doubles s h q (block s.torrent p k)) (λ k lk.
    and_left (wanted s h p) _ (wanted_chosen s h p lp ∙ le-ltb 0 (level h p) none)))
    (cases_lt 0 (level h p)))

-- ---- sums over a table

zero_sum : (a b : ℕ) → (a + b == 0) ≡ ((a == 0) && (b == 0))
zero_sum zero b = ap (λ (m : ℕ). m == 0) (omega arith)
zero_sum (suc a) b = ne_eqb (suc a + b) 0 (λ same. omega (arith, same)) ∙
    sym (and_left (suc a == 0) (b == 0) (ne_eqb (suc a) 0 (λ same. omega (arith, same))))

-- a sum over a table is 0 where each term is
pub zero_table : {A : Type 0} (n : ℕ) (f : ℕ → A) (g : A → ℕ) → (sum_by g (table n f) == 0) ≡ all_below n (λ k. g (f k) == 0)
zero_table {A = A} zero f g = refl
zero_table {A = A} (suc n) f g =
    let next : suc n ≡ n + 1 = omega arith in
    let more : table (suc n) f ≡ table n f ++ f n ∷ [] = ap (λ m. table m f) next ∙ table_more n f in
    ap (λ (xs : List A). sum_by g xs == 0) more
    ∙ (ap (λ (m : ℕ). m == 0) (sum_by_push g (table n f) (f n))
    ∙ (zero_sum (sum_by g (table n f)) (g (f n)) ∙ ap (λ (x : Bool). x && (g (f n) == 0)) (zero_table n f g)))

all_same : (n : ℕ) (f g : ℕ → Bool) → ((k : ℕ) → k < n → f k ≡ g k) → all_below n f ≡ all_below n g
all_same zero f g h = refl
all_same (suc n) f g h = λ i. all_same n f g (λ k lt. h k (omega arith)) i && h n (omega arith) i

not_all : (n : ℕ) (test : ℕ → Bool) → not (all_below n test) ≡ any_below n (λ k. not (test k))
not_all zero test = refl
not_all (suc n) test = not_both (all_below n test) (test n) ∙ ap (λ (x : Bool). x || not (test n)) (not_all n test) where
  not_both : (a b : Bool) → not (a && b) ≡ (not a || not b)
  not_both true b = refl
  not_both false b = refl

-- what is left of the cells is nothing where as many are counted as there are
left_none : (n m : ℕ) → m ≤ n → (n - m == 0) ≡ (m == n)
left_none n m le = ⊎_elim
    (λ (same : m ≡ n). eq-eqb (n - m) 0 (omega (arith, same)) ∙ sym (eq-eqb m n same))
    (λ (apart : m ≡ n → ⊥). ne_eqb (n - m) 0 (λ none. apart (omega (arith, none, le))) ∙ sym (ne_eqb m n apart))
    (cases_eq m n)

touched_most : (s : Setting) (h : History) (p : ℕ) → touched_count (piece_of s h p).blocks ≤ length (piece_of s h p).blocks
touched_most s h p = count_by-le-length is_touched (piece_of s h p).blocks

held_most : (s : Setting) (h : History) (p : ℕ) → held_count (piece_of s h p).blocks ≤ length (piece_of s h p).blocks
held_most s h p = count_by-le-length is_held (piece_of s h p).blocks

-- the unasked blocks of a wanted piece are none where each block is held or asked
unasked_none : (s : Setting) (h : History) (p : ℕ) → p < piece_count s.torrent
    → ((standing_of (piece_of s h p)).unasked == 0) ≡ each_block_of s.torrent p (λ b. not (wanted s h b.piece) || held_or_asked s h b)
unasked_none s h p lp = by_choice (chosen h p) refl where
  row : PieceState
  row = piece_of s h p

  by_choice : (x : Bool) → chosen h p ≡ x
      → ((standing_of (piece_of s h p)).unasked == 0) ≡ each_block_of s.torrent p (λ b. not (wanted s h b.piece) || held_or_asked s h b)
  by_choice true is =
      (λ i. (if (unchosen s h p ∙ ap not is) i then 0 else length row.blocks) - touched_count row.blocks == 0)
      ∙ (left_none (length row.blocks) (touched_count row.blocks) (touched_most s h p)
      ∙ (all_touched_row s h p
      ∙ all_same (block_count s.torrent p) (λ k. held_or_asked s h (block s.torrent p k))
      (λ k. not (wanted s h p) || held_or_asked s h (block s.torrent p k)) (λ k lk.
      ap (λ (x : Bool). not x || held_or_asked s h (block s.torrent p k)) (sym (wanted_chosen s h p lp ∙ is)))))
  by_choice false is =
      (λ i. (if (unchosen s h p ∙ ap not is) i then 0 else length row.blocks) - touched_count row.blocks == 0)
      ∙ (nothing (touched_count row.blocks)
      ∙ sym (all_found (block_count s.torrent p) (λ k. not (wanted s h p) || held_or_asked s h (block s.torrent p k)) (λ k lk.
      ap (λ (x : Bool). not x || held_or_asked s h (block s.torrent p k)) (wanted_chosen s h p lp ∙ is))))
    where
      nothing : (n : ℕ) → (0 - n == 0) ≡ true
      nothing n = eq-eqb (0 - n) 0 (omega arith)

-- of a wanted piece some block isn't held where one is lacking
unheld_some : (s : Setting) (h : History) (p : ℕ) → p < piece_count s.torrent
    → not ((standing_of (piece_of s h p)).unheld == 0) ≡ some_block_of s.torrent p (λ b. wanted s h b.piece && not (held h b))
unheld_some s h p lp = by_choice (chosen h p) refl where
  row : PieceState
  row = piece_of s h p

  by_choice : (x : Bool) → chosen h p ≡ x
      → not ((standing_of (piece_of s h p)).unheld == 0) ≡ some_block_of s.torrent p (λ b. wanted s h b.piece && not (held h b))
  by_choice true is =
      (λ i. not ((if (unchosen s h p ∙ ap not is) i then 0 else length row.blocks) - held_count row.blocks == 0))
      ∙ (ap not (left_none (length row.blocks) (held_count row.blocks) (held_most s h p) ∙ full_row s h p)
      ∙ (not_all (block_count s.torrent p) (λ k. held h (block s.torrent p k))
      ∙ any_same (block_count s.torrent p) (λ k. not (held h (block s.torrent p k))) (λ k. wanted s h p && not (held h (block s.torrent p k)))
      (λ k lk.
      ap (λ (x : Bool). x && not (held h (block s.torrent p k))) (sym (wanted_chosen s h p lp ∙ is)))))
  by_choice false is =
      (λ i. not ((if (unchosen s h p ∙ ap not is) i then 0 else length row.blocks) - held_count row.blocks == 0))
      ∙ (nothing (held_count row.blocks)
      ∙ sym (any_none (block_count s.torrent p) (λ k. wanted s h p && not (held h (block s.torrent p k))) (λ k lk.
      ap (λ (x : Bool). x && not (held h (block s.torrent p k))) (wanted_chosen s h p lp ∙ is))))
    where
      nothing : (n : ℕ) → not (0 - n == 0) ≡ false
      nothing n = ap not (eq-eqb (0 - n) 0 (omega arith))

pub all_asked_rows : (s : Setting) (h : History) → (sum_by (λ row. (standing_of row).unasked) (table (piece_count s.torrent) (piece_of s h)) == 0)
    ≡ each_block s.torrent (λ b. not (wanted s h b.piece) || held_or_asked s h b)
all_asked_rows s h =
    zero_table (piece_count s.torrent) (piece_of s h) (λ row. (standing_of row).unasked)
    ∙ all_same (piece_count s.torrent) (λ p. (standing_of (piece_of s h p)).unasked == 0)
    (λ p. each_block_of s.torrent p (λ b. not (wanted s h b.piece) || held_or_asked s h b)) (unasked_none s h)

pub some_lacking_rows : (s : Setting) (h : History) → nat_lt 0
    (sum_by (λ row. (standing_of row).unheld) (table (piece_count s.torrent) (piece_of s h)))
    ≡ some_block s.torrent (λ b. wanted s h b.piece && not (held h b))
some_lacking_rows s h =
    above_zero (sum_by (λ row. (standing_of row).unheld) (table (piece_count s.torrent) (piece_of s h)))
    ∙ (ap not (zero_table (piece_count s.torrent) (piece_of s h) (λ row. (standing_of row).unheld))
    ∙ (not_all (piece_count s.torrent) (λ p. (standing_of (piece_of s h p)).unheld == 0)
    ∙ any_same (piece_count s.torrent) (λ p. not ((standing_of (piece_of s h p)).unheld == 0))
    (λ p. some_block_of s.torrent p (λ b. wanted s h b.piece && not (held h b))) (unheld_some s h)))
  where
    above_zero : (m : ℕ) → nat_lt 0 m ≡ not (m == 0)
    above_zero zero = refl
    above_zero (suc m) = lt-ltb 0 (suc m) (omega arith) ∙ ap not (sym (ne_eqb (suc m) 0 (λ same. omega (arith, same))))

-- ---- a piece that lacks one block

-- where block i isn't held, each other one is where one block isn't
pub one_lacking : (s : Setting) (h : History) (p i : ℕ) → i < block_count s.torrent p → held h (block s.torrent p i) ≡ false
    → (held_count (piece_of s h p).blocks + 1 == length (piece_of s h p).blocks) ≡ each_block_of s.torrent p
    (λ b. (b.begin == block_size * i) || held h b)
one_lacking s h p i li lacking =
    let n = block_count s.torrent p in
    let f : ℕ → Bool = λ k. held h (block s.torrent p k) in
    let g : ℕ → Bool = λ k. (block_size * k == block_size * i) || f k in
    let more = count_at n g f i li (λ k lk apart. ap (λ (x : Bool). x || f k)
    (ne_eqb (block_size * k) (block_size * i) (λ same. apart (omega (arith, same))))) in
    let here : one_if (g i) ≡ 1 = ap (λ (x : Bool). one_if (x || f i)) (eq-eqb (block_size * i) (block_size * i) refl) in
    let gone : one_if (f i) ≡ 0 = ap one_if lacking in
    let held_is = held_counted s h p in
    let long = cells_long s h p in
    let total : held_count (piece_of s h p).blocks + 1 ≡ count_below n g = omega (arith, more, here, gone, held_is) in
    (λ j. total j == long j) ∙ counted_all n g
