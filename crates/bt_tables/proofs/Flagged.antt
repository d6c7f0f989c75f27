-- A line of blocks with a flag for each, and the blocks whose flag is set.
use Rattle.std.proofs.Common.{◌≡◌, ℕ, zero, suc, ◌==◌, ◌+◌, ◌<◌, ◌≤◌, Bool, true, false, not, ◌&&◌, ◌||◌, List, [], ◌∷◌, ◌++◌, length, get_or, set, take}
use Rattle.std.proofs.Common.{refl, ap, sym, ◌∙◌, arith, ⊎_elim}
use Rattle.std.specs.Prelude.{if◌then◌else◌, nat_lt}
use Rattle.std.specs.List.{count_by, filter, list_any, remove}
use Rattle.std.proofs.lemmas.Bool.{and_parts, cases_Bool, cases_eq, eqb-true, false_from_ne_true, false≢true, lt-ltb, or_from, or_left, or_parts}
use Rattle.std.proofs.lemmas.List.{get_or-set_other, get_or-set_same, length-set}
use Rattle.std.proofs.lemmas.List.Folds.{list_any_at}
use Rattle.std.proofs.lemmas.List.Sums.{sum_by-cons}
use Rattle.bt_meta.specs.declared.block.Block.{Block}
use Rattle.bt_history.specs.History.{same_begin}
use Rattle.bt_history.specs.Peers.{AreApart, has_place}
use Rattle.bt_history.proofs.SameBegin.{same_begin_self, same_begin_sym}
use Rattle.bt_tables.specs.Delays.{flagged}
use Rattle.bt_tables.specs.Tables.{one_if}
use Rattle.bt_tables.proofs.Forgetting.{begins, no_other, no_place, without_place}

-- a line without length is empty
pub no_length : (bs : List Block) → nat_lt 0 (length bs) ≡ false → bs ≡ []
no_length [] is = refl
no_length (b ∷ bs) is = absurd (false≢true (sym is ∙ lt-ltb 0 (length (b ∷ bs)) (omega arith)))

-- a block that begins where none of the line does is none of it
apart_at : (b : Block) (bs : List Block) (i : ℕ) (d : Block) → has_place b bs ≡ false → i < length bs → same_begin (get_or bs i d) b ≡ false
apart_at b [] i d none lt = absurd (omega (arith, lt))
apart_at b (c ∷ bs) zero d none lt = (or_parts (same_begin c b) (has_place b bs) none).0
apart_at b (c ∷ bs) (suc i) d none lt = apart_at b bs i d (or_parts (same_begin c b) (has_place b bs) none).1 (omega (arith, lt))

turned : (a b : Block) → same_begin a b ≡ false → same_begin b a ≡ false
turned a b apart = false_from_ne_true (same_begin b a) (λ same. false≢true (sym apart ∙ same_begin_sym b a same))

-- none in front of a block of the line begins where it does
apart_before : (bs : List Block) (i : ℕ) (d : Block) → AreApart bs → i < length bs → list_any (same_begin (get_or bs i d)) (take i bs) ≡ false
unfolding AreApart
apart_before [] i d are lt = absurd (omega (arith, lt))
apart_before (b ∷ bs) zero d are lt = refl
apart_before (b ∷ bs) (suc i) d are lt =
    or_from (same_begin (get_or bs i d) b) _ (apart_at b bs i d are.0 (omega (arith, lt))) (apart_before bs i d are.1 (omega (arith, lt)))

-- the line without a block is the line without what begins where that does
pub line_removed : (bs : List Block) (i : ℕ) (d : Block) → AreApart bs → i < length bs
    → filter (λ b. not (same_begin (get_or bs i d) b)) bs ≡ remove bs i
line_removed bs i d are lt =
    let x = get_or bs i d in
    without_place x.piece x.begin bs i d are lt (apart_before bs i d are lt) (same_begin_self x)

-- what the whole line lacks the flagged blocks lack
pub flagged_none : (test : Block → Bool) (bs : List Block) (flags : List Bool) → list_any test bs ≡ false → list_any test (flagged bs flags) ≡ false
flagged_none test [] flags none = refl
flagged_none test (b ∷ bs) [] none = refl
flagged_none test (b ∷ bs) (f ∷ flags) none =
    let parts = or_parts (test b) (list_any test bs) none in
    by_flag f (flagged_none test bs flags parts.1) parts.0
  where
    by_flag : (x : Bool) → list_any test (flagged bs flags) ≡ false → test b ≡ false
        → list_any test (if x then b ∷ flagged bs flags else flagged bs flags) ≡ false
    by_flag true rest here = or_from (test b) _ here rest
    by_flag false rest here = rest

-- a flag in front counts, if it is set
count_front : (f : Bool) (flags : List Bool) → count_by (λ x. x) (f ∷ flags) ≡ one_if f + count_by (λ x. x) flags
count_front f flags = sum_by-cons (λ (x : Bool). one_if x) f flags

-- so many blocks are flagged as flags are set
pub count_flagged : (bs : List Block) (flags : List Bool) → length flags ≡ length bs → length (flagged bs flags) ≡ count_by (λ f. f) flags
count_flagged [] [] each = refl
count_flagged [] (f ∷ flags) each = absurd (omega (arith, each))
count_flagged (b ∷ bs) [] each = absurd (omega (arith, each))
count_flagged (b ∷ bs) (true ∷ flags) each = omega (arith, count_flagged bs flags (omega (arith, each)), count_front true flags)
count_flagged (b ∷ bs) (false ∷ flags) each = omega (arith, count_flagged bs flags (omega (arith, each)), count_front false flags)

-- where no flag is set, all are alike: none in front of them is one behind them
clear_front : (flags : List Bool) (n : ℕ) → length flags ≡ n → count_by (λ f. f) flags ≡ 0 → take n (false ∷ flags) ≡ flags
clear_front [] zero len none = refl
clear_front [] (suc n) len none = absurd (omega (arith, len))
clear_front (f ∷ flags) zero len none = absurd (omega (arith, len))
clear_front (true ∷ flags) (suc n) len none = absurd (omega (arith, none, count_front true flags))
clear_front (false ∷ flags) (suc n) len none = ap (λ (l : List Bool). false ∷ l) (clear_front flags n (omega (arith, len)) (omega (arith, none, count_front false flags)))

-- so it is the same whether one or the last one goes
pub remove_clear : (flags : List Bool) (i n : ℕ) → i < length flags → length flags ≡ suc n → count_by (λ f. f) flags ≡ 0 → take n flags ≡ remove flags i
remove_clear [] i n lt len none = absurd (omega (arith, lt))
remove_clear (true ∷ flags) i n lt len none = absurd (omega (arith, none, count_front true flags))
remove_clear (false ∷ flags) zero n lt len none = clear_front flags n (omega (arith, len)) (omega (arith, none, count_front false flags))
remove_clear (false ∷ flags) (suc i) zero lt len none = absurd (omega (arith, lt, len))
remove_clear (false ∷ flags) (suc i) (suc n) lt len none =
    ap (λ (l : List Bool). false ∷ l)
    (remove_clear flags i n (omega (arith, lt)) (omega (arith, len)) (omega (arith, none, count_front false flags)))

-- and each one read is clear
pub read_clear : (flags : List Bool) (i : ℕ) (d : Bool) → i < length flags → count_by (λ f. f) flags ≡ 0 → get_or flags i d ≡ false
read_clear [] i d lt none = absurd (omega (arith, lt))
read_clear (true ∷ flags) i d lt none = absurd (omega (arith, none, count_front true flags))
read_clear (false ∷ flags) zero d lt none = refl
read_clear (false ∷ flags) (suc i) d lt none = read_clear flags i d (omega (arith, lt)) (omega (arith, none, count_front false flags))

-- a new block isn't flagged
pub flagged_push : (bs : List Block) (flags : List Bool) (b : Block) → length flags ≡ length bs
    → flagged (bs ++ b ∷ []) (flags ++ false ∷ []) ≡ flagged bs flags
flagged_push [] [] b each = refl
flagged_push [] (f ∷ flags) b each = absurd (omega (arith, each))
flagged_push (a ∷ bs) [] b each = absurd (omega (arith, each))
flagged_push (a ∷ bs) (f ∷ flags) b each =
    ap (λ (l : List Block). if f then a ∷ l else l) (flagged_push bs flags b (omega (arith, each)))

-- the flag of a block tells whether it is among the flagged
pub flag_of : (bs : List Block) (flags : List Bool) (i : ℕ) (d : Block) (e : Bool) → AreApart bs → length flags ≡ length bs → i < length bs
    → has_place (get_or bs i d) (flagged bs flags) ≡ get_or flags i e
unfolding AreApart
flag_of [] flags i d e are each lt = absurd (omega (arith, lt))
flag_of (b ∷ bs) [] i d e are each lt = absurd (omega (arith, each))
flag_of (b ∷ bs) (f ∷ flags) zero d e are each lt = by_flag f where
  by_flag : (x : Bool) → has_place b (if x then b ∷ flagged bs flags else flagged bs flags) ≡ x
  by_flag true = or_left (same_begin b b) _ (same_begin_self b)
  by_flag false = flagged_none (λ a. same_begin a b) bs flags are.0
flag_of (b ∷ bs) (f ∷ flags) (suc i) d e are each lt =
    let x = get_or bs i d in
    by_flag f (turned x b (apart_at b bs i d are.0 (omega (arith, lt))))
    ∙ flag_of bs flags i d e are.1 (omega (arith, each)) (omega (arith, lt))
  where
    by_flag : (y : Bool) → same_begin b (get_or bs i d) ≡ false
        → has_place (get_or bs i d) (if y then b ∷ flagged bs flags else flagged bs flags) ≡ has_place (get_or bs i d) (flagged bs flags)
    by_flag true apart = ap (λ (z : Bool). z || has_place (get_or bs i d) (flagged bs flags)) apart
    by_flag false apart = refl

-- a line and its flags without a place
pub flagged_remove : (bs : List Block) (flags : List Bool) (i : ℕ) (d : Block) → AreApart bs → length flags ≡ length bs → i < length bs
    → flagged (remove bs i) (remove flags i) ≡ filter (λ b. not (same_begin (get_or bs i d) b)) (flagged bs flags)
unfolding AreApart
flagged_remove [] flags i d are each lt = absurd (omega (arith, lt))
flagged_remove (b ∷ bs) [] i d are each lt = absurd (omega (arith, each))
flagged_remove (b ∷ bs) (f ∷ flags) zero d are each lt = by_flag f where
  others : filter (λ c. not (same_begin b c)) (flagged bs flags) ≡ flagged bs flags
  others = no_place b.piece b.begin (flagged bs flags)
      (flagged_none (same_begin b) bs flags (no_other b.piece b.begin b bs (same_begin_self b) are.0))

  by_flag : (x : Bool) → flagged bs flags ≡ filter (λ c. not (same_begin b c)) (if x then b ∷ flagged bs flags else flagged bs flags)
  by_flag true = sym (ap (λ (y : Bool). if not y then b ∷ filter (λ c. not (same_begin b c)) (flagged bs flags)
      else filter (λ c. not (same_begin b c)) (flagged bs flags)) (same_begin_self b) ∙ others)
  by_flag false = sym others
flagged_remove (b ∷ bs) (f ∷ flags) (suc i) d are each lt =
    ap (λ (l : List Block). if f then b ∷ l else l) (flagged_remove bs flags i d are.1 (omega (arith, each)) (omega (arith, lt)))
    ∙ by_flag f (apart_at b bs i d are.0 (omega (arith, lt)))
  where
    stays : Block → Bool
    stays c = not (same_begin (get_or bs i d) c)

    by_flag : (x : Bool) → same_begin (get_or bs i d) b ≡ false
        → (if x then b ∷ filter stays (flagged bs flags) else filter stays (flagged bs flags))
        ≡ filter stays (if x then b ∷ flagged bs flags else flagged bs flags)
    by_flag true apart = sym (ap (λ (y : Bool). if not y then b ∷ filter stays (flagged bs flags) else filter stays (flagged bs flags)) apart)
    by_flag false apart = refl

-- one flag less, if it was set
pub count_removed : (bs : List Block) (flags : List Bool) (i : ℕ) (e : Bool) → length flags ≡ length bs → i < length bs
    → length (flagged (remove bs i) (remove flags i)) + one_if (get_or flags i e) ≡ length (flagged bs flags)
count_removed [] flags i e each lt = absurd (omega (arith, lt))
count_removed (b ∷ bs) [] i e each lt = absurd (omega (arith, each))
count_removed (b ∷ bs) (f ∷ flags) zero e each lt = by_flag f where
  by_flag : (x : Bool) → length (flagged bs flags) + one_if x ≡ length (if x then b ∷ flagged bs flags else flagged bs flags)
  by_flag true = omega arith
  by_flag false = omega arith
count_removed (b ∷ bs) (f ∷ flags) (suc i) e each lt = by_flag f (count_removed bs flags i e (omega (arith, each)) (omega (arith, lt))) where
  by_flag : (x : Bool) → length (flagged (remove bs i) (remove flags i)) + one_if (get_or flags i e) ≡ length (flagged bs flags)
      → length (if x then b ∷ flagged (remove bs i) (remove flags i) else flagged (remove bs i) (remove flags i)) + one_if (get_or flags i e)
      ≡ length (if x then b ∷ flagged bs flags else flagged bs flags)
  by_flag true rest = omega (arith, rest)
  by_flag false rest = rest

-- one flag more, if it wasn't set
pub count_set : (bs : List Block) (flags : List Bool) (i : ℕ) (e : Bool) → length flags ≡ length bs → i < length bs → get_or flags i e ≡ false
    → length (flagged bs (set flags i true)) ≡ length (flagged bs flags) + 1
count_set [] flags i e each lt clear = absurd (omega (arith, lt))
count_set (b ∷ bs) [] i e each lt clear = absurd (omega (arith, each))
count_set (b ∷ bs) (f ∷ flags) zero e each lt clear =
    sym (ap (λ (x : Bool). length (if x then b ∷ flagged bs flags else flagged bs flags) + 1) clear ∙ (omega arith))
count_set (b ∷ bs) (f ∷ flags) (suc i) e each lt clear = by_flag f (count_set bs flags i e (omega (arith, each)) (omega (arith, lt)) clear) where
  by_flag : (x : Bool) → length (flagged bs (set flags i true)) ≡ length (flagged bs flags) + 1
      → length (if x then b ∷ flagged bs (set flags i true) else flagged bs (set flags i true))
      ≡ length (if x then b ∷ flagged bs flags else flagged bs flags) + 1
  by_flag true rest = omega (arith, rest)
  by_flag false rest = rest

pub count_most : (bs : List Block) (flags : List Bool) → length (flagged bs flags) ≤ length bs
count_most [] flags = omega arith
count_most (b ∷ bs) [] = omega arith
count_most (b ∷ bs) (f ∷ flags) = by_flag f (count_most bs flags) where
  by_flag : (x : Bool) → length (flagged bs flags) ≤ length bs → length (if x then b ∷ flagged bs flags else flagged bs flags) ≤ suc (length bs)
  by_flag true rest = omega (arith, rest)
  by_flag false rest = omega (arith, rest)

-- the flagged blocks are those that pass a test, where the flags tell who passes
pub flagged_filter : (test : Block → Bool) (bs : List Block) (flags : List Bool) (d : Block) → length flags ≡ length bs
    → ((i : ℕ) → i < length bs → test (get_or bs i d) ≡ get_or flags i false) → filter test bs ≡ flagged bs flags
flagged_filter test [] flags d each tells = refl
flagged_filter test (b ∷ bs) [] d each tells = absurd (omega (arith, each))
flagged_filter test (b ∷ bs) (f ∷ flags) d each tells =
    (λ i. if tells 0 (omega arith) i then b ∷ filter test bs else filter test bs)
    ∙ ap (λ (l : List Block). if f then b ∷ l else l)
    (flagged_filter test bs flags d (omega (arith, each)) (λ i lt. tells (suc i) (omega (arith, lt))))

-- two places of a line have blocks that begin apart
pub places_apart : (bs : List Block) (i j : ℕ) (d : Block) → AreApart bs → i < length bs → j < length bs → (i ≡ j → ⊥)
    → same_begin (get_or bs i d) (get_or bs j d) ≡ false
unfolding AreApart
places_apart [] i j d are li lj apart = absurd (omega (arith, li))
places_apart (b ∷ bs) zero zero d are li lj apart = absurd (apart refl)
places_apart (b ∷ bs) zero (suc j) d are li lj apart = turned (get_or bs j d) b (apart_at b bs j d are.0 (omega (arith, lj)))
places_apart (b ∷ bs) (suc i) zero d are li lj apart = apart_at b bs i d are.0 (omega (arith, li))
places_apart (b ∷ bs) (suc i) (suc j) d are li lj apart =
    places_apart bs i j d are.1 (omega (arith, li)) (omega (arith, lj)) (λ same. apart (ap suc same))

-- the flag of the block that begins at a place tells whether one of the flagged begins there
pub flag_at_place : (piece begin : ℕ) (bs : List Block) (flags : List Bool) (i : ℕ) (d : Block) (e : Bool) → AreApart bs → length flags ≡ length bs
    → i < length bs → list_any (begins piece begin) (take i bs) ≡ false → begins piece begin (get_or bs i d) ≡ true
    → list_any (begins piece begin) (flagged bs flags) ≡ get_or flags i e
unfolding AreApart
flag_at_place piece begin [] flags i d e are each lt none here = absurd (omega (arith, lt))
flag_at_place piece begin (b ∷ bs) [] i d e are each lt none here = absurd (omega (arith, each))
flag_at_place piece begin (b ∷ bs) (f ∷ flags) zero d e are each lt none here = by_flag f where
  by_flag : (x : Bool) → list_any (begins piece begin) (if x then b ∷ flagged bs flags else flagged bs flags) ≡ x
  by_flag true = or_left (begins piece begin b) _ here
  by_flag false = flagged_none (begins piece begin) bs flags (no_other piece begin b bs here are.0)
flag_at_place piece begin (b ∷ bs) (f ∷ flags) (suc i) d e are each lt none here =
    let parts = or_parts (begins piece begin b) (list_any (begins piece begin) (take i bs)) none in
    by_flag f parts.0 ∙ flag_at_place piece begin bs flags i d e are.1 (omega (arith, each)) (omega (arith, lt)) parts.1 here
  where
    by_flag : (y : Bool) → begins piece begin b ≡ false
        → list_any (begins piece begin) (if y then b ∷ flagged bs flags else flagged bs flags) ≡ list_any (begins piece begin) (flagged bs flags)
    by_flag true apart = ap (λ (z : Bool). z || list_any (begins piece begin) (flagged bs flags)) apart
    by_flag false apart = refl

-- no block before the one that begins at a place begins there too
pub none_before : (piece begin : ℕ) (bs : List Block) (i : ℕ) (d : Block) → AreApart bs → i < length bs → begins piece begin (get_or bs i d) ≡ true
    → list_any (begins piece begin) (take i bs) ≡ false
unfolding AreApart
none_before piece begin [] i d are lt here = absurd (omega (arith, lt))
none_before piece begin (b ∷ bs) zero d are lt here = refl
none_before piece begin (b ∷ bs) (suc i) d are lt here = ⊎_elim
    (λ (first : begins piece begin b ≡ true). absurd (false≢true
    (sym (no_other piece begin b bs first are.0) ∙ list_any_at (begins piece begin) bs i d (omega (arith, lt)) here)))
    (λ (other : begins piece begin b ≡ false).
    or_from (begins piece begin b) _ other (none_before piece begin bs i d are.1 (omega (arith, lt)) here))
    (cases_Bool (begins piece begin b))

-- the flagged blocks once the flag of a place is set
pub flagged_set : (bs : List Block) (flags : List Bool) (i : ℕ) (d : Block) → AreApart bs → length flags ≡ length bs → i < length bs
    → filter (λ b. same_begin (get_or bs i d) b || has_place b (flagged bs flags)) bs ≡ flagged bs (set flags i true)
flagged_set bs flags i d are each lt = flagged_filter (λ b. same_begin (get_or bs i d) b || has_place b (flagged bs flags)) bs (set flags i true) d
    (length-set flags i true ∙ each) (λ j lj. ⊎_elim
    (λ (here : j ≡ i).
    or_left (same_begin (get_or bs i d) (get_or bs j d)) _ (ap (λ (k : ℕ). same_begin (get_or bs i d) (get_or bs k d)) here ∙ same_begin_self (get_or bs i d))
    ∙ sym (ap (λ (k : ℕ). get_or (set flags i true) k false) here ∙ get_or-set_same flags i true false (omega (arith, each, lt))))
    (λ (apart : j ≡ i → ⊥).
    ap (λ (x : Bool). x || has_place (get_or bs j d) (flagged bs flags)) (places_apart bs i j d are lt lj (λ same. apart (sym same)))
    ∙ (flag_of bs flags j d false are each lj ∙ sym (get_or-set_other flags i j true false apart)))
    (cases_eq j i))

-- and where it was set before
pub flagged_again : (bs : List Block) (flags : List Bool) (i : ℕ) (d : Block) → AreApart bs → length flags ≡ length bs → i < length bs
    → get_or flags i false ≡ true → filter (λ b. same_begin (get_or bs i d) b || has_place b (flagged bs flags)) bs ≡ flagged bs flags
flagged_again bs flags i d are each lt was = flagged_filter (λ b. same_begin (get_or bs i d) b || has_place b (flagged bs flags)) bs flags d each
    (λ j lj. ⊎_elim
    (λ (here : j ≡ i).
    or_left (same_begin (get_or bs i d) (get_or bs j d)) _ (ap (λ (k : ℕ). same_begin (get_or bs i d) (get_or bs k d)) here ∙ same_begin_self (get_or bs i d))
    ∙ sym (ap (λ (k : ℕ). get_or flags k false) here ∙ was))
    (λ (apart : j ≡ i → ⊥).
    ap (λ (x : Bool). x || has_place (get_or bs j d) (flagged bs flags)) (places_apart bs i j d are lt lj (λ same. apart (sym same)))
    ∙ flag_of bs flags j d false are each lj)
    (cases_eq j i))

-- where none of the line begins at a place the flagged blocks stay
pub flagged_stay : (piece begin : ℕ) (bs : List Block) (flags : List Bool) (d : Block) → AreApart bs → length flags ≡ length bs
    → list_any (begins piece begin) bs ≡ false → filter (λ b. begins piece begin b || has_place b (flagged bs flags)) bs ≡ flagged bs flags
flagged_stay piece begin bs flags d are each none = flagged_filter (λ b. begins piece begin b || has_place b (flagged bs flags)) bs flags d each
    (λ j lj. ap (λ (x : Bool). x || has_place (get_or bs j d) (flagged bs flags)) (none_at (begins piece begin) bs j d none lj)
    ∙ flag_of bs flags j d false are each lj)
  where
    none_at : (test : Block → Bool) (cs : List Block) (j : ℕ) (d : Block) → list_any test cs ≡ false → j < length cs → test (get_or cs j d) ≡ false
    none_at test [] j d none lj = absurd (omega (arith, lj))
    none_at test (c ∷ cs) zero d none lj = (or_parts (test c) (list_any test cs) none).0
    none_at test (c ∷ cs) (suc j) d none lj = none_at test cs j d (or_parts (test c) (list_any test cs) none).1 (omega (arith, lj))

-- ---- a place by a block that begins there

-- what begins at a place is what begins where this block does
pub begins_same : (piece begin : ℕ) (b : Block) → begins piece begin b ≡ true → (c : Block) → begins piece begin c ≡ same_begin b c
begins_same piece begin b here c =
    let parts = and_parts (piece == b.piece) (begin == b.begin) here in
    λ i. (eqb-true piece b.piece parts.0 i == c.piece) && (eqb-true begin b.begin parts.1 i == c.begin)

-- ---- the blocks of a piece

-- a piece's blocks are gone whether one of them was taken out first
pub without_one : (piece : ℕ) (b : Block) (bs : List Block) → (piece == b.piece) ≡ true
    → filter (λ c. not (piece == c.piece)) (filter (λ c. not (same_begin b c)) bs) ≡ filter (λ c. not (piece == c.piece)) bs
without_one piece b [] of = refl
without_one piece b (c ∷ bs) of = by_test (same_begin b c) refl (without_one piece b bs of) where
  gone : List Block → List Block
  gone = filter (λ c. not (piece == c.piece))

  rest : List Block
  rest = filter (λ c. not (same_begin b c)) bs

  by_test : (x : Bool) → same_begin b c ≡ x → gone rest ≡ gone bs
      → gone (if not x then c ∷ rest else rest) ≡ (if not (piece == c.piece) then c ∷ gone bs else gone bs)
  by_test true same older =
      let other : (piece == c.piece) ≡ true = (λ i. piece == sym (eqb-true b.piece c.piece (and_parts (b.piece == c.piece) _ same).0) i) ∙ of in
      older ∙ sym (ap (λ (x : Bool). if not x then c ∷ gone bs else gone bs) other)
  by_test false apart older = ap (λ (l : List Block). if not (piece == c.piece) then c ∷ l else l) older

-- a line of which all was gone through has none of the piece
pub all_stay : (test : Block → Bool) (bs : List Block) (n : ℕ) → length bs ≤ n → list_any test (take n bs) ≡ false
    → filter (λ b. not (test b)) bs ≡ bs
all_stay test [] n le none = refl
all_stay test (b ∷ bs) zero le none = absurd (omega (arith, le))
all_stay test (b ∷ bs) (suc n) le none =
    let parts = or_parts (test b) (list_any test (take n bs)) none in
    ap (λ (x : Bool). if not x then b ∷ filter (λ c. not (test c)) bs else filter (λ c. not (test c)) bs) parts.0
    ∙ ap (λ (l : List Block). b ∷ l) (all_stay test bs n (omega (arith, le)) parts.1)

-- what stands in front of a place stays there when a later block goes
pub take_removed : (test : Block → Bool) (bs : List Block) (n : ℕ) → list_any test (take n bs) ≡ false → list_any test (take n (remove bs n)) ≡ false
take_removed test [] zero none = refl
take_removed test [] (suc n) none = refl
take_removed test (b ∷ bs) zero none = refl
take_removed test (b ∷ bs) (suc n) none =
    let parts = or_parts (test b) (list_any test (take n bs)) none in
    or_from (test b) _ parts.0 (take_removed test bs n parts.1)

-- and one more that passes
pub take_passed : (test : Block → Bool) (bs : List Block) (n : ℕ) (d : Block) → n < length bs → list_any test (take n bs) ≡ false
    → test (get_or bs n d) ≡ false → list_any test (take (suc n) bs) ≡ false
take_passed test [] n d lt none here = absurd (omega (arith, lt))
take_passed test (b ∷ bs) zero d lt none here = or_from (test b) _ here refl
take_passed test (b ∷ bs) (suc n) d lt none here =
    let parts = or_parts (test b) (list_any test (take n bs)) none in
    or_from (test b) _ parts.0 (take_passed test bs n d (omega (arith, lt)) parts.1 here)
