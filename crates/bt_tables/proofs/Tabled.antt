-- Lists made from a function of the index, and lists with one element changed.
use Rattle.std.proofs.Common.{◌≡◌, ◌≢◌, ℕ, zero, suc, ◌+◌, ◌<◌, ◌≤◌, Bool, List, [], ◌∷◌, ◌++◌, length, get_or, set, map, replicate, refl, ap, sym}
use Rattle.std.proofs.Common.{◌∙◌, arith, length-set, ⊎_elim}
use Rattle.std.specs.Prelude.{nat_lt, if◌then◌else◌}
use Rattle.std.proofs.lemmas.Bool.{cases_eq, cases_lt, lt-ltb, le-ltb}
use Rattle.std.proofs.lemmas.List.{same_lists, get_or-set_same, get_or-set_other, length-replicate, get_or-replicate, length-map, get_or-map}
use Rattle.std.proofs.lemmas.List.{get_or_default}
use Rattle.std.proofs.lemmas.List.FromFn.{get_or-map-range_with_len, length-map-range_with_len, map-range_with_len_more}
use Rattle.bt_history.specs.Counting.{table}
use Rattle.bt_tables.specs.Tables.{edit}

pub length_table : {A : Type 0} (n : ℕ) (f : ℕ → A) → length (table n f) ≡ n
length_table n f = length-map-range_with_len f 0 n

pub length_is_table : {A : Type 0} (xs : List A) (n : ℕ) (f : ℕ → A) → xs ≡ table n f → length xs ≡ n
length_is_table xs n f is = ap length is ∙ length_table n f

pub get_or_table : {A : Type 0} (n : ℕ) (f : ℕ → A) (k : ℕ) (d : A) → k < n → get_or (table n f) k d ≡ f k
get_or_table n f k d h = get_or-map-range_with_len f 0 n k k d h (omega arith)

-- a list that has f k at each place k is the table of f
pub table_from : {A : Type 0} (n : ℕ) (f : ℕ → A) (xs : List A) → length xs ≡ n → ((k : ℕ) (d : A) → k < n → get_or xs k d ≡ f k) → xs ≡ table n f
table_from n f xs len each =
    same_lists xs (table n f) (len ∙ sym (length_table n f)) (λ k d lt.
    let below : k < n = omega (arith, len) in
    each k d below ∙ sym (get_or_table n f k d below))

pub get_or_is_table : {A : Type 0} (xs : List A) (n : ℕ) (f : ℕ → A) (k : ℕ) (d : A) → xs ≡ table n f → k < n → get_or xs k d ≡ f k
get_or_is_table xs n f k d e h = ap (λ l. get_or l k d) e ∙ get_or_table n f k d h

-- two functions that agree below n make one table
pub same_table : {A : Type 0} (n : ℕ) (f g : ℕ → A) → ((k : ℕ) → k < n → f k ≡ g k) → table n f ≡ table n g
same_table n f g h = table_from n g (table n f) (length_table n f) (λ k d lt. get_or_table n f k d lt ∙ h k lt)

-- a table with one element changed
pub set_table : {A : Type 0} (n : ℕ) (f g : ℕ → A) (i : ℕ) → i < n → ((k : ℕ) → k < n → k ≢ i → f k ≡ g k) → set (table n f) i (g i) ≡ table n g
set_table n f g i h others =
    table_from n g (set (table n f) i (g i)) (length-set (table n f) i (g i) ∙ length_table n f) (λ k d below.
    let here : i < length (table n f) = omega (arith, length_table n f) in
    ⊎_elim (λ (e : k ≡ i). ap (λ j. get_or (set (table n f) i (g i)) j d) e ∙ get_or-set_same (table n f) i (g i) d here ∙ ap g (sym e))
    (λ (ne : k ≡ i → ⊥). get_or-set_other (table n f) i k (g i) d ne ∙ get_or_table n f k d below ∙ others k below ne)
    (cases_eq k i))

-- a table of one value
pub table_replicate : {A : Type 0} (n : ℕ) (x : A) → replicate n x ≡ table n (λ k. x)
table_replicate n x = table_from n (λ k. x) (replicate n x) (length-replicate n x) (λ k d lt. get_or-replicate n k x d lt)

pub map_table : {A B : Type 0} (f : A → B) (n : ℕ) (g : ℕ → A) → map f (table n g) ≡ table n (λ k. f (g k))
map_table f n g = table_from n (λ k. f (g k)) (map f (table n g)) (length-map (table n g) f ∙ length_table n g) (λ k d lt.
    get_or-map f (table n g) k (g k) d (omega (arith, length_table n g)) ∙ ap f (get_or_table n g k (g k) lt))

-- a list is the table of its elements
pub table_self : {A : Type 0} (n : ℕ) (xs : List A) (d : A) → length xs ≡ n → xs ≡ table n (λ k. get_or xs k d)
table_self n xs d len = table_from n (λ k. get_or xs k d) xs len (λ k e lt. get_or_default xs k e d (omega (arith, len)))

pub table_more : {A : Type 0} (n : ℕ) (f : ℕ → A) → table (n + 1) f ≡ table n f ++ f n ∷ []
table_more n f = map-range_with_len_more f 0 n n (omega arith)

-- ---- a loop that changes the elements one after the other

-- g up to i, and f from there on
abbrev pub upto : {A : Type 0} → ℕ → (ℕ → A) → (ℕ → A) → ℕ → A
upto i g f k = if nat_lt k i then g k else f k

pub upto_below : {A : Type 0} (i : ℕ) (g f : ℕ → A) (k : ℕ) → k < i → upto i g f k ≡ g k
upto_below i g f k lt = ap (λ (b : Bool). if b then g k else f k) (lt-ltb k i lt)

pub upto_above : {A : Type 0} (i : ℕ) (g f : ℕ → A) (k : ℕ) → i ≤ k → upto i g f k ≡ f k
upto_above i g f k le = ap (λ (b : Bool). if b then g k else f k) (le-ltb k i le)

pub upto_none : {A : Type 0} (n : ℕ) (g f : ℕ → A) → table n f ≡ table n (upto 0 g f)
upto_none n g f = same_table n f (upto 0 g f) (λ k lt. sym (upto_above 0 g f k (omega arith)))

pub upto_more : {A : Type 0} (n i : ℕ) (g f : ℕ → A) → i < n → set (table n (upto i g f)) i (g i) ≡ table n (upto (i + 1) g f)
upto_more n i g f lt =
    ap (λ x. set (table n (upto i g f)) i x) (sym (upto_below (i + 1) g f i (omega arith)))
    ∙ set_table n (upto i g f) (upto (i + 1) g f) i lt (λ k lk apart.
    ⊎_elim (λ (below : k < i). upto_below i g f k below ∙ sym (upto_below (i + 1) g f k (omega arith)))
    (λ (above : i ≤ k). upto_above i g f k above ∙ sym (upto_above (i + 1) g f k (omega (arith, apart))))
    (cases_lt k i))

-- ---- a changed element

pub edit_set : {A : Type 0} (xs : List A) (i : ℕ) (f : A → A) (x : A) → i < length xs → x ≡ get_or xs i x → set xs i (f x) ≡ edit xs i f
edit_set [] i f x lt is = absurd (omega arith)
edit_set (y ∷ xs) zero f x lt is = ap (λ z. f z ∷ xs) is
edit_set (y ∷ xs) (suc i) f x lt is = ap (λ ys. y ∷ ys) (edit_set xs i f x (omega arith) is)

pub edit_past : {A : Type 0} (xs : List A) (i : ℕ) (f : A → A) → length xs ≤ i → edit xs i f ≡ xs
edit_past [] i f le = refl
edit_past (y ∷ xs) zero f le = absurd (omega arith)
edit_past (y ∷ xs) (suc i) f le = ap (λ ys. y ∷ ys) (edit_past xs i f (omega arith))

pub length_edit : {A : Type 0} (xs : List A) (i : ℕ) (f : A → A) → length (edit xs i f) ≡ length xs
length_edit [] i f = refl
length_edit (y ∷ xs) zero f = refl
length_edit (y ∷ xs) (suc i) f = ap suc (length_edit xs i f)

pub get_or_edit_same : {A : Type 0} (xs : List A) (i : ℕ) (f : A → A) (d : A) → i < length xs → get_or (edit xs i f) i d ≡ f (get_or xs i d)
get_or_edit_same [] i f d lt = absurd (omega arith)
get_or_edit_same (y ∷ xs) zero f d lt = refl
get_or_edit_same (y ∷ xs) (suc i) f d lt = get_or_edit_same xs i f d (omega arith)

pub get_or_edit_other : {A : Type 0} (xs : List A) (i k : ℕ) (f : A → A) (d : A) → k ≢ i → get_or (edit xs i f) k d ≡ get_or xs k d
get_or_edit_other [] i k f d ne = refl
get_or_edit_other (y ∷ xs) zero zero f d ne = absurd (ne refl)
get_or_edit_other (y ∷ xs) zero (suc k) f d ne = refl
get_or_edit_other (y ∷ xs) (suc i) zero f d ne = refl
get_or_edit_other (y ∷ xs) (suc i) (suc k) f d ne = get_or_edit_other xs i k f d (λ e. ne (ap suc e))

-- a table with one element changed by a function
pub edit_table : {A : Type 0} (n : ℕ) (f g : ℕ → A) (i : ℕ) (change : A → A) → i < n → g i ≡ change (f i) → ((k : ℕ) → k < n → k ≢ i → f k ≡ g k)
    → edit (table n f) i change ≡ table n g
edit_table n f g i change lt here others =
    table_from n g (edit (table n f) i change) (length_edit (table n f) i change ∙ length_table n f) (λ k d below.
    ⊎_elim (λ (e : k ≡ i).
    ap (λ j. get_or (edit (table n f) i change) j d) e ∙ get_or_edit_same (table n f) i change d (omega (arith, length_table n f))
    ∙ ap change (get_or_table n f i d lt) ∙ sym here ∙ ap g (sym e))
    (λ (ne : k ≡ i → ⊥). get_or_edit_other (table n f) i k change d ne ∙ get_or_table n f k d below ∙ others k below ne)
    (cases_eq k i))

pub rows_init : {A : Type 0} (xs : List A) (g : ℕ → A) (d : A) → xs ≡ table (length xs) (upto 0 g (λ k. get_or xs k d))
rows_init xs g d = table_self (length xs) xs d refl ∙ upto_none (length xs) g (λ k. get_or xs k d)

pub rows_read : {A : Type 0} (ys : List A) (n i : ℕ) (g f : ℕ → A) (d : A) → ys ≡ table n (upto i g f) → i < n → get_or ys i d ≡ f i
rows_read ys n i g f d is lt = get_or_is_table ys n (upto i g f) i d is lt ∙ upto_above i g f i (omega arith)

pub rows_more : {A : Type 0} (ys : List A) (n i : ℕ) (g f : ℕ → A) (x : A) → ys ≡ table n (upto i g f) → i < n → x ≡ g i
    → set ys i x ≡ table n (upto (i + 1) g f)
rows_more ys n i g f x is lt at = (λ j. set (is j) i (at j)) ∙ upto_more n i g f lt

pub rows_done : {A : Type 0} (ys : List A) (n i : ℕ) (g f : ℕ → A) → ys ≡ table n (upto i g f) → n ≤ i → ys ≡ table n g
rows_done ys n i g f is le = is ∙ same_table n (upto i g f) g (λ k lt. upto_below i g f k (omega arith))

-- an element that was read, and written back changed
pub edit_read : {A : Type 0} (xs : List A) (i : ℕ) (f : A → A) (x d : A) → i < length xs → x ≡ get_or xs i d → set xs i (f x) ≡ edit xs i f
edit_read xs i f x d lt is =
    ap (λ y. set xs i (f y)) is ∙ edit_set xs i f (get_or xs i d) lt (get_or_default xs i d (get_or xs i d) lt)

-- a change that does nothing, one of an element that was changed before, and two that do the same to it
pub edit_none : {A : Type 0} (xs : List A) (i : ℕ) (f : A → A) → ((x : A) → f x ≡ x) → edit xs i f ≡ xs
edit_none [] i f same = refl
edit_none (x ∷ xs) zero f same = ap (λ y. y ∷ xs) (same x)
edit_none (x ∷ xs) (suc i) f same = ap (λ ys. x ∷ ys) (edit_none xs i f same)

pub edit_twice : {A : Type 0} (xs : List A) (i : ℕ) (f g : A → A) → edit (edit xs i f) i g ≡ edit xs i (λ x. g (f x))
edit_twice [] i f g = refl
edit_twice (x ∷ xs) zero f g = refl
edit_twice (x ∷ xs) (suc i) f g = ap (λ ys. x ∷ ys) (edit_twice xs i f g)

pub edit_same : {A : Type 0} (xs : List A) (i : ℕ) (f g : A → A) (d : A) → i < length xs → f (get_or xs i d) ≡ g (get_or xs i d)
    → edit xs i f ≡ edit xs i g
edit_same [] i f g d lt same = absurd (omega arith)
edit_same (x ∷ xs) zero f g d lt same = ap (λ y. y ∷ xs) same
edit_same (x ∷ xs) (suc i) f g d lt same = ap (λ ys. x ∷ ys) (edit_same xs i f g d (omega arith) same)

-- the loop changes its next element
pub rows_edit : {A : Type 0} (ys : List A) (n i : ℕ) (g f : ℕ → A) (change : A → A) (d : A) → ys ≡ table n (upto i g f) → i < n → change (f i) ≡ g i
    → edit ys i change ≡ table n (upto (i + 1) g f)
rows_edit ys n i g f change d is lt at =
    let within : i < length ys = omega (arith, lt, length_is_table ys n (upto i g f) is) in
    sym (edit_read ys i change (get_or ys i d) d within refl)
    ∙ rows_more ys n i g f (change (get_or ys i d)) is lt (ap change (rows_read ys n i g f d is lt) ∙ at)

-- and one that stays as it is
pub rows_skip : {A : Type 0} (ys : List A) (n i : ℕ) (g f : ℕ → A) → ys ≡ table n (upto i g f) → f i ≡ g i → ys ≡ table n (upto (i + 1) g f)
rows_skip ys n i g f is same = is ∙ same_table n (upto i g f) (upto (i + 1) g f) (λ k lk. ⊎_elim
    (λ (here : k ≡ i).
    upto_above i g f k (omega (arith, here)) ∙ (ap f here ∙ (same ∙ (ap g (sym here) ∙ sym (upto_below (i + 1) g f k (omega (arith, here)))))))
    (λ (apart : k ≡ i → ⊥). ⊎_elim
    (λ (below : k < i). upto_below i g f k below ∙ sym (upto_below (i + 1) g f k (omega (arith, below))))
    (λ (above : i ≤ k). upto_above i g f k above ∙ sym (upto_above (i + 1) g f k (omega (arith, above, apart))))
    (cases_lt k i))
    (cases_eq k i))

-- a change that leaves the element as it is
pub edit_unmoved : {A : Type 0} (xs : List A) (i : ℕ) (f : A → A) (d : A) → i < length xs → f (get_or xs i d) ≡ get_or xs i d → edit xs i f ≡ xs
edit_unmoved [] i f d lt same = absurd (omega arith)
edit_unmoved (x ∷ xs) zero f d lt same = ap (λ y. y ∷ xs) same
edit_unmoved (x ∷ xs) (suc i) f d lt same = ap (λ ys. x ∷ ys) (edit_unmoved xs i f d (omega arith) same)
