-- Tests and sums over the numbers below a bound.
use Rattle.std.proofs.Common.{◌≡◌, ◌≢◌, ◌≤◌, ℕ, zero, suc, ◌+◌, ◌<◌, Bool, true, false, not, ◌&&◌, ◌||◌, ◌==◌, refl, ap, sym, ◌∙◌, arith, ⊎_elim, subst}
use Rattle.std.proofs.lemmas.Bool.{eq-eqb, false_from_ne_true, le-leb, leb-true, ne_eqb}
use Rattle.std.proofs.lemmas.Bool.{or_cases, or_from, or_left, or_right, or_parts, and_from, and_parts, cases_eq, cases_lt, cases_Bool, false≢true}
use Rattle.std.specs.Prelude.{if◌then◌else◌, nat_le}
use Rattle.bt_history.specs.Counting.{any_below, all_below, count_below, sum_below}

-- one that passes shows that some does
pub any_found : (n : ℕ) (test : ℕ → Bool) (k : ℕ) → k < n → test k ≡ true → any_below n test ≡ true
any_found zero test k lt is = absurd (omega arith)
any_found (suc n) test k lt is =
    ⊎_elim (λ (same : k ≡ n). or_right (any_below n test) (test n) (ap test (sym same) ∙ is))
    (λ (other : k ≡ n → ⊥). or_left (any_below n test) (test n) (any_found n test k (omega arith) is))
    (cases_eq k n)

-- none does where each fails
pub any_none : (n : ℕ) (test : ℕ → Bool) → ((k : ℕ) → k < n → test k ≡ false) → any_below n test ≡ false
any_none zero test h = refl
any_none (suc n) test h = or_from (any_below n test) (test n) (any_none n test (λ k lt. h k (omega arith))) (h n (omega arith))

pub any_fails : (n : ℕ) (test : ℕ → Bool) (k : ℕ) → any_below n test ≡ false → k < n → test k ≡ false
any_fails zero test k none lt = absurd (omega arith)
any_fails (suc n) test k none lt =
    let parts = or_parts (any_below n test) (test n) none in
    ⊎_elim (λ (same : k ≡ n). ap test same ∙ parts.1)
    (λ (other : k ≡ n → ⊥). any_fails n test k parts.0 (omega arith))
    (cases_eq k n)

-- tests that agree below n
pub any_same : (n : ℕ) (f g : ℕ → Bool) → ((k : ℕ) → k < n → f k ≡ g k) → any_below n f ≡ any_below n g
any_same zero f g h = refl
any_same (suc n) f g h =
    ap (λ (b : Bool). b || f n) (any_same n f g (λ k lt. h k (omega arith))) ∙ ap (λ (b : Bool). any_below n g || b) (h n (omega arith))

pub all_same : (n : ℕ) (f g : ℕ → Bool) → ((k : ℕ) → k < n → f k ≡ g k) → all_below n f ≡ all_below n g
all_same zero f g h = refl
all_same (suc n) f g h = λ i. all_same n f g (λ k lt. h k (omega (arith, lt))) i && h n (omega arith) i

pub all_found : (n : ℕ) (test : ℕ → Bool) → ((k : ℕ) → k < n → test k ≡ true) → all_below n test ≡ true
all_found zero test h = refl
all_found (suc n) test h = and_from (all_below n test) (test n) (all_found n test (λ k lt. h k (omega arith))) (h n (omega arith))

pub all_at : (n : ℕ) (test : ℕ → Bool) (k : ℕ) → all_below n test ≡ true → k < n → test k ≡ true
all_at zero test k all lt = absurd (omega arith)
all_at (suc n) test k all lt =
    let parts = and_parts (all_below n test) (test n) all in
    ⊎_elim (λ (same : k ≡ n). ap test same ∙ parts.1)
    (λ (other : k ≡ n → ⊥). all_at n test k parts.0 (omega arith))
    (cases_eq k n)

-- one that fails shows that not all pass
pub all_fails : (n : ℕ) (test : ℕ → Bool) (k : ℕ) → k < n → test k ≡ false → all_below n test ≡ false
all_fails n test k lt fails = either_way (all_below n test) refl where
  either_way : (b : Bool) → all_below n test ≡ b → b ≡ false
  either_way true all = sym (all_at n test k all lt) ∙ fails
  either_way false all = refl

-- where some number passes, one can be named
pub any_witness : (n : ℕ) (test : ℕ → Bool) → any_below n test ≡ true → (k : ℕ) × (k < n) × (test k ≡ true)
any_witness zero test is = absurd (cc is)
any_witness (suc n) test is =
    ⊎_elim (λ (before : any_below n test ≡ true). let found = any_witness n test before in (found.0, omega arith, found.2))
    (λ (last : test n ≡ true). (n, omega arith, last))
    (or_cases (any_below n test) (test n) is)

-- of the numbers that pass one that ranks least
pub record Least (n : ℕ) (test : ℕ → Bool) (rank : ℕ → ℕ) : Type 0 where
  pub number : ℕ
  pub within : number < n
  pub passes : test number ≡ true
  pub least : (k : ℕ) → k < n → test k ≡ true → rank number ≤ rank k

-- there is one where some number passes
pub least_among : (n : ℕ) (test : ℕ → Bool) (rank : ℕ → ℕ) → any_below n test ≡ true → Least n test rank
least_among zero test rank some = absurd (cc some)
least_among (suc n) test rank some = ⊎_elim
    (λ (before : any_below n test ≡ true). with_last (least_among n test rank before) (test n) refl)
    (λ (none : any_below n test ≡ false).
    let last : test n ≡ true = sym (ap (λ (x : Bool). x || test n) none) ∙ some in
    record {
      number = n;
      within = omega arith;
      passes = last;
      least = λ k lk is. ⊎_elim
          (λ (same : k ≡ n). (let here = ap rank same in omega (arith, here)))
          (λ (apart : k ≡ n → ⊥). absurd (false≢true (sym (any_fails n test k none (omega (arith, lk, apart))) ∙ is)))
          (cases_eq k n);
    })
    (cases_Bool (any_below n test))
  where
    with_last : Least n test rank → (x : Bool) → test n ≡ x → Least (suc n) test rank
    with_last found false fails = record {
      number = found.number;
      within = (let low = found.within in omega (arith, low));
      passes = found.passes;
      least = λ k lk is. ⊎_elim
          (λ (same : k ≡ n). absurd (false≢true (sym fails ∙ ap test (sym same) ∙ is)))
          (λ (apart : k ≡ n → ⊥). found.least k (omega (arith, lk, apart)) is)
          (cases_eq k n);
    }
    with_last found true last = ⊎_elim
        (λ (less : rank n < rank found.number). record {
          number = n;
          within = omega arith;
          passes = last;
          least = λ k lk is. ⊎_elim
              (λ (same : k ≡ n). (let here = ap rank same in omega (arith, here)))
              (λ (apart : k ≡ n → ⊥). (let low = found.least k (omega (arith, lk, apart)) is in omega (arith, low, less)))
              (cases_eq k n);
        })
        (λ (more : rank found.number ≤ rank n). record {
          number = found.number;
          within = (let low = found.within in omega (arith, low));
          passes = found.passes;
          least = λ k lk is. ⊎_elim
              (λ (same : k ≡ n). (let here = ap rank same in omega (arith, here, more)))
              (λ (apart : k ≡ n → ⊥). found.least k (omega (arith, lk, apart)) is)
              (cases_eq k n);
        })
        (cases_lt (rank n) (rank found.number))

-- 1 for a test that passes
abbrev pub one_if : Bool → ℕ
one_if b = if b then 1 else 0

pub count_same : (n : ℕ) (f g : ℕ → Bool) → ((k : ℕ) → k < n → f k ≡ g k) → count_below n f ≡ count_below n g
count_same zero f g h = refl
count_same (suc n) f g h =
    let step = count_same n f g (λ k lk. h k (omega arith)) in
    let last : one_if (f n) ≡ one_if (g n) = ap one_if (h n (omega arith)) in
    omega arith

-- counts of tests that agree but at i
pub count_at : (n : ℕ) (f g : ℕ → Bool) (i : ℕ) → i < n → ((k : ℕ) → k < n → k ≢ i → f k ≡ g k)
    → count_below n f + one_if (g i) ≡ count_below n g + one_if (f i)
count_at zero f g i lt same = absurd (omega arith)
count_at (suc n) f g i lt same =
    ⊎_elim
    (λ (here : i ≡ n).
    let below : count_below n f ≡ count_below n g = count_same n f g (λ k lk. same k (omega arith) (omega arith)) in
    rw here (omega arith))
    (λ (before : i ≡ n → ⊥).
    let step = count_at n f g i (omega arith) (λ k lk apart. same k (omega arith) apart) in
    let last : one_if (f n) ≡ one_if (g n) = ap one_if (same n (omega arith) (λ e. before (sym e))) in
    omega arith)
    (cases_eq i n)

pub count_most : (n : ℕ) (f : ℕ → Bool) → count_below n f ≤ n
count_most zero f = omega arith
count_most (suc n) f =
    let step = count_most n f in
    let last : one_if (f n) ≤ 1 = at_most_one (f n) in
    omega arith
  where
    at_most_one : (b : Bool) → one_if b ≤ 1
    at_most_one true = omega arith
    at_most_one false = omega arith

-- where one number fails, fewer pass than there are
pub count_short : (n : ℕ) (f : ℕ → Bool) (i : ℕ) → i < n → f i ≡ false → count_below n f < n
count_short zero f i lt fails = absurd (omega arith)
count_short (suc n) f i lt fails =
    ⊎_elim
    (λ (here : i ≡ n).
    let most = count_most n f in
    let last : one_if (f n) ≡ 0 = ap one_if (subst (λ (k : ℕ). f k ≡ false) here fails) in
    omega arith)
    (λ (before : i ≡ n → ⊥).
    let step = count_short n f i (omega (arith, before)) fails in
    one_more (f n) step)
    (cases_eq i n)
  where
    one_more : (b : Bool) → count_below n f < n → count_below n f + one_if b < suc n
    one_more true step = omega arith
    one_more false step = omega arith

-- where some number passes, some are counted
pub count_found : (n : ℕ) (f : ℕ → Bool) (k : ℕ) → k < n → f k ≡ true → 0 < count_below n f
count_found zero f k lt is = absurd (omega arith)
count_found (suc n) f k lt is = ⊎_elim
    (λ (here : k ≡ n). (let last : one_if (f n) ≡ 1 = ap one_if (ap f (sym here) ∙ is) in omega (arith, last)))
    (λ (before : k ≡ n → ⊥). (let step = count_found n f k (omega (arith, lt, before)) is in omega (arith, step)))
    (cases_eq k n)

pub count_none : (n : ℕ) (f : ℕ → Bool) → ((k : ℕ) → k < n → f k ≡ false) → count_below n f ≡ 0
count_none zero f h = refl
count_none (suc n) f h =
    let step = count_none n f (λ k lk. h k (omega arith)) in
    let last : one_if (f n) ≡ 0 = ap one_if (h n (omega arith)) in
    omega arith

both_counted : (n : ℕ) (f : ℕ → Bool) → count_below n f + count_below n (λ j. not (f j)) ≡ n
both_counted zero f = refl
both_counted (suc n) f = by_last (f n) (both_counted n f) where
  by_last : (x : Bool) → count_below n f + count_below n (λ j. not (f j)) ≡ n
      → count_below n f + (if x then 1 else 0) + (count_below n (λ j. not (f j)) + (if not x then 1 else 0)) ≡ suc n
  by_last true rest = omega (arith, rest)
  by_last false rest = omega (arith, rest)

pub none_counted : (n : ℕ) (f : ℕ → Bool) → count_below n f ≡ 0 → (k : ℕ) → k < n → f k ≡ false
none_counted n f none k lk = by_value (f k) refl where
  by_value : (x : Bool) → f k ≡ x → x ≡ false
  by_value false is = refl
  by_value true is = absurd (let short = count_short n (λ j. not (f j)) k lk (ap not is) in
      let whole = both_counted n f in omega (arith, short, none, whole))

-- where just one number passes a test, no other does
pub one_alone : (n : ℕ) (test : ℕ → Bool) (w q : ℕ) → w < n → q < n → q ≢ w → test w ≡ true → count_below n test ≡ 1 → test q ≡ false
one_alone n test w q lw lq apart here one = by_test (test q) refl where
  without : ℕ → Bool
  without k = if k == w then false else test k

  by_test : (x : Bool) → test q ≡ x → x ≡ false
  by_test false is = refl
  by_test true is =
      let at = count_at n test without w lw (λ k lk other. sym (ap (λ (x : Bool). if x then false else test k) (ne_eqb k w other))) in
      let zero_w : without w ≡ false = ap (λ (x : Bool). if x then false else test w) (eq-eqb w w refl) in
      let one_q : without q ≡ true = ap (λ (x : Bool). if x then false else test q) (ne_eqb q w apart) ∙ is in
      absurd (false≢true (sym (none_counted n without (omega (arith, at, one, ap one_if here, ap one_if zero_w)) q lq) ∙ one_q))

-- no number but i passes a test where no more pass than that one
pub few_others : (n : ℕ) (f : ℕ → Bool) (i : ℕ) → i < n → nat_le (count_below n f) (one_if (f i)) ≡ all_below n (λ k. not (f k) || (k == i))
few_others n f i li = by_all (all_below n (λ k. not (f k) || (k == i))) refl where
  others : ℕ → Bool
  others k = if k == i then false else f k

  counted : count_below n f ≡ count_below n others + one_if (f i)
  counted =
      let at = count_at n f others i li (λ k lk apart. sym (ap (λ (x : Bool). if x then false else f k) (ne_eqb k i apart))) in
      let here = ap one_if (ap (λ (x : Bool). if x then false else f i) (eq-eqb i i refl)) in
      omega (arith, at, here)

  by_test : (k : ℕ) (x y : Bool) → (k == i) ≡ x → f k ≡ y → (not y || x) ≡ true → others k ≡ false
  by_test k true y same is fits = ap (λ (z : Bool). if z then false else f k) same
  by_test k false false apart is fits = ap (λ (z : Bool). if z then false else f k) apart ∙ is
  by_test k false true apart is fits = absurd (false≢true fits)

  by_other : (k : ℕ) (x y : Bool) → (k == i) ≡ x → f k ≡ y → others k ≡ false → (not y || x) ≡ true
  by_other k x false same is none = refl
  by_other k true true same is none = refl
  by_other k false true apart is none = absurd (false≢true
      (sym none ∙ (ap (λ (z : Bool). if z then false else f k) apart ∙ is)))

  by_all : (x : Bool) → all_below n (λ k. not (f k) || (k == i)) ≡ x → nat_le (count_below n f) (one_if (f i)) ≡ x
  by_all true each =
      let none = count_none n others (λ k lk. by_test k (k == i) (f k) refl refl (all_at n (λ j. not (f j) || (j == i)) k each lk)) in
      let whole = counted in
      le-leb (count_below n f) (one_if (f i)) (omega (arith, none, whole))
  by_all false some = false_from_ne_true (nat_le (count_below n f) (one_if (f i))) (λ few.
      let le = leb-true (count_below n f) (one_if (f i)) few in
      let whole = counted in
      let none : count_below n others ≡ 0 = omega (arith, le, whole) in
      false≢true (sym some ∙ all_found n (λ j. not (f j) || (j == i)) (λ k lk.
      by_other k (k == i) (f k) refl refl (none_counted n others none k lk))))

pub sum_same : (n : ℕ) (f g : ℕ → ℕ) → ((k : ℕ) → k < n → f k ≡ g k) → sum_below n f ≡ sum_below n g
sum_same zero f g h = refl
sum_same (suc n) f g h =
    let step = sum_same n f g (λ k lk. h k (omega arith)) in
    let last = h n (omega arith) in
    omega arith

pub sum_none : (n : ℕ) (f : ℕ → ℕ) → ((k : ℕ) → k < n → f k ≡ 0) → sum_below n f ≡ 0
sum_none zero f h = refl
sum_none (suc n) f h =
    let step = sum_none n f (λ k lk. h k (omega arith)) in
    let last = h n (omega arith) in
    omega arith

-- sums of functions that agree but at i
pub sum_at : (n : ℕ) (f g : ℕ → ℕ) (i : ℕ) → i < n → ((k : ℕ) → k < n → k ≢ i → f k ≡ g k)
    → sum_below n f + g i ≡ sum_below n g + f i
sum_at zero f g i lt same = absurd (omega arith)
sum_at (suc n) f g i lt same =
    ⊎_elim
    (λ (here : i ≡ n).
    let below : sum_below n f ≡ sum_below n g = sum_same n f g (λ k lk. same k (omega arith) (omega arith)) in
    rw here (omega arith))
    (λ (before : i ≡ n → ⊥).
    let step = sum_at n f g i (omega arith) (λ k lk apart. same k (omega arith) apart) in
    let last = same n (omega arith) (λ e. before (sym e)) in
    omega arith)
    (cases_eq i n)
