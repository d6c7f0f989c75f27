-- Where a search in a rising list ends, and what is left once a number came or went there.
use Rattle.std.proofs.Common.{◌≡◌, ◌≢◌, ◌⊎◌, ℕ, zero, suc, ◌+◌, ◌-◌, ◌<◌, ◌≤◌, true, false, List, length, ap, sym, ◌∙◌, arith, ⊎_elim, inl, inr}
use Rattle.std.proofs.Common.{true≢false, subst, Ok, Err, nat_cmp}
use Rattle.std.specs.List.{insert, remove}
use Rattle.std.proofs.lemmas.Bool.{cases_eq, cases_lt}
use Rattle.std.proofs.lemmas.List.Edits.{length-insert, get_or-insert_below, get_or-insert_at, get_or-insert_above, length-remove}
use Rattle.std.proofs.lemmas.List.Edits.{get_or-remove_below, get_or-remove_above}
use Rattle.std.proofs.lemmas.List.Sorted.{searched}
use Rattle.std.specs.List.Sorted.{IsBinarySearchResult}
use Rattle.bt_tables.specs.Orders.{at}
use Rattle.bt_tables.specs.Risings.{IsRising, Rises, IsIn, Puts}

-- from what holds of later places alone
rises_from : (xs : List ℕ) (i j : ℕ) → (i < j → j < length xs → at xs i < at xs j) → Rises xs i j
rises_from xs i j up = ⊎_elim
    (λ (later : i < j). ⊎_elim (λ (within : j < length xs). inl (up later within))
    (λ (past : length xs ≤ j). inr (inr past)) (cases_lt j (length xs)))
    (λ (back : j ≤ i). inr (inl back))
    (cases_lt i j)

module _ (bound : ℕ) (xs : List ℕ) (rising : IsRising bound xs) where
  pub up : (i j : ℕ) → i ≤ j → j < length xs → at xs i ≤ at xs j
  up i j le lj = ⊎_elim
      (λ (same : i ≡ j). (let one = ap (at xs) same in omega (arith, one)))
      (λ (apart : i ≡ j → ⊥). (let pair = rising.rises i j in omega (arith, pair, le, lj, apart)))
      (cases_eq i j)

  -- a number is no less than its place
  past_place : (i : ℕ) → i < length xs → i ≤ at xs i
  past_place zero li = omega arith
  past_place (suc n) li = (let pair = rising.rises n (suc n) in omega (arith, pair, li, past_place n (omega (arith, li))))

  -- so there are no more than the bound
  pub few : length xs ≤ bound
  few = ⊎_elim
      (λ (some : 0 < length xs). (let last = length xs - 1 in omega (
        arith,
        some,
        rising.below last (omega (arith, some)),
        past_place last (omega (arith, some)),
      )))
      (λ (none : length xs ≤ 0). omega (arith, none))
      (cases_lt 0 (length xs))

-- ---- number p comes in at place k

module _ (bound : ℕ) (xs : List ℕ) (p k : ℕ) (lk : k ≤ length xs) where
  came : (i : ℕ) → ((i < k) × (at (insert xs k p) i ≡ at xs i)) ⊎ (((i ≡ k) × (at (insert xs k p) i ≡ p))
      ⊎ ((k < i) × (at (insert xs k p) i ≡ at xs (i - 1))))
  came i = ⊎_elim
      (λ (before : i < k). inl (before, get_or-insert_below xs k p 0 i before lk))
      (λ (from : k ≤ i). ⊎_elim
      (λ (same : i ≡ k). inr (inl (same, ap (at (insert xs k p)) same ∙ get_or-insert_at xs k p 0 lk)))
      (λ (apart : i ≡ k → ⊥).
      let back : i ≡ i - 1 + 1 = omega (arith, from, apart) in
      inr (inr (omega (arith, from, apart), ap (at (insert xs k p)) back ∙ get_or-insert_above xs k p 0 (i - 1) (omega (arith, from, apart)) lk)))
      (cases_eq i k))
      (cases_lt i k)

  pub comes : Puts xs p true (insert xs k p)
  comes =
      let long = length-insert xs k p lk in
      record {
        own_in = λ _. (k, omega (arith, long, lk), get_or-insert_at xs k p 0 lk);
        own_out = λ no _. true≢false no;
        each = λ q apart has. ⊎_elim
            (λ r. (has.0, omega (arith, r.0, lk), sym r.1 ∙ has.2))
            (⊎_elim
            (λ r. absurd (apart (sym has.2 ∙ r.1)))
            (λ r. (has.0 - 1, omega (arith, r.0, has.1, long), sym r.1 ∙ has.2)))
            (came has.0);
        all = λ q apart has. ⊎_elim
            (λ (before : has.0 < k). (has.0, omega (arith, has.1, long), get_or-insert_below xs k p 0 has.0 before lk ∙ has.2))
            (λ (from : k ≤ has.0). (has.0 + 1, omega (arith, has.1, long), get_or-insert_above xs k p 0 has.0 from lk ∙ has.2))
            (cases_lt has.0 k);
      }

  module _ (rising : IsRising bound xs) (lp : p < bound) (low : (i : ℕ) → i < k → at xs i < p)
      (high : (i : ℕ) → k ≤ i → i < length xs → p < at xs i) where
    before : (i : ℕ) → (at xs i < p) ⊎ (k ≤ i)
    before i = ⊎_elim (λ (lt : i < k). inl (low i lt)) (λ (le : k ≤ i). inr le) (cases_lt i k)

    behind : (i : ℕ) → (p < at xs i) ⊎ ((i < k) ⊎ (length xs ≤ i))
    behind i = ⊎_elim (λ (lt : i < k). inr (inl lt))
        (λ (le : k ≤ i). ⊎_elim (λ (lx : i < length xs). inl (high i le lx))
        (λ (past : length xs ≤ i). inr (inr past)) (cases_lt i (length xs)))
        (cases_lt i k)

    pub still_rises : IsRising bound (insert xs k p)
    still_rises =
        let long = length-insert xs k p lk in
        record {
          below = λ i li. ⊎_elim
              (λ r. (let old = rising.below i (omega (arith, r.0, lk)) in omega (arith, r.1, old)))
              (⊎_elim (λ r. omega (arith, r.1, lp))
              (λ r. (let old = rising.below (i - 1) (omega (arith, r.0, li, long)) in omega (arith, r.1, old))))
              (came i);
          rises = λ i j. rises_from (insert xs k p) i j (λ later within.
              let at_i = came i in
              let at_j = came j in
              let both = rising.rises i j in
              let parted = rising.rises i (j - 1) in
              let moved = rising.rises (i - 1) (j - 1) in
              let first = before i in
              let second = behind (j - 1) in
              omega (arith, at_i, at_j, both, parted, moved, first, second, later, within, long, lk));
        }

-- ---- number p goes from place k

module _ (bound : ℕ) (xs : List ℕ) (p k : ℕ) (rising : IsRising bound xs) (lk : k < length xs) (is : at xs k ≡ p) where
  left : (i : ℕ) → ((i < k) × (at (remove xs k) i ≡ at xs i)) ⊎ ((k ≤ i) × (at (remove xs k) i ≡ at xs (i + 1)))
  left i = ⊎_elim
      (λ (lt : i < k). inl (lt, get_or-remove_below xs k 0 i lt lk))
      (λ (le : k ≤ i). inr (le, get_or-remove_above xs k 0 i le lk))
      (cases_lt i k)

  apart_from : (i : ℕ) → i < length xs → i ≢ k → at xs i ≢ p
  apart_from i li apart same =
      let one = rising.rises i k in
      let other = rising.rises k i in
      omega (arith, one, other, li, lk, apart, same, is)

  pub goes : Puts xs p false (remove xs k)
  goes =
      let short = length-remove xs k lk in
      record {
        own_in = λ no. absurd (true≢false (sym no));
        own_out = λ _ has. ⊎_elim
            (λ r. apart_from has.0 (omega (arith, r.0, lk)) (λ same. omega (arith, same, r.0)) (sym r.1 ∙ has.2))
            (λ r. apart_from (has.0 + 1) (omega (arith, has.1, short)) (λ same. omega (arith, same, r.0)) (sym r.1 ∙ has.2))
            (left has.0);
        each = λ q apart has. ⊎_elim
            (λ r. (has.0, omega (arith, r.0, lk), sym r.1 ∙ has.2))
            (λ r. (has.0 + 1, omega (arith, has.1, short), sym r.1 ∙ has.2))
            (left has.0);
        all = λ q apart has. ⊎_elim
            (λ (lt : has.0 < k). (has.0, omega (arith, lt, lk, short), get_or-remove_below xs k 0 has.0 lt lk ∙ has.2))
            (λ (le : k ≤ has.0).
            let past : has.0 ≢ k = λ same. apart (sym has.2 ∙ (ap (at xs) same ∙ is)) in
            let back : has.0 - 1 + 1 ≡ has.0 = omega (arith, le, past) in (
              has.0 - 1,
              omega (arith, le, past, has.1, short),
              get_or-remove_above xs k 0 (has.0 - 1) (omega (arith, le, past)) lk ∙ (ap (at xs) back ∙ has.2),
            ))
            (cases_lt has.0 k);
      }

-- ---- nothing comes or goes

pub there : (xs : List ℕ) (p : ℕ) → IsIn xs p → Puts xs p true xs
there xs p has = record { own_in = λ _. has; own_out = λ no _. true≢false no; each = λ q apart is. is; all = λ q apart is. is }

pub not_there : (xs : List ℕ) (p k : ℕ) → ((i : ℕ) → i < k → at xs i < p) → ((i : ℕ) → k ≤ i → i < length xs → p < at xs i)
    → Puts xs p false xs
not_there xs p k low high = record {
  own_in = λ no. absurd (true≢false (sym no));
  own_out = λ _ has. ⊎_elim
      (λ (lt : has.0 < k). omega (arith, low has.0 lt, has.2))
      (λ (le : k ≤ has.0). omega (arith, high has.0 le has.1, has.2))
      (cases_lt has.0 k);
  each = λ q apart is. is;
  all = λ q apart is. is;
}

-- ---- what a binary search in a rising list says

pub gap : (bound : ℕ) (xs ys : List ℕ) (p k : ℕ) → IsRising bound xs → ys ≡ xs → IsBinarySearchResult (λ y. nat_cmp y p) ys (Err k)
    → (k ≤ length xs) × ((i : ℕ) → i < k → at xs i < p) × ((i : ℕ) → k ≤ i → i < length xs → p < at xs i)
gap bound xs ys p k rising same says = searched xs p (Err k)
    (subst (λ (zs : List ℕ). IsBinarySearchResult (λ y. nat_cmp y p) zs (Err k)) same says) (up bound xs rising)

pub spot : (bound : ℕ) (xs ys : List ℕ) (p k : ℕ) → IsRising bound xs → ys ≡ xs → IsBinarySearchResult (λ y. nat_cmp y p) ys (Ok k)
    → (k < length xs) × (at xs k ≡ p)
spot bound xs ys p k rising same says = searched xs p (Ok k)
    (subst (λ (zs : List ℕ). IsBinarySearchResult (λ y. nat_cmp y p) zs (Ok k)) same says) (up bound xs rising)
