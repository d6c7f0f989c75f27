-- The order of candidates: by rank, and among those that rank alike in a round from a piece on.
use Rattle.std.proofs.Common.{◌≡◌, ◌⊎◌, ℕ, ◌+◌, ◌*◌, ◌<◌, ◌≤◌, Bool, true, false, Option, None, Some, ap, sym, ◌∙◌, arith, inl, inr, ⊎_elim}
use Rattle.std.specs.Prelude.{IfSome, nat_lt}
use Rattle.std.proofs.Math.Nat.{mul-le-mul_right}
use Rattle.std.proofs.lemmas.Bool.{cases_lt, cases_Bool, false≢true, le-ltb, lt-ltb, ltb-false, ltb-true}
use Rattle.bt_meta.specs.Layout.{piece_count}
use Rattle.bt_history.specs.Setting.{Setting}
use Rattle.bt_history.specs.History.{History}
use Rattle.bt_history.specs.Picks.{place_in_round}
use Rattle.bt_picker.specs.Search.{FindsFirst, FindsLeast, FirstWhere, earlier_of, order_of, rank_of}

-- ---- places in a round

pub place_before : (n first p : ℕ) → p < first → place_in_round n first p ≡ n + p
place_before n first p lt = rw (lt-ltb p first lt)

pub place_from : (n first p : ℕ) → first ≤ p → place_in_round n first p ≡ p
place_from n first p le = rw (le-ltb p first le)

pub place_bound : (n first p : ℕ) → p < n → place_in_round n first p < 2 * n
place_bound n first p lt = ⊎_elim
    (λ (before : p < first). (let is = place_before n first p before in omega (arith, is, lt)))
    (λ (from : first ≤ p). (let is = place_from n first p from in omega (arith, is, lt)))
    (cases_lt p first)

-- a piece that none from the first one on is before comes first in the round
pub place_least : (n first p r : ℕ) → first ≤ p → p < n → (r < first) ⊎ (p ≤ r) → place_in_round n first p ≤ place_in_round n first r
place_least n first p r from lt where_ =
    let own = place_from n first p from in ⊎_elim
    (λ (before : r < first). (let is = place_before n first r before in omega (arith, is, own, lt)))
    (λ (behind : p ≤ r). (let is = place_from n first r (omega (arith, from, behind)) in omega (arith, is, own, behind)))
    where_

-- two pieces on one side of the first one are in rising order, and of others the one that isn't before it comes first
module _ (n first p o : ℕ) (lp : p < n) (lo : o < n) where
  pub in_front : first ≤ p → o < first → nat_lt (place_in_round n first p) (place_in_round n first o) ≡ true
  in_front own other = rw (place_from n first p own, place_before n first o other) (lt-ltb p (n + o) (omega (arith, lp)))

  pub behind : p < first → first ≤ o → nat_lt (place_in_round n first p) (place_in_round n first o) ≡ false
  behind own other = rw (place_before n first p own, place_from n first o other) (le-ltb (n + p) o (omega (arith, lo)))

-- ---- rank and place in one number

pub ranks_first : (a b w x y : ℕ) → x < w → a < b → a * w + x < b * w + y
ranks_first a b w x y lx lt =
    let step : (a + 1) * w ≤ b * w = mul-le-mul_right w (omega (arith, lt)) in
    omega (arith, step, lx)

pub ranks_least : (a b w x y : ℕ) → y < w → a * w + x ≤ b * w + y → a ≤ b
ranks_least a b w x y ly le = ⊎_elim
    (λ (more : b < a). (let step : (b + 1) * w ≤ a * w = mul-le-mul_right w (omega (arith, more)) in absurd (omega (arith, step, ly, le))))
    (λ (least : a ≤ b). least)
    (cases_lt b a)

pub ranks_alike : (a b w x y : ℕ) → a ≡ b → x ≤ y → a * w + x ≤ b * w + y
ranks_alike a b w x y same le = (let equal : a * w ≡ b * w = ap (λ (m : ℕ). m * w) same in omega (arith, equal, le))

-- of one that ranks no earlier and yet doesn't come later the place is no later
pub later_place : (a b w x y : ℕ) → b ≤ a → a * w + x ≤ b * w + y → x ≤ y
later_place a b w x y more le = (let step : b * w ≤ a * w = mul-le-mul_right w more in omega (arith, step, le))

-- ranks that differ decide
pub order_apart : (a b w x y : ℕ) → x < w → y < w → (a ≡ b → ⊥) → nat_lt a b ≡ nat_lt (a * w + x) (b * w + y)
order_apart a b w x y lx ly apart = ⊎_elim
    (λ (less : a < b). lt-ltb a b less ∙ sym (lt-ltb (a * w + x) (b * w + y) (ranks_first a b w x y lx less)))
    (λ (more : b ≤ a).
    let step = ranks_first b a w y x ly (omega (arith, more, apart)) in
    le-ltb a b more ∙ sym (le-ltb (a * w + x) (b * w + y) (omega (arith, step))))
    (cases_lt a b)

-- and among those alike the places do
pub order_alike : (a b w x y : ℕ) → a ≡ b → nat_lt x y ≡ nat_lt (a * w + x) (b * w + y)
order_alike a b w x y same =
    let equal : a * w ≡ b * w = ap (λ (m : ℕ). m * w) same in ⊎_elim
    (λ (less : x < y). lt-ltb x y less ∙ sym (lt-ltb (a * w + x) (b * w + y) (omega (arith, less, equal))))
    (λ (more : y ≤ x). le-ltb x y more ∙ sym (le-ltb (a * w + x) (b * w + y) (omega (arith, more, equal))))
    (cases_lt x y)

module _ (s : Setting) (h : History) (rare : Bool) (first : ℕ) where
  -- one that comes first in order ranks first
  pub order_rank : (p r : ℕ) → r < piece_count s.torrent → order_of s h rare first p ≤ order_of s h rare first r
      → rank_of s h rare p ≤ rank_of s h rare r
  order_rank p r lr le = ranks_least (rank_of s h rare p) (rank_of s h rare r) (2 * piece_count s.torrent) _ _
      (place_bound (piece_count s.torrent) first r lr) le

  pub order_least : (test : ℕ → Bool) (found : Option ℕ)
      → FindsLeast test (order_of s h rare first) 0 (piece_count s.torrent) found → FindsLeast test (rank_of s h rare) 0 (piece_count s.torrent) found
  order_least test None none = none
  order_least test (Some p) some = (some.0, λ r low high passes. order_rank p r high (some.1 r low high passes))

-- ---- the first of two

module _ (test : ℕ → Bool) (n first : ℕ) (One Other Both : ℕ → Type 0) (each : (p : ℕ) → Both p → One p ⊎ Other p) where
  -- what is found among those of which one of two things is said
  pub first_of_both : (one other : Option ℕ) → FirstWhere test (place_in_round n first) n One one → FirstWhere test (place_in_round n first) n Other other
      → FirstWhere test (place_in_round n first) n Both (earlier_of n first one other)
  first_of_both None None none nor = λ p lt said. ⊎_elim (none p lt) (nor p lt) (each p said)
  first_of_both None (Some p) none some = (
    some.0,
    some.1,
    λ r lt said passes. ⊎_elim
        (λ (one : One r). absurd (false≢true (sym (none r lt one) ∙ passes)))
        (λ (other : Other r). some.2 r lt other passes)
        (each r said),
  )
  first_of_both (Some p) None some none = (
    some.0,
    some.1,
    λ r lt said passes. ⊎_elim
        (λ (one : One r). some.2 r lt one passes)
        (λ (other : Other r). absurd (false≢true (sym (none r lt other) ∙ passes)))
        (each r said),
  )
  first_of_both (Some p) (Some r) one other =
      elim (cases_Bool (nat_lt (place_in_round n first r) (place_in_round n first p))) [
        | inl is ↦ rw is (
          other.0,
          other.1,
          λ x lt said passes. ⊎_elim
              (λ (in_one : One x).
              let least = one.2 x lt in_one passes in
              let less = ltb-true (place_in_round n first r) (place_in_round n first p) is in
              omega (arith, least, less))
              (λ (in_other : Other x). other.2 x lt in_other passes)
              (each x said),
        )
        | inr is ↦ rw is (
          one.0,
          one.1,
          λ x lt said passes. ⊎_elim
              (λ (in_one : One x). one.2 x lt in_one passes)
              (λ (in_other : Other x).
              let least = other.2 x lt in_other passes in
              let less = ltb-false (place_in_round n first r) (place_in_round n first p) is in
              omega (arith, least, less))
              (each x said),
        )
      ]

-- ---- walks

module _ (test : ℕ → Bool) (n first : ℕ) where
  -- the first one from `first` on comes before all others
  pub walk_first : (high p : ℕ) → high ≤ n → FindsFirst test first high (Some p) → FirstWhere test (place_in_round n first) n (λ r. Unit {0}) (Some p)
  walk_first high p le some = (
    omega (arith, le, some.1),
    some.2,
    λ r lt said passes. place_least n first p r some.0 (omega (arith, le, some.1)) (⊎_elim
        (λ (before : r < first). inl before)
        (λ (from : first ≤ r). ⊎_elim
        (λ (in_front : r < p). absurd (false≢true (sym (some.3 r from in_front) ∙ passes)))
        (λ (behind : p ≤ r). inr behind)
        (cases_lt r p))
        (cases_lt r first)),
  )

module _ (s : Setting) (h : History) (first : ℕ) (test : ℕ → Bool) where
  -- where nothing else counts, the order is that of the round
  pub as_places : (Said : ℕ → Type 0) (found : Option ℕ) → FirstWhere test (order_of s h false first) (piece_count s.torrent) Said found
      → FirstWhere test (place_in_round (piece_count s.torrent) first) (piece_count s.torrent) Said found
  as_places Said None none = none
  as_places Said (Some p) some = (some.0, some.1, λ r lt said passes. (let le = some.2 r lt said passes in omega (arith, le)))

  pub order_first : (found : Option ℕ)
      → FirstWhere test (place_in_round (piece_count s.torrent) first) (piece_count s.torrent) (λ r. Unit {0}) found
      → (FindsLeast test (order_of s h false first) 0 (piece_count s.torrent) found) × IfSome found (λ p. p < piece_count s.torrent)
  order_first None none = (λ p low high. none p high tt, tt)
  order_first (Some p) some = ((some.1, λ r low high passes. (let le = some.2 r high tt passes in omega (arith, le))), some.0)

pub found_within : (test : ℕ → Bool) (rank : ℕ → ℕ) (n : ℕ) (Said : ℕ → Type 0) (found : Option ℕ) → FirstWhere test rank n Said found
    → IfSome found (λ p. p < n)
found_within test rank n Said None none = tt
found_within test rank n Said (Some p) some = some.0
