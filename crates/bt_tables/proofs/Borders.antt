-- What is left of an order once borders of its groups moved over numbers that stayed where they are.
use Rattle.std.proofs.Common.{◌≡◌, ◌⊎◌, ℕ, ◌+◌, ◌-◌, ◌<◌, ◌≤◌, ◌&&◌, Bool, true, false, List, length, ap, ◌∙◌, arith, inl, inr}
use Rattle.std.specs.Prelude.{nat_le, nat_lt, if◌then◌else◌}
use Rattle.std.proofs.lemmas.Bool.{cases_lt, le-leb, lt-leb, lt-ltb, le-ltb}
use Rattle.bt_tables.specs.Orders.{at, AreMoved, AreSplit, lowered_between, raised_between}

-- a group is one from low up to high, or isn't
abbrev pub IsBetween : ℕ → ℕ → ℕ → Bool → Type 0
IsBetween low high g found = ((low ≤ g) × (g < high) × (found ≡ true)) ⊎ (((g < low) ⊎ (high ≤ g)) × (found ≡ false))

pub between : (low high g : ℕ) → IsBetween low high g (nat_le low g && nat_lt g high)
between low high g =
    elim (cases_lt g low) [
      | inl before ↦ inr (inl before, ap (λ (b : Bool). b && nat_lt g high) (lt-leb low g before))
      | inr from ↦ elim (cases_lt g high) [
        | inl below ↦ inl (from, below, ap (λ (b : Bool). b && nat_lt g high) (le-leb low g from) ∙ lt-ltb g high below)
        | inr behind ↦ inr (inr behind, ap (λ (b : Bool). b && nat_lt g high) (le-leb low g from) ∙ le-ltb g high behind)
      ]
    ]

pub raised_is : (low high g : ℕ) → ((low ≤ g) × (g < high) × (raised_between low high g ≡ g + 1))
    ⊎ (((g < low) ⊎ (high ≤ g)) × (raised_between low high g ≡ g))
raised_is low high g =
    elim (between low high g) [
      | inl is ↦ inl (is.0, is.1, ap (λ (b : Bool). if b then g + 1 else g) is.2)
      | inr other ↦ inr (other.0, ap (λ (b : Bool). if b then g + 1 else g) other.1)
    ]

pub lowered_is : (low high g : ℕ) → ((low ≤ g) × (g < high) × (lowered_between low high g ≡ g - 1))
    ⊎ (((g < low) ⊎ (high ≤ g)) × (lowered_between low high g ≡ g))
lowered_is low high g =
    elim (between low high g) [
      | inl is ↦ inl (is.0, is.1, ap (λ (b : Bool). if b then g - 1 else g) is.2)
      | inr other ↦ inr (other.0, ap (λ (b : Bool). if b then g - 1 else g) other.1)
    ]

module _ (groups places ends groups' ends' : List ℕ) (low high : ℕ) (split : AreSplit groups places ends) (some : 0 < low) (rise : low ≤ high)
    (len : length ends' ≡ length ends) (outside : (n : ℕ) → n < low → at ends' n ≡ at ends n) where
  -- the numbers from low up to high are in the next groups, and each of these ends where the one before it did
  module _ (few : high < length ends) (moved : AreMoved (raised_between low high) groups groups')
      (inside : (n : ℕ) → low ≤ n → n < high → at ends' n ≡ at ends (n - 1)) (behind : (n : ℕ) → high ≤ n → at ends' n ≡ at ends n) where
    ends_up : (n : ℕ) → ((low ≤ n) × (n < high) × (at ends' n ≡ at ends (n - 1))) ⊎ (((n < low) ⊎ (high ≤ n)) × (at ends' n ≡ at ends n))
    ends_up n =
        elim (cases_lt n low) [
          | inl before ↦ inr (inl before, outside n before)
          | inr from ↦ elim (cases_lt n high) [
            | inl below ↦ inl (from, below, inside n from below)
            | inr past ↦ inr (inr past, behind n past)
          ]
        ]

    pub raised_split : AreSplit groups' places ends'
    raised_split = record {
      same = omega (arith, moved.len, split.same);
      few = (omega (arith, split.few.0), omega (arith, split.few.1, len));
      within = λ n ln.
          let old = split.within n (omega arith) in
          let before = split.within (n - 1) (omega arith) in
          let end = ends_up n in
          omega (arith);
      known = λ p lp.
          let old = split.known p lp in
          let group = moved.each p (omega (arith, lp, split.same)) in
          let is = raised_is low high (at groups p) in
          omega (arith);
      side = λ p n lp ln.
          let old = split.side p n lp (omega arith) in
          let before = split.side p (n - 1) lp (omega arith) in
          let group = moved.each p (omega (arith, lp, split.same)) in
          let is = raised_is low high (at groups p) in
          let end = ends_up n in
          grind (arith, old, before, group, is, end);
    }

module _ (groups places ends groups' ends' : List ℕ) (low high : ℕ) (split : AreSplit groups places ends) (some : 0 < low) (rise : low ≤ high)
    (len : length ends' ≡ length ends) (few : high ≤ length ends) (moved : AreMoved (lowered_between low high) groups groups')
    (outside : (n : ℕ) → n + 1 < low → at ends' n ≡ at ends n)
    (inside : (n : ℕ) → low ≤ n + 1 → n + 1 < high → at ends' n ≡ at ends (n + 1)) (behind : (n : ℕ) → high ≤ n + 1 → at ends' n ≡ at ends n) where
  ends_down : (n : ℕ) → ((low ≤ n + 1) × (n + 1 < high) × (at ends' n ≡ at ends (n + 1)))
      ⊎ (((n + 1 < low) ⊎ (high ≤ n + 1)) × (at ends' n ≡ at ends n))
  ends_down n =
      elim (cases_lt (n + 1) low) [
        | inl before ↦ inr (inl before, outside n before)
        | inr from ↦ elim (cases_lt (n + 1) high) [
          | inl below ↦ inl (from, below, inside n from below)
          | inr past ↦ inr (inr past, behind n past)
        ]
      ]

  -- the numbers from low up to high are in the groups before, and each of these ends where the one behind it did
  pub lowered_split : AreSplit groups' places ends'
  lowered_split = record {
    same = omega (arith, moved.len, split.same);
    few = (omega (arith, split.few.0), omega (arith, split.few.1, len));
    within = λ n ln.
        let old = split.within n (omega arith) in
        let end = ends_down n in
        elim (cases_lt (n + 1) (length ends)) [
          | inl more ↦ (let next = split.within (n + 1) more in omega (arith))
          | inr last ↦ omega (arith)
        ];
    known = λ p lp.
        let old = split.known p lp in
        let group = moved.each p (omega (arith, lp, split.same)) in
        let is = lowered_is low high (at groups p) in
        omega (arith);
    side = λ p n lp ln.
        let old = split.side p n lp (omega arith) in
        let group = moved.each p (omega (arith, lp, split.same)) in
        let is = lowered_is low high (at groups p) in
        let end = ends_down n in
        elim (cases_lt (n + 1) (length ends)) [
          | inl more ↦ (let next = split.side p (n + 1) lp more in grind (arith, old, next, group, is, end))
          | inr last ↦ grind (arith, old, group, is, end)
        ];
  }
