-- What moves of the groups of unbegun pieces leave, slot by slot.
use Rattle.std.proofs.Common.{◌≡◌, ◌⊎◌, ℕ, ◌+◌, ◌-◌, ◌*◌, ◌<◌, ◌≤◌, ◌&&◌, Bool, List, length, ap, sym, ◌∙◌, arith, inl, inr, refl}
use Rattle.std.specs.Prelude.{nat_le, nat_lt, if◌then◌else◌}
use Rattle.std.proofs.lemmas.Bool.{cases_eq, cases_lt, lt-ltb, le-ltb}
use Rattle.bt_tables.specs.Orders.{at, AreMoved, NoneBetween, lowered_between, raised_between}
use Rattle.bt_tables.specs.Standings.{AreOpen, NoneCrowded, lowered_in, place_in, place_of, raised_in}
use Rattle.bt_tables.specs.declared.piece.Stage.TheVariants.{Open}
use Rattle.bt_tables.specs.declared.piece.TheConstants.{SPAN, UNBEGUN}
use Rattle.bt_tables.proofs.Borders.{between, lowered_is, raised_is}

-- ---- a group moves, or stays

pub raised_cases : (slots g : ℕ) → ((g < slots * SPAN) × (UNBEGUN ≤ place_in g) × (place_in g < SPAN - 1) × (raised_in slots g ≡ g + 1))
    ⊎ (((slots * SPAN ≤ g) ⊎ ((place_in g < UNBEGUN) ⊎ (SPAN - 1 ≤ place_in g))) × (raised_in slots g ≡ g))
raised_cases slots g =
    let inside = nat_le UNBEGUN (place_in g) && nat_lt (place_in g) (SPAN - 1) in
    let either : Bool → ℕ = λ b. if b then g + 1 else g in
    elim (cases_lt g (slots * SPAN)) [
      | inl low ↦
          let first = ap (λ (b : Bool). either (b && inside)) (lt-ltb g (slots * SPAN) low) in
          elim (between UNBEGUN (SPAN - 1) (place_in g)) [
            | inl is ↦ inl (low, is.0, is.1, first ∙ ap either is.2)
            | inr other ↦ inr (inr other.0, first ∙ ap either other.1)
          ]
      | inr high ↦ inr (inl high, ap (λ (b : Bool). either (b && inside)) (le-ltb g (slots * SPAN) high))
    ]

pub lowered_cases : (slots g : ℕ) → ((g < slots * SPAN) × (UNBEGUN < place_in g) × (lowered_in slots g ≡ g - 1))
    ⊎ (((slots * SPAN ≤ g) ⊎ (place_in g ≤ UNBEGUN)) × (lowered_in slots g ≡ g))
lowered_cases slots g =
    let inside = nat_lt UNBEGUN (place_in g) in
    let either : Bool → ℕ = λ b. if b then g - 1 else g in
    elim (cases_lt g (slots * SPAN)) [
      | inl low ↦
          let first = ap (λ (b : Bool). either (b && inside)) (lt-ltb g (slots * SPAN) low) in
          elim (cases_lt UNBEGUN (place_in g)) [
            | inl more ↦ inl (low, more, first ∙ ap either (lt-ltb UNBEGUN (place_in g) more))
            | inr less ↦ inr (inr less, first ∙ ap either (le-ltb UNBEGUN (place_in g) less))
          ]
      | inr high ↦ inr (inl high, ap (λ (b : Bool). either (b && inside)) (le-ltb g (slots * SPAN) high))
    ]

-- ---- slot by slot

pub raised_none : (groups : List ℕ) → AreMoved (raised_in 0) groups groups
raised_none groups = record {
  len = refl;
  each = λ p lp. (let is = raised_cases 0 (at groups p) in omega (arith, is));
}

pub lowered_none : (groups : List ℕ) → AreMoved (lowered_in 0) groups groups
lowered_none groups = record {
  len = refl;
  each = λ p lp. (let is = lowered_cases 0 (at groups p) in omega (arith, is));
}

pub raised_more : (slots : ℕ) (old mid new : List ℕ) → AreMoved (raised_in slots) old mid
    → AreMoved (raised_between (slots * SPAN + UNBEGUN) (slots * SPAN + SPAN - 1)) mid new → AreMoved (raised_in (slots + 1)) old new
raised_more slots old mid new first second = record {
  len = second.len ∙ first.len;
  each = λ p lp.
      let one = first.each p lp in
      let two = second.each p (omega (arith, lp, first.len)) in
      let before = raised_cases slots (at old p) in
      let now = raised_is (slots * SPAN + UNBEGUN) (slots * SPAN + SPAN - 1) (at mid p) in
      let after = raised_cases (slots + 1) (at old p) in
      omega (arith, one, two, before, now, after);
}

pub lowered_more : (slots : ℕ) (old mid new : List ℕ) → AreMoved (lowered_in slots) old mid
    → AreMoved (lowered_between (slots * SPAN + UNBEGUN + 1) (slots * SPAN + SPAN)) mid new → AreMoved (lowered_in (slots + 1)) old new
lowered_more slots old mid new first second = record {
  len = second.len ∙ first.len;
  each = λ p lp.
      let one = first.each p lp in
      let two = second.each p (omega (arith, lp, first.len)) in
      let before = lowered_cases slots (at old p) in
      let now = lowered_is (slots * SPAN + UNBEGUN + 1) (slots * SPAN + SPAN) (at mid p) in
      let after = lowered_cases (slots + 1) (at old p) in
      omega (arith, one, two, before, now, after);
}

-- groups between which there is none don't move
pub raised_nothing : (low high : ℕ) (groups : List ℕ) → NoneBetween groups low high → AreMoved (raised_between low high) groups groups
raised_nothing low high groups none = record {
  len = refl;
  each = λ p lp. (let is = raised_is low high (at groups p) in let past = none p lp in grind (arith, is, past));
}

pub lowered_nothing : (low high : ℕ) (groups : List ℕ) → NoneBetween groups low high → AreMoved (lowered_between low high) groups groups
lowered_nothing low high groups none = record {
  len = refl;
  each = λ p lp. (let is = lowered_is low high (at groups p) in let past = none p lp in grind (arith, is, past));
}

pub crowded_more : (slots : ℕ) (groups : List ℕ) → NoneCrowded slots groups → NoneBetween groups ((slots + 1) * SPAN - 1) ((slots + 1) * SPAN)
    → NoneCrowded (slots + 1) groups
crowded_more slots groups few none p lp low =
    elim (cases_lt (at groups p) (slots * SPAN)) [
      | inl before ↦ few p lp before
      | inr from ↦ elim (cases_lt (at groups p) ((slots + 1) * SPAN - 1)) [
        | inl inside ↦ omega (arith, from, inside)
        | inr last ↦ (let past = none p lp (omega (arith, last)) in omega (arith, past, low))
      ]
    ]

-- ---- the open pieces stay open, and no other opens

abbrev pub Keeps : (ℕ → ℕ) → ℕ → Type 0
Keeps move g = ((place_in (move g) ≡ place_of Open) × (place_in g ≡ place_of Open))
    ⊎ ((place_in (move g) ≡ place_of Open → ⊥) × (place_in g ≡ place_of Open → ⊥))

stays : (move : ℕ → ℕ) (g : ℕ) → move g ≡ g → Keeps move g
stays move g is =
    elim (cases_eq (place_in g) (place_of Open)) [
      | inl two ↦ inl (ap place_in is ∙ two, two)
      | inr other ↦ inr (λ two. other (sym (ap place_in is) ∙ two), other)
    ]

pub raised_keeps : (slots g : ℕ) → Keeps (raised_in slots) g
raised_keeps slots g =
    elim (raised_cases slots g) [
      | inl is ↦ inr (λ two. omega (arith, is.1, is.2, two, ap place_in is.3), λ two. omega (arith, is.1, two))
      | inr other ↦ stays (raised_in slots) g other.1
    ]

pub lowered_keeps : (slots g : ℕ) → Keeps (lowered_in slots) g
lowered_keeps slots g =
    elim (lowered_cases slots g) [
      | inl is ↦ inr (λ two. omega (arith, is.1, two, ap place_in is.2), λ two. omega (arith, is.1, two))
      | inr other ↦ stays (lowered_in slots) g other.1
    ]

module _ (move : ℕ → ℕ) (keeps : (g : ℕ) → Keeps move g) (old new : List ℕ) (bound : ℕ) (numbers : List ℕ)
    (moved : AreMoved move old new) (are : AreOpen old bound numbers) where
  pub open_moved : AreOpen new bound numbers
  open_moved = record {
    bound_is = are.bound_is ∙ sym moved.len;
    each = λ p has.
        let known = are.each p has in (
          omega (arith, known.0, moved.len),
          elim (keeps (at old p)) [
            | inl both ↦ ap place_in (moved.each p known.0) ∙ both.0
            | inr none ↦ absurd (none.1 known.1)
          ],
        );
    all = λ p lp is.
        let within : p < length old = omega (arith, lp, moved.len) in
        elim (keeps (at old p)) [
          | inl both ↦ are.all p within both.1
          | inr none ↦ absurd (none.0 (sym (ap place_in (moved.each p within)) ∙ is))
        ];
  }
