-- The list of the begun pieces with an unasked block, as one piece changes its group.
use mathlib.Core.Bool.{beq}
use Rattle.std.proofs.Common.{◌≡◌, ◌==◌, ◌<◌, ℕ, Bool, true, false, not, List, length, set, refl, ap, sym, ◌∙◌}
use Rattle.std.proofs.Common.{subst, arith, length-set, ⊎_elim, true≢false, eqb-true, eq-eqb, ne_eqb}
use Rattle.std.proofs.lemmas.Bool.{cases_eq}
use Rattle.std.proofs.lemmas.List.{get_or-set_same, get_or-set_other}
use Rattle.bt_tables.specs.Orders.{at}
use Rattle.bt_tables.specs.Risings.{IsIn, Puts}
use Rattle.bt_tables.specs.declared.piece.Stage.TheVariants.{Open}
use Rattle.bt_tables.specs.Standings.{AreOpen, place_in, place_of}

pub agree : (x y : Bool) → not (beq x y) ≡ false → x ≡ y
agree true true same = refl
agree false false same = refl
agree true false same = absurd (true≢false same)
agree false true same = absurd (true≢false same)

module _ (groups numbers : List ℕ) (bound p g : ℕ) (are : AreOpen groups bound numbers) (lp : p < length groups) where
  -- the piece is put in the list or taken out, by its group
  pub open_put : (opens : Bool) (now : List ℕ) → opens ≡ (place_in g == place_of Open) → Puts numbers p opens now → AreOpen (set groups p g) bound now
  open_put opens now is put =
      let own : at (set groups p g) p ≡ g = get_or-set_same groups p g 0 lp in
      let long = length-set groups p g in
      record {
        bound_is = are.bound_is ∙ sym long;
        each = λ q has. ⊎_elim
            (λ (same : q ≡ p). (
              omega (arith, same, lp, long),
              ap (λ (r : ℕ). place_in (at (set groups p g) r)) same
                  ∙ (ap place_in own ∙ opened (subst (IsIn now) same has)),
            ))
            (λ (apart : q ≡ p → ⊥).
            let old = are.each q (put.each q apart has) in
            (omega (arith, old.0, long), ap place_in (get_or-set_other groups p q g 0 apart) ∙ old.1))
            (cases_eq q p);
        all = λ q lq two. ⊎_elim
            (λ (same : q ≡ p). subst (IsIn now) (sym same)
            (put.own_in (is ∙ eq-eqb (place_in g) (place_of Open)
            (ap place_in (sym own) ∙ (ap (λ (r : ℕ). place_in (at (set groups p g) r)) (sym same) ∙ two)))))
            (λ (apart : q ≡ p → ⊥). put.all q apart (are.all q (omega (arith, lq, long))
            (ap place_in (sym (get_or-set_other groups p q g 0 apart)) ∙ two)))
            (cases_eq q p);
      }
    where
      opened : IsIn now p → place_in g ≡ place_of Open
      opened has = ⊎_elim (λ (two : place_in g ≡ place_of Open). two)
          (λ (other : place_in g ≡ place_of Open → ⊥). absurd (put.own_out (is ∙ ne_eqb (place_in g) (place_of Open) other) has))
          (cases_eq (place_in g) (place_of Open))

  -- the piece neither opens nor closes
  pub open_kept : (place_in (at groups p) == place_of Open) ≡ (place_in g == place_of Open) → AreOpen (set groups p g) bound numbers
  open_kept same = open_put (place_in g == place_of Open) numbers refl (record {
    own_in = λ yes. are.all p lp (eqb-true (place_in (at groups p)) (place_of Open) (same ∙ yes));
    own_out = λ no has. true≢false (sym (eq-eqb (place_in (at groups p)) (place_of Open) (are.each p has).1) ∙ (same ∙ no));
    each = λ q apart has. has;
    all = λ q apart has. has;
  })

  -- the piece is open neither before nor after
  pub open_outside : ¬ (place_in (at groups p) ≡ place_of Open) → ¬ (place_in g ≡ place_of Open) → AreOpen (set groups p g) bound numbers
  open_outside before after =
      open_kept (ne_eqb (place_in (at groups p)) (place_of Open) before ∙ sym (ne_eqb (place_in g) (place_of Open) after))

-- ---- a search that goes from the front
