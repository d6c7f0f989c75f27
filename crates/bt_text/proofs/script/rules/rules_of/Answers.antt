use Rattle.std.proofs.Common.{◌≡◌, ◌<◌, ◌≤◌, ℕ, List, [], ◌∷◌, length, map, None, Bor, refl, arith}
use Rattle.bt_text.specs.RulesLines.{rules_of_fields}
use Rattle.bt_text.proofs.script.rules.rules_of.Goals as goal

pub returns-in_default-clause-reads : goal.returns-in_default-clause-reads
returns-in_default-clause-reads c = short c.args.fields.now c.in_default.len_below where
  short : (fields : List (Bor (List ℕ))) → length fields < 3 → rules_of_fields c.args.pieces (map (λ x. x.now) fields) ≡ None
  short [] few = refl
  short (a ∷ []) few = refl
  short (a ∷ b ∷ []) few = refl
  short (a ∷ b ∷ d ∷ rest) few = absurd (omega (arith, few))

pub returns-in_default-2-clause-reads : goal.returns-in_default-2-clause-reads
returns-in_default-2-clause-reads c = long c.args.fields.now c.in_default.len_at_least where
  long : (fields : List (Bor (List ℕ))) → 7 ≤ length fields → rules_of_fields c.args.pieces (map (λ x. x.now) fields) ≡ None
  long [] many = absurd (omega (arith, many))
  long (a ∷ []) many = absurd (omega (arith, many))
  long (a ∷ b ∷ []) many = absurd (omega (arith, many))
  long (a ∷ b ∷ d ∷ []) many = absurd (omega (arith, many))
  long (a ∷ b ∷ d ∷ e ∷ []) many = absurd (omega (arith, many))
  long (a ∷ b ∷ d ∷ e ∷ f ∷ []) many = absurd (omega (arith, many))
  long (a ∷ b ∷ d ∷ e ∷ f ∷ g ∷ []) many = absurd (omega (arith, many))
  long (a ∷ b ∷ d ∷ e ∷ f ∷ g ∷ k ∷ rest) many = refl
