use Rattle.std.proofs.Common.{◌≡◌, Bool, true, false, List, [], ◌∷◌, ◌++◌, map, refl, sym, ap, ◌∙◌, append_assoc, arith}
use Rattle.std.specs.Prelude.{◌||◌}
use Rattle.std.specs.List.{list_any}
use Rattle.std.proofs.lemmas.Grind.{common_steps}
use Rattle.bt_session.proofs.worked.part.Goals as goal

or_assoc : (a b c : Bool) → ((a || b) || c) ≡ (a || (b || c))
or_assoc true b c = refl
or_assoc false b c = refl

-- a part of the first element left goes to the end of the list
moved : {X Y : Type 0} (part : X → Y) (old new all : List Y) (items rest : List X) (x : X) → new ≡ old ++ part x ∷ [] → items ≡ x ∷ rest →
    old ++ map part items ≡ all → new ++ map part rest ≡ all
moved part old new all items rest x more left was =
    ap (λ l. l ++ map part rest) more ∙ append_assoc old (part x ∷ []) (map part rest) ∙ ap (λ l. old ++ map part l) (sym left) ∙ was

pub loop-session-preserved : goal.loop-session-preserved
loop-session-preserved g c = record {
  ends = moved (λ p. p.end) _ _ _ _ _ c.in-Some.session c.push_reserved.ensures.items c.in-Some.ensures.steps.0 c.loop-session.invariant.ends;
  workers = moved (λ p. p.worker) _ _ _ _ _ c.in-Some.session c.push_reserved-in-loop-session.ensures.items c.in-Some.ensures.steps.0
      c.loop-session.invariant.workers;
  streams = moved (λ p. p.stream) _ _ _ _ _ c.in-Some.session c.push_reserved-in-loop-session-2.ensures.items c.in-Some.ensures.steps.0
      c.loop-session.invariant.streams;
  room_ends = grind (arith, common_steps);
  room_workers = grind (arith, common_steps);
  same = grind (arith, common_steps);
  room_streams = grind (arith, common_steps);
  given_up = or_assoc c.loop-session.any c.in-Some.session.given_up _
      ∙ (ap (λ items. c.loop-session.any || list_any (λ p. p.given_up) items) (sym c.in-Some.ensures.steps.0) ∙ c.loop-session.invariant.given_up);
}

pub returns-clause-ends : goal.returns-clause-ends
returns-clause-ends g c = grind (arith, common_steps)

pub returns-clause-workers : goal.returns-clause-workers
returns-clause-workers g c = grind (arith, common_steps)

pub returns-clause-streams : goal.returns-clause-streams
returns-clause-streams g c = grind (arith, common_steps)

pub returns-clause-given_up : goal.returns-clause-given_up
returns-clause-given_up g c = grind (arith, common_steps)
