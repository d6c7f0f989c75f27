use Rattle.std.proofs.Common.{◌≡◌, ◌+◌, [], ◌∷◌, ◌++◌, length, get_or, vec_len, rules, arith, below_more, sym, ap, subst, ◌∙◌}
use Rattle.std.proofs.lemmas.Grind.{common_steps}
use Rattle.std.proofs.lemmas.List.{get_or_append_left}
use Rattle.std.proofs.Math.Seq.{get_or-append_seam}
use Rattle.std.specs.Vec.Iter.{into_iter_items}
use Rattle.std.specs.PromisedHandle.{KeepsAt}
use Rattle.bt_session.proofs.threads.join_each.Goals as goal

-- The handle that is joined stood first among the rest, so it is the one at the next place.
pub loop-handle-preserved : goal.loop-handle-preserved
loop-handle-preserved g c =
    let was = c.loop-handle.invariant in let step = c.in-Some.ensures.steps in let old = c.loop-handle.all.items in let done =
    vec_len c.loop-handle.all in
    let new = c.push_reserved.new.self.items in
    let handle = c.in-Some.handle in let r = c.join.result in
    let handles = into_iter_items c.into_iter-handle-iterator.result in let Kept = KeepsAt g.P.Promise handles in
    let many : done ≡ length old = search rules in
    let next : handle ≡ get_or handles done handle = let h = was.1 0 handle in grind rules in
    let here : Kept done r = record { handle = handle; handle_is = next; kept = c.join.ensures } in
    let grown : vec_len c.push_reserved.new.self ≡ done + 1 = omega (arith, c.push_reserved.ensures.len) in
    let items = c.push_reserved.ensures.items in (
      omega (arith, was.0, step.1, grown),
      (λ k d below. let h = was.1 (k + 1) d in grind rules),
      (λ k x below. below_more (λ i. Kept i (get_or new i x)) done
          (λ i low. subst (Kept i) (sym (ap (λ l. get_or l i x) items ∙ get_or_append_left old (r ∷ []) x i (omega (arith, low, many))))
          (was.2 i x low))
          (subst (Kept done) (sym (ap (λ l. get_or l done x) items ∙ (ap (λ n. get_or (old ++ r ∷ []) n x) many ∙ get_or-append_seam old r [] x)))
          here) k (omega (arith, below, grown))),
      omega (arith, was.3, step.1, grown, c.push_reserved.ensures.capacity),
    )

pub returns-clause-each : goal.returns-clause-each
returns-clause-each g c = grind (arith, common_steps)
