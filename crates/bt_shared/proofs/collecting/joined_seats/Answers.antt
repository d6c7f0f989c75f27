use Rattle.std.proofs.Common.{length, drop, ap, arith}
use Rattle.std.proofs.lemmas.Grind.{common_steps}
use Rattle.bt_shared.specs.Passes.{PassState}
use Rattle.bt_shared.proofs.Closings.{joined_more}
use Rattle.bt_shared.proofs.Spreading.{popped}
use Rattle.bt_shared.proofs.collecting.joined_seats.Goals as goal

pub loop-pass-preserved : goal.loop-pass-preserved
loop-pass-preserved c =
    let old = c.loop-pass.invariant in
    let all = c.args.passes.items in
    let p = c.in-Some.pass in
    let rest = drop (length c.loop-pass.passes.items) all in
    let step = popped all c.loop-pass.passes.items c.pop.new.self.items p old.left old.fewer c.in-Some.ensures.items in
    record {
      left = step.1;
      fewer = omega (arith, step.0, old.fewer);
      none = tt;
      joined = rw step.2 (
        c.joined.ensures.same.0,
        joined_more c.loop-pass.all c.pass.inside.seat c.joined.result rest p c.pass.inside.worker c.pass.invariant.0
            (ap (λ (m : PassState). m.worker) c.pass.view_is) (ap (λ (m : PassState). m.seen) c.pass.view_is) c.joined.ensures.same.1
            c.joined.ensures.none c.joined.ensures.workers c.joined.ensures.parts old.none c.args.words.now.table_id old.joined,
      );
    }

pub loop-pass-init : goal.loop-pass-init
loop-pass-init c = grind (arith, common_steps)
