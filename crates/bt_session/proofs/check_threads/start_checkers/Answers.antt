use Rattle.std.proofs.Common.{arith}
use Rattle.std.proofs.lemmas.Grind.{common_steps}
use Rattle.bt_session.proofs.Kept.{grown}
use Rattle.bt_session.proofs.check_threads.start_checkers.Goals as goal

pub loop-worker-preserved : goal.loop-worker-preserved
loop-worker-preserved g c =
    let was = c.loop-worker.invariant in
    let hs = c.loop-worker.handles.items in
    let hs' = c.push_reserved.new.self.items in
    record {
      workers = grown (λ h. h.promise.worker.value) hs hs' c.in_ok-handle.handle c.in-Some.worker _ _ _
          c.push_reserved.ensures.items c.in-Some.ensures.steps.0 c.in_ok-handle.ensures.worker was.workers;
      room = omega (arith, was.room, c.in-Some.ensures.steps.1, c.push_reserved.ensures.len, c.push_reserved.ensures.capacity);
      few = omega (arith, was.few, c.in-Some.ensures.steps.1, c.push_reserved.ensures.len);
    }

pub returns-clause-workers : goal.returns-clause-workers
returns-clause-workers g c = grind (arith, common_steps)
