use Rattle.std.proofs.Common.{◌∙◌}
use Rattle.bt_history.specs.declared.event.Event.{Event}
use Rattle.bt_history.specs.declared.event.Action.TheVariants.{Arrived}
use Rattle.bench.proofs.ZeroSteps.{tells_keeps, zeros_self}
use Rattle.bench.proofs.picker.zeros.Zeros.arrive.Goals as goal

pub invariant_of-self : goal.invariant_of-self
invariant_of-self c =
    let o = c.self.inside in
    let e : Event = record {
      worker = c.args.worker;
      action = Arrived c.args.block.now.piece c.args.block.now.begin c.deref.result.now;
      reply = c.tell.result;
    } in
    let kept = tells_keeps o.picker c.tell.new.self e c.tell.ensures.tells (c.self.invariant.0, c.self.invariant.1)
    (zeros_self c.deref.result.now 16384 (c.deref.ensures.value ∙ c.self.invariant.2)) in
    (kept.0, kept.1, c.self.invariant.2, c.self.invariant.3)
