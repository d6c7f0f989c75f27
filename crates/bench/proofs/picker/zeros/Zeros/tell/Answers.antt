use Rattle.bt_picker.specs.Told.{telling}
use Rattle.bench.proofs.ZeroSteps.{tells_keeps}
use Rattle.bench.proofs.picker.zeros.Zeros.tell.Goals as goal

pub invariant_of-self : goal.invariant_of-self
invariant_of-self c =
    let o = c.self.inside in
    let kept = tells_keeps o.picker c.tell.new.self (telling c.args.worker c.args.told c.tell.result) c.tell.ensures.tells
    (c.self.invariant.0, c.self.invariant.1) c.requires in
    (kept.0, kept.1, c.self.invariant.2, c.self.invariant.3)
