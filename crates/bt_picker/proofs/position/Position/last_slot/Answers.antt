use Rattle.std.proofs.Common.{arith}
use Rattle.bt_picker.proofs.Stages.{not_below}
use Rattle.bt_picker.proofs.position.Position.last_slot.Goals as goal

pub returns-then-has_none-clause-covers : goal.returns-then-has_none-clause-covers
returns-then-has_none-clause-covers c p lp some =
    let d = c.args.self.now in
    let level = not_below d.setting d.history p (λ far.
    (let high = c.has_none.ensures.none c.if-has_none.true p lp (omega (arith, far, c.first_group.ensures)) in omega (arith, high))) some in
    omega (arith, level)

pub returns-else-has_none-clause-covers : goal.returns-else-has_none-clause-covers
returns-else-has_none-clause-covers c p lp some = omega (arith, some)
