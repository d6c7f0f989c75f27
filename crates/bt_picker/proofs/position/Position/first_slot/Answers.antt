use Rattle.std.proofs.Common.{arith}
use Rattle.bt_history.proofs.Levels.{level_bounded}
use Rattle.bt_picker.proofs.Stages.{not_above}
use Rattle.bt_picker.proofs.position.Position.first_slot.Goals as goal

pub returns-then-has_none-clause-none : goal.returns-then-has_none-clause-none
returns-then-has_none-clause-none c p lp =
    let d = c.args.self.now in
    not_above d.setting d.history p c.attest.ensures.legal (λ high.
    (let far = c.has_none.ensures.none c.if-has_none.true p lp (omega (arith, high, c.first_group.ensures)) in
    omega (arith, far, c.first_group-2.ensures)))

pub returns-else-has_none-clause-none : goal.returns-else-has_none-clause-none
returns-else-has_none-clause-none c p lp =
    let d = c.args.self.now in
    level_bounded d.setting d.history p c.attest.ensures.legal
