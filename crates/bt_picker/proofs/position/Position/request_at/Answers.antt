use Rattle.std.proofs.Common.{◌∙◌, sym, arith}
use Rattle.bt_picker.proofs.Choices.{rising_ruled, starting_ruled}
use Rattle.bt_picker.proofs.Picking.{rises_first}
use Rattle.bt_picker.proofs.Leading.{none_resume}
use Rattle.bt_picker.proofs.Levelled.{none_in_order_at}
use Rattle.bt_picker.proofs.position.Position.request_at.Goals as goal

pub returns-in-Some-clause-some : goal.returns-in-Some-clause-some
returns-in-Some-clause-some c =
    let d = c.args.self.now in
    let up = c.in-Some.ensures.some in
    rising_ruled d.setting d.history c.args.worker c.requires.may c.in-Some.block
    (c.in-Some.ensures.order (sym c.comes_in_order.ensures ∙ c.if-comes_in_order.true)) up.0 up.1

pub returns-in-Some-starting-clause-some : goal.returns-in-Some-starting-clause-some
returns-in-Some-starting-clause-some c =
    let d = c.args.self.now in
    let first = c.in-Some-starting.ensures in
    starting_ruled d.setting d.history c.args.worker c.requires.may
    (none_in_order_at d.setting d.history c.args.worker c.args.level c.requires.above (sym c.comes_in_order.ensures ∙ c.if-comes_in_order.false))
    c.in-Some-starting.block
    first.none_goes_on first.some.0 first.some.1

pub returns-in-Some-clause-picked : goal.returns-in-Some-clause-picked
returns-in-Some-clause-picked c =
    let d = c.args.self.now in
    rises_first d.setting d.history c.args.worker c.args.word c.in-Some.block c.in-Some.ensures.some.0 c.in-Some.ensures.some.1 c.in-Some.ensures.first

pub starting-requires-clause-none_begun : goal.starting-requires-clause-none_begun
starting-requires-clause-none_begun c =
    let d = c.args.self.now in
    none_resume d.setting d.history c.args.worker c.args.level (λ p lp. c.in_default.ensures.first p (omega arith) lp)
