use Rattle.std.proofs.Common.{◌≡◌, ◌+◌, ℕ, ap, ◌∙◌, set}
use Rattle.bt_tables.specs.Orders.{at}
use Rattle.bt_tables.proofs.Moves.{at_set, seen, set_more, states}
use Rattle.bt_tables.proofs.order.Order.raise_to.Goals as goal

pub loop-group-preserved : goal.loop-group-preserved
loop-group-preserved c =
    let start = c.args.self.now in
    let now = c.loop-group.self in
    let p = c.args.number in
    let group = c.loop-group._group in
    let old = seen now start (set start.group_of p group) c.loop-group.invariant in
    let new = seen c.raise.new.self now (set now.group_of p (at now.group_of p + 1)) c.raise.ensures in
    let here : at now.group_of p ≡ group = at_set start.group_of now.group_of p group c.requires.number old.1 in
    states _ _ (new.0 ∙ old.0) (new.1
    ∙ (ap (λ (g : ℕ). set now.group_of p (g + 1)) here ∙ set_more start.group_of now.group_of p group (group + 1) old.1))
