use Rattle.std.proofs.Common.{◌≡◌, ◌-◌, arith, ap, ◌∙◌, sym, set}
use Rattle.bt_tables.specs.Orders.{at}
use Rattle.bt_tables.proofs.Moves.{at_set, seen, set_more, states}
use Rattle.bt_tables.proofs.order.Order.lower_to.Goals as goal

-- the groups after one step more
stepped : (c : goal.After-lower) → c.lower.new.self.group_of
    ≡ set c.args.self.now.group_of c.args.number (at c.loop-group.self.group_of c.args.number - 1)
stepped c =
    let start = c.args.self.now in
    let now = c.loop-group.self in
    let p = c.args.number in
    let group = at now.group_of p in
    (seen c.lower.new.self now (set now.group_of p (group - 1)) c.lower.ensures).1
    ∙ set_more start.group_of now.group_of p group (group - 1) (seen now start (set start.group_of p group) c.loop-group.invariant.1).1

pub loop-group-preserved : goal.loop-group-preserved
loop-group-preserved c =
    let start = c.args.self.now in
    let now = c.loop-group.self in
    let p = c.args.number in
    let old = seen now start (set start.group_of p (at now.group_of p)) c.loop-group.invariant.1 in
    let new = seen c.lower.new.self now (set now.group_of p (at now.group_of p - 1)) c.lower.ensures in
    let here = at_set start.group_of c.lower.new.self.group_of p _ c.requires.number (stepped c) in (
      omega (arith, here, c.loop-group.invariant.0, c.loop-group-test.true),
      states _ _ (new.0 ∙ old.0) (stepped c ∙ ap (set start.group_of p) (sym here)),
    )
