use Rattle.bt_tables.proofs.Moves.{begins_apart}
use Rattle.bt_tables.proofs.order.Order.has_none.Goals as goal

pub returns-clause-some : goal.returns-clause-some
returns-clause-some c =
    let o = c.self.inside in
    let begins = rw c.deref.ensures.value at c.begin_of.ensures in
    begins_apart o.groups.items o.numbers.items o.places.items o.ends.items c.args.self.now c.args.low c.args.high c.begin_of.result
    c.index.result.now c.self.invariant.0 c.self.invariant.1 c.self.view_is c.requires.low c.requires.high begins c.index.ensures
