use Rattle.bt_tables.proofs.Moves.{IsPart, is_part}
use Rattle.bt_tables.proofs.order.Order.group.Goals as goal

pub slice_bounds-result-count : goal.slice_bounds-result-count
slice_bounds-result-count c =
    let o = c.self.inside in
    let begins = rw c.deref.ensures.value at c.begin_of-begin.ensures in
    (is_part o.groups.items o.numbers.items o.places.items o.ends.items c.args.self.now c.args.group c.begin_of-begin.result
    c.index-end.result.now c.self.invariant.0 c.self.invariant.1 c.self.view_is c.requires begins c.index-end.ensures).rises

pub slice_bounds-result-start : goal.slice_bounds-result-start
slice_bounds-result-start c =
    let o = c.self.inside in
    let begins = rw c.deref.ensures.value at c.begin_of-begin.ensures in
    (is_part o.groups.items o.numbers.items o.places.items o.ends.items c.args.self.now c.args.group c.begin_of-begin.result
    c.index-end.result.now c.self.invariant.0 c.self.invariant.1 c.self.view_is c.requires begins c.index-end.ensures).rises

pub returns : goal.returns
returns c =
    let o = c.self.inside in
    let begins = rw c.deref.ensures.value at c.begin_of-begin.ensures in
    let part : IsPart o.numbers.items c.args.self.now c.args.group c.begin_of-begin.result c.index-end.result.now =
    is_part o.groups.items o.numbers.items o.places.items o.ends.items c.args.self.now c.args.group c.begin_of-begin.result
    c.index-end.result.now c.self.invariant.0 c.self.invariant.1 c.self.view_is c.requires begins c.index-end.ensures in
    rw c.deref-2.ensures.value part.lists
