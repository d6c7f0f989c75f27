use Rattle.std.proofs.Common.{◌≡◌, ◌+◌, ◌-◌, ◌<◌, ◌≤◌, length, arith}
use Rattle.bt_tables.specs.Orders.{at}
use Rattle.bt_tables.proofs.Moves.{IsRead, is_read, has_last, raised, whole}
use Rattle.bt_tables.proofs.order.Order.raise.Goals as goal

pub overflow_sub-last : goal.overflow_sub-last
overflow_sub-last c =
    let o = c.self.inside in
    let split = c.self.invariant.1 in
    let read = is_read o.groups.items o.places.items o.ends.items c.args.self.now c.args.number c.index-group.result.now
    split c.self.view_is c.requires.number c.index-group.ensures in
    (has_last o.groups.items o.places.items o.ends.items c.args.number c.index-group.result.now c.index.result.now
    split read.number read.group c.index.ensures).0

pub overflow_add-group : goal.overflow_add-group
overflow_add-group c =
    let o = c.self.inside in
    let split = c.self.invariant.1 in
    let read = is_read o.groups.items o.places.items o.ends.items c.args.self.now c.args.number c.index-group.result.now
    split c.self.view_is c.requires.number c.index-group.ensures in
    omega (arith, c.requires.next, read.seen, read.count, split.few.1)

-- the number's group, as it was read
read : (c : goal.After-self-4-1) → IsRead c.self.inside.groups.items c.self.inside.places.items c.self.inside.ends.items c.args.self.now c.args.number
    c.index-group.result.now
read c =
    let o = c.self.inside in
    is_read o.groups.items o.places.items o.ends.items c.args.self.now c.args.number c.index-group.result.now c.self.invariant.1 c.self.view_is
    c.requires.number c.index-group.ensures

-- the end of that group is past 0, and is the one that was read
last : (c : goal.After-self-4-1) → (1 ≤ c.index.result.now) × (c.index.result.now ≡ at c.self.inside.ends.items c.index-group.result.now)
last c =
    let o = c.self.inside in
    has_last o.groups.items o.places.items o.ends.items c.args.number c.index-group.result.now c.index.result.now c.self.invariant.1
    (read c).number (read c).group c.index.ensures

pub invariant_of-self : goal.invariant_of-self
invariant_of-self c =
    let o = c.self.inside in
    let g = c.index-group.result.now in
    let next : g + 1 < length o.ends.items = omega (arith, c.requires.next, (read c).seen, (read c).count) in
    let all = raised o.groups.items o.places.items o.numbers.items o.ends.items c.args.number c.self.invariant.0 c.self.invariant.1
    (read c).number g (c.index.result.now - 1) (read c).group next (omega (arith, (last c).0, (last c).1)) in
    rw (
      whole c.exchange.new.numbers o.numbers.items o.numbers.len (omega arith),
      whole c.exchange.new.places o.places.items o.places.len (omega arith),
    )
    (c.exchange.ensures.inverse, rw (c.exchange.ensures.places, c.deref_mut.ensures.value, c.deref_mut-2.ensures.value) all)
