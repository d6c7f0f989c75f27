use Rattle.std.proofs.Common.{◌-◌, arith}
use Rattle.std.proofs.lemmas.List.{get_or_read}
use Rattle.bt_tables.proofs.Moves.{IsRead, is_read, lowered_first, lowered, whole}
use Rattle.bt_tables.proofs.order.Order.lower.Goals as goal

pub overflow_sub-group : goal.overflow_sub-group
overflow_sub-group c =
    let o = c.self.inside in
    let split = c.self.invariant.1 in
    let read = is_read o.groups.items o.places.items o.ends.items c.args.self.now c.args.number c.index.result.now
    split c.self.view_is c.requires.number c.index.ensures in
    omega (arith, c.requires.before, read.seen)

pub overflow_add-first : goal.overflow_add-first
overflow_add-first c =
    let o = c.self.inside in
    let split = c.self.invariant.1 in
    let read = is_read o.groups.items o.places.items o.ends.items c.args.self.now c.args.number c.index.result.now
    split c.self.view_is c.requires.number c.index.ensures in
    let first = get_or_read o.ends.items (c.index.result.now - 1) c.index-first.result.now (omega (arith, read.known)) c.index-first.ensures 0 in
    let within = lowered_first o.groups.items o.places.items o.numbers.items o.ends.items c.args.number c.self.invariant.0 split read.number
    (c.index.result.now - 1) c.index-first.result.now (omega (arith, read.group, read.seen, c.requires.before)) first in
    omega (arith, within, split.few.0)

-- the number's group, as it was read
read : (c : goal.After-self-4-1) → IsRead c.self.inside.groups.items c.self.inside.places.items c.self.inside.ends.items c.args.self.now c.args.number
    c.index.result.now
read c =
    let o = c.self.inside in
    is_read o.groups.items o.places.items o.ends.items c.args.self.now c.args.number c.index.result.now c.self.invariant.1 c.self.view_is
    c.requires.number c.index.ensures

pub invariant_of-self : goal.invariant_of-self
invariant_of-self c =
    let o = c.self.inside in
    let g = c.index.result.now - 1 in
    let first = get_or_read o.ends.items g c.index-first.result.now (omega (arith, (read c).known)) c.index-first.ensures 0 in
    let all = lowered o.groups.items o.places.items o.numbers.items o.ends.items c.args.number c.self.invariant.0 c.self.invariant.1
    (read c).number g _ (omega (arith, (read c).group, (read c).seen, c.requires.before)) first in
    rw (
      whole c.exchange.new.numbers o.numbers.items o.numbers.len (omega arith),
      whole c.exchange.new.places o.places.items o.places.len (omega arith),
    )
    (c.exchange.ensures.inverse, rw (c.exchange.ensures.places, c.deref_mut.ensures.value, c.deref_mut-2.ensures.value) all)
