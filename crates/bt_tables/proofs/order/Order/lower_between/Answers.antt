use Rattle.std.proofs.Common.{◌∙◌, ap, arith}
use Rattle.bt_tables.specs.Orders.{OrderState, at}
use Rattle.bt_tables.proofs.Borders.{lowered_split}
use Rattle.bt_tables.proofs.Moves.{whole}
use Rattle.bt_tables.proofs.order.Order.lower_between.Goals as goal

pub invariant_of-self : goal.invariant_of-self
invariant_of-self c =
    let o = c.self.inside in
    let low = c.args.low in
    let copied = c.copy_within.ensures.by_index in
    let count = ap (λ (v : OrderState). v.count) c.self.view_is in
    rw (whole c.lower_each.new.groups o.groups.items o.groups.len (omega arith)) (
      c.self.invariant.0,
      lowered_split o.groups.items o.places.items o.ends.items c.lower_each.new.groups c.copy_within.new.self.items low c.args.high
          c.self.invariant.1 c.requires.low c.requires.rise (omega (arith, c.copy_within.ensures.len)) (omega (arith, count, c.requires.high))
          (rw c.deref_mut.ensures.value at c.lower_each.ensures) (λ n before. copied.1 n 0 (omega (arith, before)))
          (λ n from below. copied.0 n 0 (omega (arith, from)) (omega (arith, from, below, c.requires.low))
          ∙ ap (at o.ends.items) (omega (arith, from, c.requires.low)))
          (λ n past. copied.2 n 0 (omega (arith, past, c.requires.low, c.requires.rise))),
    )
