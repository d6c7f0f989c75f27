use Rattle.std.proofs.Common.{◌∙◌, ap, refl}
use Rattle.bt_tables.specs.declared.shelf.Shelf.TheInside.{Inside}
use Rattle.bt_tables.specs.Standings.{raised_in}
use Rattle.bt_tables.proofs.Slots.{open_moved, raised_keeps, raised_more, raised_none}
use Rattle.bt_tables.proofs.shelf.Shelf.raise_all.Goals as goal

pub loop-slot-init : goal.loop-slot-init
loop-slot-init c = (c.self.invariant.0, raised_none c.self.inside.order.group_of, refl)

pub loop-slot-preserved : goal.loop-slot-preserved
loop-slot-preserved c = (
  c.raise_slot.ensures.count ∙ c.loop-slot.invariant.0,
  raised_more c.loop-slot.slot c.self.inside.order.group_of c.loop-slot.self-inside.order.group_of c.raise_slot.new.order.group_of
      c.loop-slot.invariant.1 c.raise_slot.ensures.groups,
  ap (λ (s : Inside). record s { order = c.raise_slot.new.order }) c.loop-slot.invariant.2,
)

pub invariant_of-self : goal.invariant_of-self
invariant_of-self c =
    let o = c.self.inside in
    let slots = c.loop-slot.slot in (
      c.loop-slot.invariant.0,
      rw (ap (λ (s : Inside). s.open_pieces) c.loop-slot.invariant.2)
          (open_moved (raised_in slots) (raised_keeps slots) o.order.group_of c.loop-slot.self-inside.order.group_of o.open_pieces.bound
          o.open_pieces.numbers c.loop-slot.invariant.1 c.self.invariant.1),
    )
