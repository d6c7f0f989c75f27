use Rattle.std.proofs.Common.{◌≡◌}
use Rattle.bt_tables.specs.Orders.{AreMoved}
use Rattle.bt_tables.specs.Standings.{raised_in}
use Rattle.bt_tables.specs.declared.piece.TheConstants.{GROUPS}
use Rattle.bt_tables.proofs.shelf.Shelf.raise_all.Given as goal

abbrev pub invariant-loop-slot : goal.invariant-loop-slot
invariant-loop-slot l =
    let now = l.self-inside in
    let old = l.initial.self-inside in
    (now.order.count ≡ GROUPS)
    × AreMoved (raised_in l.slot) old.order.group_of now.order.group_of
    × (now ≡ record old { order = now.order })
