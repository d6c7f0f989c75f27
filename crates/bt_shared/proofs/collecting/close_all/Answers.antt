use Rattle.std.proofs.Common.{arith, sym, subst}
use Rattle.std.specs.Prelude.{IfSome, IsSome}
use Rattle.bt_picker.specs.Positions.{DeskState}
use Rattle.bt_shared.specs.Closing.{EachKnows}
use Rattle.bt_shared.specs.Guard.{Slot}
use Rattle.bt_shared.proofs.Closings.{closed_knows, closed_some}
use Rattle.bt_shared.proofs.collecting.close_all.Goals as goal

pub returns-clause-seen : goal.returns-clause-seen
returns-clause-seen c =
    let shared = c.args.table.shared in
    let passes = c.args.passes.items in
    let joined = c.joined_seats-all.ensures in
    subst (λ (o : Slot). IfSome o (λ (d : DeskState). EachKnows d.history passes)) (sym c.picker_of.ensures)
    (closed_knows shared.key passes shared.table_id c.close.result c.joined_seats-all.result joined.none joined.all c.close.ensures.saw)

pub returns-clause-all : goal.returns-clause-all
returns-clause-all c full =
    let shared = c.args.table.shared in
    let passes = c.args.passes.items in
    let joined = c.joined_seats-all.ensures in
    let close = c.close.ensures in
    subst (λ (o : Slot). IsSome o) (sym c.picker_of.ensures)
    (closed_some shared.key passes shared.table_id c.close.result c.joined_seats-all.result c.requires.workers joined.none joined.all
    close.counted close.free (omega (arith, full)))
