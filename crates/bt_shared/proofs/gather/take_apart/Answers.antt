use Rattle.std.proofs.Common.{arith, sym, subst}
use Rattle.std.specs.Prelude.{IfSome, IsSomeAnd}
use Rattle.bt_picker.specs.Positions.{DeskState}
use Rattle.bt_shared.specs.Closing.{EachKnows, IsEntered}
use Rattle.bt_shared.specs.Guard.{Slot}
use Rattle.bt_shared.proofs.Closings.{closed_all, closed_knows}
use Rattle.bt_shared.proofs.gather.take_apart.Goals as goal

pub returns-clause-seen : goal.returns-clause-seen
returns-clause-seen c =
    let shared = c.args.table.shared in
    let passes = c.args.passes.items in
    let spread = c.spread-held.ensures in
    subst (λ (o : Slot). IfSome o (λ (d : DeskState). EachKnows d.history passes)) (sym c.desk_of.ensures)
    (closed_knows shared.key passes shared.table_id c.close.result c.spread-held.result.1 spread.none spread.all c.close.ensures.saw)

pub returns-clause-all : goal.returns-clause-all
returns-clause-all c full =
    let shared = c.args.table.shared in
    let passes = c.args.passes.items in
    let spread = c.spread-held.ensures in
    let close = c.close.ensures in
    let knows = closed_knows shared.key passes shared.table_id c.close.result c.spread-held.result.1 spread.none spread.all close.saw in
    subst (λ (o : Slot). IsSomeAnd o (λ (d : DeskState). IsEntered d passes)) (sym c.desk_of.ensures)
    (closed_all shared.key passes shared.table_id c.close.result c.spread-held.result.1 c.requires.workers spread.none spread.all
    close.setting close.legal knows close.counted close.free spread.own (omega (arith, full)))
