use Rattle.std.proofs.Common.{[], ◌∷◌, ◌∙◌, ap, sym}
use Rattle.bt_meta.specs.declared.block.Block.{Block}
use Rattle.bt_tables.specs.Delays.{flagged}
use Rattle.bt_tables.proofs.Flagged.{flagged_none}
use Rattle.bt_tables.proofs.Forgetting.{at_place, begins, no_place, none_at_place}
use Rattle.bt_tables.proofs.line.Line.take.Goals as goal

pub returns-in-Some-clause-some : goal.returns-in-Some-clause-some
returns-in-Some-clause-some c =
    let o = c.self.inside in
    let d = c.remove.result in
    let some = rw c.as_slice.ensures at c.in-Some.ensures.some in
    let value = rw (← c.self.view_is) at c.remove.ensures.value in
    rw (← c.self.view_is) (at_place c.args.piece c.args.begin o.blocks.items c.in-Some.index d c.self.invariant.apart some.0 some.1 (some.2 d)
    ∙ ap (λ (b : Block). b ∷ []) (sym value))

pub returns-in-None-clause-line : goal.returns-in-None-clause-line
returns-in-None-clause-line c =
    let o = c.self.inside in
    let at = begins c.args.piece c.args.begin in
    let none = rw c.as_slice.ensures at c.in-None.ensures.none in
    let asked = no_place c.args.piece c.args.begin o.blocks.items none in
    let late = no_place c.args.piece c.args.begin (flagged o.blocks.items o.flags.items) (flagged_none at o.blocks.items o.flags.items none) in
    rw (← c.self.view_is) (λ i. record { room = o.blocks.room; asked = sym asked i; overdue = sym late i })

pub returns-in-None-clause-none : goal.returns-in-None-clause-none
returns-in-None-clause-none c =
    let o = c.self.inside in
    let none = rw c.as_slice.ensures at c.in-None.ensures.none in
    rw (← c.self.view_is) (none_at_place c.args.piece c.args.begin o.blocks.items none)
