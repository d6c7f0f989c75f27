use Rattle.std.proofs.Common.{sym, ◌∙◌}
use Rattle.bt_meta.specs.declared.block.Block.{Block}
use Rattle.bt_tables.proofs.Flagged.{flag_at_place, flagged_none}
use Rattle.bt_tables.proofs.Forgetting.{begins}
use Rattle.bt_tables.proofs.line.Line.finds_late.Goals as goal

pub returns-in-Some : goal.returns-in-Some
returns-in-Some c =
    let o = c.self.inside in
    let are = c.self.invariant in
    let some = rw c.as_slice.ensures at c.in-Some.ensures.some in
    let d : Block = record { piece = 0; begin = 0; len = 0 } in
    rw (← c.self.view_is) (c.index.ensures ∙ sym (flag_at_place c.args.piece c.args.begin o.blocks.items o.flags.items c.in-Some.index d _
    are.apart are.each some.0 some.1 (some.2 d)))

pub returns-in-None : goal.returns-in-None
returns-in-None c =
    let o = c.self.inside in
    let none = rw c.as_slice.ensures at c.in-None.ensures.none in
    rw (← c.self.view_is) (sym (flagged_none (begins c.args.piece c.args.begin) o.blocks.items o.flags.items none))
