use Rattle.std.proofs.Common.{◌&&◌, ◌∙◌, ap, not, sym}
use Rattle.std.specs.Prelude.{is_some}
use Rattle.bt_meta.specs.declared.block.Block.{Block}
use Rattle.bt_tables.proofs.Flagged.{flag_at_place}
use Rattle.bt_tables.proofs.Forgetting.{place_there}
use Rattle.bt_tables.proofs.line.Line.expects.Goals as goal

pub returns-in-Some : goal.returns-in-Some
returns-in-Some c =
    let o = c.self.inside in
    let are = c.self.invariant in
    let said = rw c.as_slice.ensures at c.place_of_oldest.ensures in
    let some = rw c.as_slice.ensures at c.in-Some.ensures.some in
    let d : Block = record { piece = 0; begin = 0; len = 0 } in
    let there = place_there c.args.piece c.args.begin o.blocks.items c.place_of_oldest.result (record { some = said.some; none = said.none })
    ∙ ap is_some c.in-Some.is in
    let flag = flag_at_place c.args.piece c.args.begin o.blocks.items o.flags.items c.in-Some.index d c.index.result.now
    are.apart are.each some.0 some.1 (some.2 d) in
    rw (← c.self.view_is) (ap not c.index.ensures ∙ sym (λ i. there i && not (flag i)))
