use Rattle.std.proofs.Common.{◌&&◌, ◌∙◌, ap, not, sym}
use Rattle.std.specs.Prelude.{Some}
use Rattle.bt_meta.specs.declared.block.Block.{Block}
use Rattle.bt_tables.proofs.Flagged.{flag_at_place, none_before}
use Rattle.bt_tables.proofs.Forgetting.{place_there}
use Rattle.bt_tables.proofs.line.Line.expects_newly.Goals as goal

pub returns-in-Some : goal.returns-in-Some
returns-in-Some c =
    let o = c.self.inside in
    let are = c.self.invariant in
    let some = rw c.as_slice.ensures at c.in-Some.ensures.some in
    let d : Block = record { piece = 0; begin = 0; len = 0 } in
    let none = none_before c.args.piece c.args.begin o.blocks.items c.in-Some.index d are.apart some.0 (some.1 d) in
    let there = place_there c.args.piece c.args.begin o.blocks.items (Some c.in-Some.index) (record { some = (some.0, none, some.1); none = tt }) in
    let flag = flag_at_place c.args.piece c.args.begin o.blocks.items o.flags.items c.in-Some.index d c.index.result.now
    are.apart are.each some.0 none (some.1 d) in
    rw (← c.self.view_is) (ap not c.index.ensures ∙ sym (λ i. there i && not (flag i)))
