use Rattle.std.proofs.Common.{◌∙◌, ap, arith, drop, get_or, sym}
use Rattle.std.proofs.lemmas.List.{ext_get_or, get_or-drop, length-drop}
use Rattle.bt_meta.specs.declared.block.Block.{Block}
use Rattle.bt_tables.specs.declared.queue.TheConstants.{SLACK}
use Rattle.bt_tables.proofs.queue.close.Goals as goal

pub returns-clause-items : goal.returns-clause-items
returns-clause-items c =
    let all = c.args.all.now.items in
    let d : Block = record { piece = 0; begin = 0; len = 0 } in
    let behind = length-drop SLACK all in
    let same = c.truncate.ensures.len in
    let kept = c.copy_within.ensures.len in
    ext_get_or d c.truncate.new.self.items (drop SLACK all) (omega (arith, behind, same, kept, c.len-left.ensures)) (λ i lt.
    c.truncate.ensures.by_index i d (omega (arith, lt, same, kept, c.len-left.ensures))
    ∙ (c.copy_within.ensures.by_index.0 i d (omega arith) (omega (arith, lt, same, kept, c.len-left.ensures)) ∙ (ap (λ k. get_or all k d) (omega arith) ∙ sym (get_or-drop SLACK all i d))))
