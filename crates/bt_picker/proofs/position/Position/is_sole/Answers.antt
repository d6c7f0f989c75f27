use Rattle.std.proofs.Common.{◌∙◌, arith, sym}
use Rattle.bt_picker.proofs.Sharing.{not_all_of}
use Rattle.bt_picker.proofs.position.Position.is_sole.Goals as goal

pub returns-then-not-is_of : goal.returns-then-not-is_of
returns-then-not-is_of c =
    let d = c.args.self.now in
    sym (not_all_of d.setting d.history c.args.worker c.args.piece c.loop-index.index
    (omega (arith, c.loop-index-test.true, c.block_count-index-end.ensures)) (sym c.is_of.ensures ∙ c.if-not-is_of.true))
