use Rattle.std.proofs.Common.{◌≡◌, ◌∙◌, ℕ, length, take, ap, arith}
use Rattle.std.specs.List.{concat}
use Rattle.sha1.specs.Sha1.{sha1}
use Rattle.std.proofs.Math.Seq.{take-length}
use Rattle.bt_check.proofs.Blocks.{concat_more}
use Rattle.bt_picker.proofs.keeper.hash.Goals as goal

pub loop-block-preserved : goal.loop-block-preserved
loop-block-preserved c =
    rw (
      ← concat_more c.args.blocks.now c.loop-block.block-index c.block-item.result c.loop-block-test.true c.block-item.is,
      ← c.as_slice.ensures,
    )
    (c.update.ensures _ c.loop-block.invariant)

pub returns : goal.returns
returns c =
    let blocks = c.args.blocks.now in
    let all : c.loop-block.block-index ≡ length blocks = omega arith in
    c.finalize.ensures _ c.loop-block.invariant
    ∙ ap (λ (n : ℕ). sha1 (concat (take n blocks))) all
    ∙ ap (λ xs. sha1 (concat xs)) (take-length blocks)
