use Rattle.std.proofs.Common.{◌≡◌, ◌∙◌, ap, arith, length, length-append, take, ℕ}
use Rattle.std.specs.List.{concat}
use Rattle.std.proofs.Math.Seq.{take-length}
use Rattle.bt_check.proofs.Blocks.{concat_more}
use Rattle.bt_c.proofs.jobs.total_len.Goals as goal

pub loop-block-preserved : goal.loop-block-preserved
loop-block-preserved c =
    let blocks = c.args.blocks.now in let i = c.loop-block.block-index in let block = c.block-item.result in
    let more = ap length (concat_more blocks i block c.loop-block-test.true c.block-item.is) in
    omega (arith, more, length-append (concat (take i blocks)) block, c.loop-block.invariant, c.len.ensures.value, c.saturating_add-total.ensures)

pub returns : goal.returns
returns c =
    let blocks = c.args.blocks.now in
    let all : c.loop-block.block-index ≡ length blocks = omega (arith, c.loop-block-test.false, c.loop-block.auto.block-index-end) in
    let whole = ap (λ (n : ℕ). length (concat (take n blocks))) all ∙ ap (λ xs. length (concat xs)) (take-length blocks) in
    omega (arith, c.loop-block.invariant, whole)
