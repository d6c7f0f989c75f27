use Rattle.std.proofs.Common.{◌≡◌, ◌+◌, ◌-◌, ◌++◌, ◌∙◌, ap, arith, length, length-append, sym, take, ℕ}
use Rattle.std.specs.List.{concat}
use Rattle.std.proofs.Math.Seq.{take-length}
use Rattle.std.proofs.lemmas.Slice.{take-put_mid}
use Rattle.bt_check.proofs.Blocks.{concat_more}
use Rattle.bt_c.proofs.Joining.{joined_most}
use Rattle.bt_c.proofs.jobs.copy_blocks.Goals as goal

pub overflow_add-from : goal.overflow_add-from
overflow_add-from c =
    let blocks = c.args.blocks.now in let i = c.loop-block.block-index in let block = c.block-item.result in
    let more = ap length (concat_more blocks i block c.loop-block-test.true c.block-item.is) in
    omega (
      arith,
      more,
      length-append (concat (take i blocks)) block,
      joined_most blocks (i + 1),
      c.loop-block.invariant.0,
      c.len.ensures.value,
      c.requires.len,
      c.requires.short,
    )

pub slice_bounds-copy_from_slice-end : goal.slice_bounds-copy_from_slice-end
slice_bounds-copy_from_slice-end c =
    let blocks = c.args.blocks.now in let i = c.loop-block.block-index in let block = c.block-item.result in
    let more = ap length (concat_more blocks i block c.loop-block-test.true c.block-item.is) in
    omega (
      arith,
      more,
      length-append (concat (take i blocks)) block,
      joined_most blocks (i + 1),
      c.loop-block.invariant.0,
      c.len.ensures.value,
      c.requires.len,
      c.loop-block.auto.room,
    )

pub loop-block-preserved : goal.loop-block-preserved
loop-block-preserved c =
    let blocks = c.args.blocks.now in let i = c.loop-block.block-index in let block = c.block-item.result in
    let from = c.loop-block.from in let room = c.loop-block.room in let piece = c.copy_from_slice.new.self in
    let more = concat_more blocks i block c.loop-block-test.true c.block-item.is in
    let is = c.copy_from_slice.ensures.after ∙ c.as_slice.ensures in
    let before = joined_most blocks i in (
      omega (arith, ap length more, length-append (concat (take i blocks)) block, c.loop-block.invariant.0, c.len-from.ensures.value),
      take-put_mid from (from + c.len.result - from) room piece (from + c.len-from.result) (omega (arith, ap length is, c.len-from.ensures.value))
          (omega (arith, before, c.loop-block.invariant.0, c.requires.len, c.loop-block.auto.room))
          ∙ ((λ j. c.loop-block.invariant.1 j ++ is j) ∙ more),
    )

pub returns : goal.returns
returns c =
    let blocks = c.args.blocks.now in let room = c.loop-block.room in
    let all : c.loop-block.block-index ≡ length blocks = omega (arith, c.loop-block-test.false, c.loop-block.auto.block-index-end) in
    let whole = ap (λ (n : ℕ). concat (take n blocks)) all ∙ ap concat (take-length blocks) in
    let filled : length room ≡ c.loop-block.from = omega (arith, c.loop-block.auto.room, c.requires.len, c.loop-block.invariant.0, ap length whole) in
    sym (take-length room) ∙ (ap (λ (n : ℕ). take n room) filled ∙ (c.loop-block.invariant.1 ∙ whole))
