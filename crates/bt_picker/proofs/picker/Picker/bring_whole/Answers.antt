use Rattle.std.proofs.Common.{◌≡◌, ◌∙◌, ℕ, ap, arith, subst}
use Rattle.bt_meta.specs.Layout.{Layout, block_count}
use Rattle.bt_picker.proofs.Restoring.{Bringing, brought_content, brought_more, brought_none, brought_waits}
use Rattle.bt_picker.proofs.picker.Picker.bring_whole.Goals as goal

pub loop-index-init : goal.loop-index-init
loop-index-init c = (
  c.block_count-count.ensures ∙ ap (λ (t : Layout). block_count t c.args.piece) c.torrent.ensures,
  brought_none c.args.self.now c.args.worker c.args.piece c.args.bytes.now.bytes c.requires.joined c.requires.unbegun,
)

pub loop-index-preserved : goal.loop-index-preserved
loop-index-preserved c = (
  c.loop-index.invariant.0,
  brought_more c.args.self.now c.loop-index.self c.bring_block.new.self c.args.worker c.args.piece c.args.bytes.now.bytes c.loop-index.index c.bring_block.ensures.0
      c.loop-index.invariant.1 c.bring_block.ensures.1 c.requires.piece (omega (arith, c.loop-index-test.true, c.loop-index.invariant.0)) c.requires.len,
)

pub returns-clause-waits : goal.returns-clause-waits
returns-clause-waits c =
    let d = c.args.self.now in
    let done : c.loop-index.index ≡ block_count d.setting.torrent c.args.piece =
    omega (arith, c.loop-index-test.false, c.loop-index.auto.index-end, c.loop-index.invariant.0) in
    brought_waits d c.loop-index.self c.args.worker c.args.piece c.args.bytes.now.bytes
    (subst (λ (n : ℕ). Bringing d c.loop-index.self c.args.worker c.args.piece c.args.bytes.now.bytes n) done c.loop-index.invariant.1) c.requires.len
    c.requires.piece

pub returns-clause-content : goal.returns-clause-content
returns-clause-content c =
    let d = c.args.self.now in
    let done : c.loop-index.index ≡ block_count d.setting.torrent c.args.piece =
    omega (arith, c.loop-index-test.false, c.loop-index.auto.index-end, c.loop-index.invariant.0) in
    brought_content d c.loop-index.self c.args.worker c.args.piece c.args.bytes.now.bytes
    (subst (λ (n : ℕ). Bringing d c.loop-index.self c.args.worker c.args.piece c.args.bytes.now.bytes n) done c.loop-index.invariant.1) c.requires.len
    c.requires.piece
