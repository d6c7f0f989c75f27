use Rattle.std.proofs.Common.{◌≡◌, ◌+◌, ◌-◌, ◌*◌, ◌/◌, length, arith}
use Rattle.sha1.proofs.Absorbing.{IsAbsorbed_block}
use Rattle.bt_check.specs.Lanes.{bytes_of, variables}
use Rattle.bt_check.proofs.LanePieceLemmas.{bytes_of-block, length-bytes_of}
use Rattle.bt_check.proofs.four.compress_blocks.Goals as goal

pub loop-i-preserved : goal.loop-i-preserved
loop-i-preserved c j tail m lt edge held =
    let at = 64 * c.loop-i.i in
    let next : 64 * (c.loop-i.i + 1) ≡ at + 64 = omega arith in
    let width : at + 64 - at ≡ 64 = omega arith in
    let bytes = bytes_of j c.args.a.now c.args.b.now c.args.c.now c.args.d.now in
    let long = length-bytes_of c.args.a.now c.args.b.now c.args.c.now c.args.d.now c.requires.b c.requires.c c.requires.d j lt in
    rw (c.compress-now.ensures j lt, next)
    (IsAbsorbed_block (variables j c.loop-i.now) tail m bytes _ at (c.loop-i.invariant j tail m lt edge held) (omega arith) (omega arith)
    (rw width (bytes_of-block at 64 c.args.a.now c.args.b.now c.args.c.now c.args.d.now j lt)))

pub returns : goal.returns
returns c j tail m lt edge held =
    let done : c.loop-i.i ≡ length c.args.a.now / 64 = omega arith in
    rw (← done) (c.loop-i.invariant j tail m lt edge held)
