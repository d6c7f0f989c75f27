use Rattle.bt_check.proofs.Alike.{alike_at, alike_below}
use Rattle.bt_check.proofs.Blocks.{grown}
use Rattle.bt_check.proofs.lanes.digests_of.Goals as goal

pub update-requires-clause-b : goal.update-requires-clause-b
update-requires-clause-b c =
    rw (c.as_slice-in-loop-i.ensures, c.as_slice.ensures)
    (alike_at c.args.a.now c.args.b.now c.loop-i.i _ _ c.requires.b c.loop-i-test.true c.index-a-i.is c.index-b-i.is)

pub update-requires-clause-c : goal.update-requires-clause-c
update-requires-clause-c c =
    rw (c.as_slice-in-loop-i-2.ensures, c.as_slice.ensures)
    (alike_at c.args.a.now c.args.c.now c.loop-i.i _ _ c.requires.c c.loop-i-test.true c.index-a-i.is c.index-c-i.is)

pub update-requires-clause-d : goal.update-requires-clause-d
update-requires-clause-d c =
    rw (c.as_slice-in-loop-i-3.ensures, c.as_slice.ensures)
    (alike_at c.args.a.now c.args.d.now c.loop-i.i _ _ c.requires.d c.loop-i-test.true c.index-a-i.is c.index-d-i.is)

pub loop-i-preserved : goal.loop-i-preserved
loop-i-preserved c =
    let i = c.loop-i.i in
    let a = c.args.a.now in
    rw (
      ← grown a i _ _ c.as_slice.ensures c.loop-i-test.true c.index-a-i.is,
      ← grown c.args.b.now i _ _ c.as_slice-in-loop-i.ensures (alike_below a _ i c.requires.b c.loop-i-test.true) c.index-b-i.is,
      ← grown c.args.c.now i _ _ c.as_slice-in-loop-i-2.ensures (alike_below a _ i c.requires.c c.loop-i-test.true) c.index-c-i.is,
      ← grown c.args.d.now i _ _ c.as_slice-in-loop-i-3.ensures (alike_below a _ i c.requires.d c.loop-i-test.true) c.index-d-i.is,
    )
    (c.update.ensures _ _ _ _ c.loop-i.invariant)
