use Rattle.std.proofs.Common.{◌∙◌, arith}
use Rattle.bt_tables.specs.Tables.{fresh_piece, less_available, peer_row}
use Rattle.bt_tables.proofs.Tabled.{rows_init}
use Rattle.bt_tables.proofs.Sweeps.{hides_none, set_within, swept_all, swept_more, swept_none}
use Rattle.bt_tables.proofs.sweep.hide_shown.Goals as goal

pub loop-from-init : goal.loop-from-init
loop-from-init c = (omega arith, rows_init c.args.pieces.now _ (fresh_piece 0))

pub loop-from-preserved : goal.loop-from-preserved
loop-from-preserved c =
    let flags = (peer_row c.args.peers.now c.args.worker).shows in
    let first = c.in-Some.ensures in (
      omega (arith, set_within flags c.in-Some.piece first.passes),
      c.hide.ensures
          ∙ swept_more less_available hides_none c.args.pieces.now flags c.loop-from.pieces c.loop-from.from c.in-Some.piece c.loop-from.invariant.1
          first.not_before first.none_between first.passes,
    )

pub returns-in-None : goal.returns-in-None
returns-in-None c = swept_none less_available hides_none c.args.pieces.now (peer_row c.args.peers.now c.args.worker).shows
    c.loop-from.pieces c.loop-from.from c.loop-from.invariant.1 c.in-None.ensures

pub returns : goal.returns
returns c =
    swept_all less_available hides_none c.args.pieces.now (peer_row c.args.peers.now c.args.worker).shows c.loop-from.pieces c.loop-from.from
    c.loop-from.invariant.1
    (omega (arith, c.loop-from-test.false, c.pieces.ensures c.args.worker c.requires))
