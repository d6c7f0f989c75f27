use Rattle.std.proofs.Common.{◌∙◌, arith}
use Rattle.bt_tables.specs.Tables.{fresh_piece, more_available}
use Rattle.bt_tables.proofs.Tabled.{rows_init}
use Rattle.bt_tables.proofs.Sweeps.{has_room, shows_none, set_within, swept_all, swept_more, swept_none}
use Rattle.bt_tables.proofs.sweep.show_shown.Goals as goal

pub loop-from-init : goal.loop-from-init
loop-from-init c = (omega arith, rows_init c.args.pieces.now _ (fresh_piece 0))

pub loop-from-preserved : goal.loop-from-preserved
loop-from-preserved c =
    let flags = c.args.flags.now in
    let first = c.in-Some.ensures in (
      omega (arith, set_within flags c.in-Some.piece first.passes),
      c.show.ensures
          ∙ swept_more more_available shows_none c.args.pieces.now flags c.loop-from.pieces c.loop-from.from c.in-Some.piece c.loop-from.invariant.1
          first.not_before first.none_between first.passes,
    )

pub returns-in-None : goal.returns-in-None
returns-in-None c = swept_none more_available shows_none c.args.pieces.now c.args.flags.now c.loop-from.pieces c.loop-from.from
    c.loop-from.invariant.1 c.in-None.ensures

pub returns : goal.returns
returns c =
    swept_all more_available shows_none c.args.pieces.now c.args.flags.now c.loop-from.pieces c.loop-from.from c.loop-from.invariant.1
    (omega (arith, c.loop-from-test.false, c.count.ensures))

pub show-requires : goal.show-requires
show-requires c within =
    has_room c.args.pieces.now c.loop-from.pieces c.args.flags.now c.loop-from.from c.in-Some.piece c.requires c.loop-from.invariant.1
    c.in-Some.ensures.not_before c.in-Some.ensures.passes within
