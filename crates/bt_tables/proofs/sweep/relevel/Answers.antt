use Rattle.std.proofs.Common.{◌≡◌, ◌<◌, length, arith}
use Rattle.std.specs.Prelude.{slice_index_or}
use Rattle.bt_tables.specs.Tables.{fresh_piece}
use Rattle.bt_tables.proofs.Sweeps.{levelled_more}
use Rattle.bt_tables.proofs.Tabled.{length_is_table, rows_done, rows_init}
use Rattle.bt_tables.proofs.sweep.relevel.Goals as goal

pub loop-piece-init : goal.loop-piece-init
loop-piece-init c = (c.len-piece-end.ensures.is, rows_init c.args.pieces.now _ (fresh_piece 0))

pub put_level-requires : goal.put_level-requires
put_level-requires c =
    let long : length c.loop-piece.pieces ≡ length c.args.pieces.now = length_is_table _ _ _ c.loop-piece.invariant.1 in
    omega (arith, long, c.loop-piece-test.true, c.loop-piece.invariant.0)

pub loop-piece-preserved : goal.loop-piece-preserved
loop-piece-preserved c =
    let lt : c.loop-piece.piece < length c.args.pieces.now = omega (arith, c.loop-piece-test.true, c.loop-piece.invariant.0) in (
      c.loop-piece.invariant.0,
      levelled_more c.args.pieces.now c.loop-piece.pieces _
          (λ p. slice_index_or c.args.levels.now p 0) c.loop-piece.piece _ c.loop-piece.invariant.1 lt
          c.level_in.ensures c.put_level.ensures,
    )

pub returns : goal.returns
returns c = rows_done c.loop-piece.pieces _ c.loop-piece.piece _ _ c.loop-piece.invariant.1
    (omega (arith, c.loop-piece-test.false, c.loop-piece.invariant.0))
