use Rattle.std.proofs.Common.{refl}
use Rattle.bt_history.specs.Pieces.{offers}
use Rattle.bt_picker.specs.Search.{order_of}
use Rattle.bt_picker.proofs.Telling.{rarer_step}
use Rattle.bt_picker.proofs.position.Position.first_offered.Goals as goal

pub loop-piece-preserved : goal.loop-piece-preserved
loop-piece-preserved c =
    let d = c.args.self.now in (
      rarer_step (offers d.setting d.history c.args.worker) (order_of d.setting d.history c.args.rare c.args.first) c.args.pieces.now c.loop-piece.piece-index _
          c.loop-piece.best c.earlier_offered-best.result refl
          c.loop-piece.invariant.0 c.earlier_offered-best.ensures.earlier,
      c.earlier_offered-best.ensures.within,
    )
