use Rattle.std.proofs.Common.{ℕ, List, get_or, take, sym, subst}
use Rattle.std.specs.Prelude.{◌||◌}
use Rattle.std.proofs.lemmas.List.{take_more}
use Rattle.bt_session.specs.PieceChecks.{GoesThrough}
use Rattle.bt_session.proofs.Through.{goes_more}
use Rattle.bt_session.proofs.commons.Commons.check_each.Goals as goal

pub loop-piece-preserved : goal.loop-piece-preserved
loop-piece-preserved g c =
    let s = g.L.RunName.setting in
    let pieces = c.args.pieces.now in
    let i = c.loop-piece.piece-index in
    let call = c.check_or_not-given_up in
    subst (λ (ps : List ℕ). GoesThrough s c.args.worker.now ps (c.loop-piece.given_up || call.result) call.new.worker)
    (sym (take_more pieces i 0 c.loop-piece-test.true))
    (goes_more s c.args.worker.now c.loop-piece.worker call.new.worker (take i pieces) (get_or pieces i 0) c.loop-piece.given_up call.result
    c.loop-piece.invariant call.ensures)
