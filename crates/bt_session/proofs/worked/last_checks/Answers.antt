use Rattle.bt_session.proofs.Rising.{goes_on}
use Rattle.bt_session.proofs.worked.last_checks.Goals as goal

pub loop-piece-init : goal.loop-piece-init
loop-piece-init g c = rw c.piece_count.ensures c.last_fours-given_up.ensures

pub loop-piece-preserved : goal.loop-piece-preserved
loop-piece-preserved g c =
    goes_on c.args.worker.now.pass c.loop-piece.worker.pass c.check.new.worker.pass c.loop-piece.piece c.loop-piece.invariant c.check.ensures.may
