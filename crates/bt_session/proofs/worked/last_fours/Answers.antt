use Rattle.std.proofs.Common.{◌*◌, arith}
use Rattle.bt_session.proofs.Rising.{none_yet}
use Rattle.bt_session.proofs.Through.{last_four}
use Rattle.bt_session.proofs.worked.last_fours.Goals as goal

pub loop-four-init : goal.loop-four-init
loop-four-init g c = none_yet c.args.worker.now.pass

pub loop-four-preserved : goal.loop-four-preserved
loop-four-preserved g c =
    last_four g.L.RunName.setting c.args.worker.now.pass c.loop-four.worker c.check_all-given_up.new.worker (c.loop-four.four * 4) _ _
    c.loop-four.invariant c.check_all-given_up.ensures (omega arith)
