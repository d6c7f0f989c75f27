use Rattle.std.proofs.Common.{ℕ, List, subst}
use Rattle.bt_session.specs.PieceChecks.{GoesThrough}
use Rattle.bt_session.proofs.Through.{goes_after}
use Rattle.bt_session.proofs.commons.Commons.check_all.Goals as goal

pub returns-in-Some : goal.returns-in-Some
returns-in-Some g c =
    let s = g.L.RunName.setting in
    let pieces = c.args.pieces.now in
    let settled = c.settle_first in
    goes_after s c.args.worker.now c.verdicts_of.new.worker settled.new.worker pieces settled.result c.in-Some.ensures.idle
    (subst (λ (ps : List ℕ). GoesThrough s c.verdicts_of.new.worker ps settled.result settled.new.worker) c.in-Some.ensures.pieces.first
    settled.ensures)

pub returns-in-None : goal.returns-in-None
returns-in-None g c =
    goes_after g.L.RunName.setting c.args.worker.now c.verdicts_of.new.worker c.check_each.new.worker c.args.pieces.now c.check_each.result
    c.in-None.ensures.idle c.check_each.ensures
