use Rattle.bt_session.specs.Checking.{ChecksTickets}
use Rattle.bt_session.proofs.checker.check_pieces.Given as goal

abbrev pub invariant-loop : goal.invariant-loop
invariant-loop g l = ChecksTickets g.L.RunName.setting l.fn.worker l.given_up l.worker
