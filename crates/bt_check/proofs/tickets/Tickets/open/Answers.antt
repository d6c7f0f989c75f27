use Rattle.bt_check.proofs.Ordering.{kept_first}
use Rattle.bt_check.proofs.tickets.Tickets.open.Goals as goal

pub bounded_with-requires-clause-rule : goal.bounded_with-requires-clause-rule
bounded_with-requires-clause-rule c = kept_first
