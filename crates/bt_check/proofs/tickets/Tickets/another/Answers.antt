use Rattle.bt_check.proofs.Ordering.{kept_cut}
use Rattle.bt_check.proofs.tickets.Tickets.another.Goals as goal

pub another-requires-clause-rule : goal.another-requires-clause-rule
another-requires-clause-rule c = kept_cut _ _
