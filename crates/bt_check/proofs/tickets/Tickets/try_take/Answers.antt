use Rattle.std.proofs.Common.{rules}
use Rattle.bt_check.proofs.Ordering.{kept_taken}
use Rattle.bt_check.proofs.tickets.Tickets.try_take.Goals as goal

pub try_recv_as-requires-clause-rule : goal.try_recv_as-requires-clause-rule
try_recv_as-requires-clause-rule g c = (kept_taken _ _, λ _ _ _ _. tt)

pub returns-clause-some : goal.returns-clause-some
returns-clause-some g c = search rules fits 100

pub returns-clause-none : goal.returns-clause-none
returns-clause-none g c = search rules fits 100
