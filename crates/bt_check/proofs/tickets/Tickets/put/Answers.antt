use Rattle.std.proofs.Common.{rules}
use Rattle.bt_check.proofs.Ordering.{kept_put}
use Rattle.bt_check.proofs.tickets.Tickets.put.Goals as goal

pub send_as-requires-clause-rule : goal.send_as-requires-clause-rule
send_as-requires-clause-rule g c = (kept_put _ _ _ _, λ _ _ _ _. tt)

pub returns-clause-err : goal.returns-clause-err
returns-clause-err g c = search rules fits 100

pub returns-clause-ok : goal.returns-clause-ok
returns-clause-ok g c = search rules fits 100
