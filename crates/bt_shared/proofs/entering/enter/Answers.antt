use Rattle.std.proofs.Common.{rules}
use Rattle.bt_shared.proofs.entering.enter.Goals as goal

pub returns-clause-ok : goal.returns-clause-ok
returns-clause-ok c = search rules fits 100

pub returns-clause-fits : goal.returns-clause-fits
returns-clause-fits c = search rules fits 100
