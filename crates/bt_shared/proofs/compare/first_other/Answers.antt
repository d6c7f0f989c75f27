use Rattle.std.proofs.Common.{rules}
use Rattle.bt_shared.proofs.compare.first_other.Goals as goal

pub returns-then-had-has-clause-some : goal.returns-then-had-has-clause-some
returns-then-had-has-clause-some c = search rules fits 100
