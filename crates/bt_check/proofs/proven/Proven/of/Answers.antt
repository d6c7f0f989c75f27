use Rattle.std.proofs.Common.{rules}
use Rattle.bt_check.proofs.proven.Proven.of.Goals as goal

pub returns-then-eq-clause-ok : goal.returns-then-eq-clause-ok
returns-then-eq-clause-ok c = search rules fits 100

pub returns-else-piece-piece_count-clause-err : goal.returns-else-piece-piece_count-clause-err
returns-else-piece-piece_count-clause-err c = search rules
