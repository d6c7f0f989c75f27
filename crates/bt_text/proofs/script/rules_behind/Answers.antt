use Rattle.std.proofs.Common.{rules}
use Rattle.bt_text.proofs.script.rules_behind.Goals as goal

pub returns-in-Ok-clause-ok : goal.returns-in-Ok-clause-ok
returns-in-Ok-clause-ok c = search rules fits 100
