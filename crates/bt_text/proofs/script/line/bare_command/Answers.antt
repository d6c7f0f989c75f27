use Rattle.std.proofs.Common.{rules}
use Rattle.bt_text.proofs.script.line.bare_command.Goals as goal

pub returns-then-is-2 : goal.returns-then-is-2
returns-then-is-2 c = search rules fits 100
