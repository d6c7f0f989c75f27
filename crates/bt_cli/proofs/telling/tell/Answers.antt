use Rattle.std.proofs.Common.{rules}
use Rattle.bt_cli.proofs.telling.tell.Goals as goal

pub returns-in-Ok : goal.returns-in-Ok
returns-in-Ok g c = search rules fits 100
