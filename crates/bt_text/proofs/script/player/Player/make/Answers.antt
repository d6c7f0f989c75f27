use Rattle.std.proofs.Common.{rules}
use Rattle.bt_text.proofs.script.player.Player.make.Goals as goal

pub returns-clause-gains : goal.returns-clause-gains
returns-clause-gains c = search rules fits 100
