use Rattle.std.proofs.Common.{rules}
use Rattle.bt_history.proofs.call.Reply.is_stored.Goals as goal

pub returns-in-Stored : goal.returns-in-Stored
returns-in-Stored c = search rules fits 100
