use Rattle.std.proofs.Common.{rules}
use Rattle.bt_history.proofs.call.Call.mark.Goals as goal

pub returns-in-Choke : goal.returns-in-Choke
returns-in-Choke c = search rules fits 100
