use Rattle.std.proofs.Common.{rules}
use Rattle.bt_history.proofs.call.Reply.is_refusal.Goals as goal

pub returns-in-Refused : goal.returns-in-Refused
returns-in-Refused c = search rules fits 100
