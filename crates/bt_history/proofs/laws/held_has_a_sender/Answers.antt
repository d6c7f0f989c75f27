use Rattle.bt_history.proofs.Sending.{sender_held}
use Rattle.bt_history.proofs.laws.held_has_a_sender.Goals as goal

pub returns : goal.returns
returns c = sender_held _ c.args.block
