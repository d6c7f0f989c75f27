use Rattle.bt_picker.proofs.Allowing.{counts_unrefused}
use Rattle.bt_picker.proofs.position.Position.stirs.Goals as goal

pub stores_beyond-requires-clause-counted : goal.stores_beyond-requires-clause-counted
stores_beyond-requires-clause-counted c = counts_unrefused _ _ c.is_refusal.ensures c.if-is_refusal.false
