use Rattle.std.proofs.Common.{[], Some}
use Rattle.bt_shared.proofs.Keeps.{has_slot}
use Rattle.bt_shared.proofs.lock.fetch.Goals as goal

pub exchange-requires : goal.exchange-requires
exchange-requires g c = (c.requires.desk, has_slot c.args.seat.now.me (Some c.requires.taken.0) [] c.requires.taken.1)
