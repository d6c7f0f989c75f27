use Rattle.std.proofs.Common.{rules}
use Rattle.bt_peer.proofs.Spelled.{told_flags}
use Rattle.bt_peer.proofs.message.bitfield_call.Goals as goal

pub returns-in-Ok-clause-ok : goal.returns-in-Ok-clause-ok
returns-in-Ok-clause-ok c = search (rules, told_flags) fits 100
