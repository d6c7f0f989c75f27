use Rattle.std.proofs.Common.{rules}
use Rattle.bt_peer.proofs.rounds.new_seat.Goals as goal

pub returns : goal.returns
returns c = search rules fits 100
