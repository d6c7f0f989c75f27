use Rattle.std.proofs.Common.{sum_by}
use Rattle.bt_peer.specs.Serial.{stream_of}
use Rattle.bt_peer.specs.Course.{TookTurns, left_of}
use Rattle.bt_peer.proofs.rounds.all_rounds.Given as goal

abbrev pub invariant-rounds : goal.invariant-rounds
invariant-rounds g l = TookTurns (stream_of g.R.Source g.W.Sink) l.fn.desk l.fn.seats l.fn.streams l.desk l.seats l.streams

abbrev pub decreases-rounds : goal.decreases-rounds
decreases-rounds g l = sum_by left_of l.seats
