use Rattle.bt_peer.specs.Serial.{stream_of}
use Rattle.bt_peer.specs.Course.{TookTurns}
use Rattle.bt_peer.proofs.EachStream.{Progress}
use Rattle.bt_peer.proofs.rounds.round.Given as goal

abbrev pub invariant-loop-i : goal.invariant-loop-i
invariant-loop-i g l = record {
  took : TookTurns (stream_of g.R.Source g.W.Sink) l.fn.desk l.fn.seats l.fn.streams l.desk l.seats l.streams;
  progress : Progress l.turns l.i l.fn.seats l.seats;
}
