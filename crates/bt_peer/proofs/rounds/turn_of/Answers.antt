use Rattle.std.proofs.Common.{arith}
use Rattle.std.proofs.lemmas.Grind.{common_steps}
use Rattle.bt_peer.specs.Serial.{stream_of}
use Rattle.bt_peer.proofs.rounds.turn_of.Goals as goal
use Rattle.bt_peer.proofs.EachStream.{played_turn}

pub returns-clause-took : goal.returns-clause-took
returns-clause-took g c =
    played_turn (stream_of g.R.Source g.W.Sink) _ _ c.args.seats.now c.args.streams.now c.args.i c.index-seats-i-2.result _ c.index-streams-i.result _
    c.requires.may c.requires.i c.take_turn.ensures.keeps c.take_turn.ensures.others c.take_turn.ensures.notes

pub returns-then-is_some-clause-ended : goal.returns-then-is_some-clause-ended
returns-then-is_some-clause-ended g c = grind (arith, common_steps)

pub take_turn-requires-clause-runs : goal.take_turn-requires-clause-runs
take_turn-requires-clause-runs g c = grind (arith, common_steps)

pub returns-clause-falls : goal.returns-clause-falls
returns-clause-falls g c = grind (arith, common_steps)
