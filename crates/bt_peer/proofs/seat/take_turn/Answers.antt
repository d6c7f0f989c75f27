use Rattle.std.proofs.Common.{rules, [], ◌∷◌, sym, arith}
use Rattle.std.proofs.lemmas.Grind.{common_steps}
use Rattle.bt_peer.specs.Serial.{stream_of}
use Rattle.bt_peer.specs.Course.{course_of}
use Rattle.bt_peer.proofs.seat.take_turn.Goals as goal
use Rattle.bt_peer.proofs.OwnTurns.{at_same_desk, notes_at_same, turn_at_desk}
use Rattle.bt_peer.proofs.Own.{first_name, others_left_at}

pub returns : goal.returns
returns g c =
    let place = c.turn.new.place in
    let stream = stream_of g.R.Source g.W.Sink in
    let old = course_of c.args.desk.now c.args.seat.now (stream c.args.stream.now) in
    let new = course_of place.desk.now
    (record { session = c.turn.new.self; told = place.told.now; rng = c.turn.new.rng; seen = place.seen; lacked = place.lacked })
    (stream (record { reader = c.turn.new.reader; writer = c.turn.new.writer })) in
    let took = turn_at_desk c.turn.result _ (place.desk.ghost_name ∷ (place.told.ghost_name ∷ [])) c.args.worker place.worker old new _
    c.resume-place.ensures c.requires.runs (search rules) in
    let name = first_name _ _ _ _ (sym took.same_lent) in
    record {
      keeps = rw c.lacked_memory-seat.ensures (at_same_desk c.args.worker old new _ (search rules) took.keeps);
      others = others_left_at _ _ _ _ (search rules) took.others;
      notes = notes_at_same _ place.desk.now _ (search rules) (record { count = place.pieces; told = c.seen-seat.ensures });
      shrinks = grind (arith, common_steps);
    }
