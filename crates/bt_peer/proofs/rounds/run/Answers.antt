use Rattle.std.proofs.Common.{ℕ, Bool, length, map, arith, ap, subst, ◌∙◌}
use Rattle.std.proofs.lemmas.Grind.{common_steps}
use Rattle.std.specs.Prelude.{◌||◌}
use Rattle.std.proofs.lemmas.List.{length-map}
use Rattle.bt_peer.specs.declared.seat.Seat.{Seat}
use Rattle.bt_peer.specs.Conduct.{Calls}
use Rattle.bt_peer.specs.Desks.{calls_in}
use Rattle.bt_peer.specs.Serial.{EachEnded, Finishes, opening_of, stream_of}
use Rattle.bt_peer.proofs.Chosen.{rest_uncalled, run_chosen}
use Rattle.bt_peer.proofs.EachStream.{ends_count}
use Rattle.bt_peer.proofs.LastChecks.{each_ended, finishes_from}
use Rattle.bt_peer.proofs.rounds.run.Goals as goal

pub returns-clause-count : goal.returns-clause-count
returns-clause-count g c =
    let took = c.all_rounds.ensures.took in
    ends_count c.tell_ends.new.ends.items c.all_rounds.new.seats c.tell_ends.ensures ∙ took.may.seated ∙ took.count

pub returns-clause-ran : goal.returns-clause-ran
returns-clause-ran g c = λ terms. λ seed. λ want. λ layout. λ new. λ opened.
    let took = c.all_rounds.ensures.took in
    let lacked : Seat → Bool = λ seat. seat.lacked in
    let lacks = map lacked c.all_rounds.new.seats in
    let unfinished = c.last_checks-unfinished.result in
    let desk = c.last_checks-unfinished.new.desk in
    let count = length c.args.streams.now in
    let record_of = stream_of g.R.Source g.W.Sink in
    let left = c.last_checks-unfinished.ensures.leaves in
    let sessions : EachEnded record_of terms seed c.args.streams.now desk c.all_rounds.new.streams c.tell_ends.new.ends.items lacks =
    each_ended record_of terms seed c.args.desk.now c.all_rounds.new.desk desk c.args.seats.now c.all_rounds.new.seats c.args.streams.now
    c.all_rounds.new.streams c.tell_ends.new.ends.items layout c.requires.fresh new c.requires.may took _ (omega arith) left c.tell_ends.ensures in
    let finishes : Finishes count (opening_of want) unfinished desk =
    subst (λ (calls : Calls). Finishes count calls unfinished desk) opened
    (subst (λ (n : ℕ). Finishes n (calls_in c.args.desk.now.history n) unfinished desk) c.all_rounds.auto.streams
    (finishes_from count (length c.all_rounds.new.streams) c.args.desk.now c.all_rounds.new.desk desk unfinished (omega arith) took.rest
    c.last_checks-unfinished.ensures.finishes)) in
    let uncalled = rest_uncalled count (length c.all_rounds.new.streams) c.args.desk.now c.all_rounds.new.desk desk c.all_rounds.auto.streams
    c.requires.fresh took.rest left in
    record {
      lacks = lacks;
      unfinished = unfinished;
      count = length-map c.all_rounds.new.seats lacked ∙ took.may.seated ∙ took.count;
      sessions = sessions;
      finishes = finishes;
      chosen = run_chosen record_of terms seed want c.args.streams.now c.all_rounds.new.streams unfinished desk c.tell_ends.new.ends.items lacks
          sessions uncalled finishes;
      short_is = ap (λ (lacked : Bool). c.last_checks-unfinished.result || lacked) c.some_lacked.ensures;
    }

pub returns-clause-none_waits : goal.returns-clause-none_waits
returns-clause-none_waits g c = grind (arith, common_steps)
