use Rattle.std.proofs.Common.{◌≡◌, ◌<◌, rules, arith, get_or, length, map, vec_len, sym, ap, ◌∙◌}
use Rattle.std.specs.List.{list_any}
use Rattle.std.proofs.lemmas.List.{get_or-map, length-map}
use Rattle.bt_session.specs.declared.checker.StoppedChecker.{StoppedChecker}
use Rattle.bt_session.specs.declared.session_thread.EndedSession.{EndedSession}
use Rattle.bt_session.specs.Checking.{EachMakesChecks}
use Rattle.bt_session.specs.Swarms.{EachRunsSession}
use Rattle.bt_peer.specs.Serial.{stream_record}
use Rattle.bt_peer.specs.SessionTerms.{terms_of}
use Rattle.bt_session.proofs.Kept.{part_at}
use Rattle.bt_session.proofs.Parts.{runs_among}
use Rattle.bt_session.proofs.crew.fn.crew.scope.Given as given
use Rattle.bt_session.proofs.crew.fn.crew.scope.Goals as goal

-- a thread was started for each stream, and for each checker
many : (g : given.Over) (c : goal.In-Ok g) → length c.start_all-started.new.running.items ≡ length c.captures.hands.streams.items
many g c = sym (length-map c.start_all-started.new.running.items (λ h. h.promise.stream.value)) ∙ ap length c.in-Ok.ensures.streams

many_checkers : (g : given.Over) (c : goal.In-Ok g) → length c.start_all-started.new.checking.items ≡ length c.captures.hands.checkers.items
many_checkers g c = sym (length-map c.start_all-started.new.checking.items (λ h. h.promise.worker.value)) ∙ ap length c.in-Ok.ensures.checkers

-- all of them gave something back
all_back : (g : given.Over) (c : goal.In-Ok g) → length c.join_each.new.all.items ≡ length c.start_all-started.new.running.items
all_back g c = search rules

checkers_back : (g : given.Over) (c : goal.In-Ok g) → length c.join_each-2.new.all.items ≡ length c.start_all-started.new.checking.items
checkers_back g c = search rules

-- each session ran as its handle promised: with the worker and the stream of its place
runs : (g : given.Over) (c : goal.In-Ok g) → EachRunsSession
    (stream_record g.R.Source.left g.R.Source.ended g.R.Source.failed g.R.Source.reads g.W.Sink.written g.W.Sink.failed)
    (terms_of c.captures.commons.now c.captures.plan.rules.depth) g.L.RunName.setting c.captures.plan.seed
    c.captures.hands.sessions.items c.captures.hands.streams.items (map (λ p. p.end) c.join_each.new.all.items)
    (map (λ p. p.worker) c.join_each.new.all.items) (map (λ p. p.stream) c.join_each.new.all.items)
    (list_any (λ p. p.given_up) c.join_each.new.all.items)
runs g c i worker stream end below =
    let hs = c.start_all-started.new.running.items in
    let d : EndedSession g.row.L.Denot g.row.R.Denot g.row.W.Denot =
    record { end = end; worker = worker; stream = stream; given_up = c.stop-told.result } in
    let whole : vec_len c.start_all-started.new.running ≡ length hs = search rules in
    let there : i < length hs = omega (arith, below, many g c) in
    let k = (c.join_each.ensures.each i d (omega (arith, there, whole))).1 in
    let record_of = stream_record g.R.Source.left g.R.Source.ended g.R.Source.failed g.R.Source.reads g.W.Sink.written g.W.Sink.failed in
    runs_among (λ p. p.end) (λ p. p.worker) (λ p. p.stream) (λ p. p.given_up) record_of
    (terms_of c.captures.commons.now c.captures.plan.rules.depth) g.L.RunName.setting c.captures.plan.seed c.join_each.new.all.items i d
    (get_or c.captures.hands.sessions.items i worker) (record_of (get_or c.captures.hands.streams.items i stream))
    (omega (arith, there, all_back g c)) (rw (
      sym (ap (λ h. h.promise.seed) k.handle_is ∙ c.in-Ok.ensures.seeds i k.handle there),
      sym (ap (λ h. terms_of h.promise.torrent.value.value h.promise.depth) k.handle_is ∙ c.in-Ok.ensures.terms i k.handle there),
      part_at (λ h. h.promise.worker.value) hs _ c.in-Ok.ensures.sessions i k.handle worker there k.handle_is,
      part_at (λ h. h.promise.stream.value) hs _ c.in-Ok.ensures.streams i k.handle stream there k.handle_is,
    ) k.kept)

-- and so did each checker
checks : (g : given.Over) (c : goal.In-Ok g) → EachMakesChecks c.captures.hands.checkers.items (map (λ p. p.worker) c.join_each-2.new.all.items)
checks g c i worker below =
    let ks = c.start_all-started.new.checking.items in
    let d : StoppedChecker g.row.L.Denot = record { worker = worker; given_up = c.stop-told.result } in
    let whole : vec_len c.start_all-started.new.checking ≡ length ks = search rules in
    let there : i < length ks = omega (arith, below, many_checkers g c) in
    let k = (c.join_each-2.ensures.each i d (omega (arith, there, whole))).1 in
    rw (
      part_at (λ h. h.promise.worker.value) ks _ c.in-Ok.ensures.checkers i k.handle worker there k.handle_is,
      get_or-map (λ p. p.worker) c.join_each-2.new.all.items i d worker (omega (arith, there, checkers_back g c)),
    ) k.kept.makes

pub returns-in-Ok : goal.returns-in-Ok
returns-in-Ok g c = record {
  count = all_back g c ∙ many g c;
  checkers = checkers_back g c ∙ many_checkers g c;
  runs = runs g c;
  checks = checks g c;
  last = search rules;
  err = tt;
}
