use Rattle.std.proofs.Common.{◌≡◌, ◌+◌, length, refl, ap, ◌∙◌, rules, arith}
use Rattle.std.proofs.lemmas.Grind.{common_steps}
use Rattle.bt_meta.specs.Layout.{piece_count}
use Rattle.bt_peer.specs.Serial.{stream_record}
use Rattle.bt_peer.specs.SessionTerms.{terms_of}
use Rattle.bt_history.specs.Setting.{Setting}
use Rattle.bt_session.proofs.Wanted.{chosen_all}
use Rattle.bt_session.proofs.Gathered.{Ran, checkers_check, finished, in_order, ran_by, swarmed}
use Rattle.bt_session.proofs.swarm_run.run.Given as given
use Rattle.bt_session.proofs.swarm_run.run.Goals as goal

pub gather-requires-clause-order : goal.gather-requires-clause-order
gather-requires-clause-order g c =
    let made = c.in_ok-commons.ensures in
    let did = c.in_ok-worked.ensures in
    let many : length c.in_ok-commons.all.items ≡ length c.args.streams.items + c.args.plan.checkers + 1 = search rules in
    in_order (ran_by
    {record_of = stream_record g.R.Source.left g.R.Source.ended g.R.Source.failed g.R.Source.reads g.W.Sink.written g.W.Sink.failed}
    {streams' = c.in_ok-worked.worked.streams.items} made.torrent c.requires.streams.0 made.fresh many did.count.2 refl did.runs did.checks did.last)

-- the sessions ran, the checkers checked, and the last worker made the last checks
ran : (g : given.Over) (c : goal.After-is_short-short g) → Ran
    (stream_record g.R.Source.left g.R.Source.ended g.R.Source.failed g.R.Source.reads g.W.Sink.written g.W.Sink.failed)
    (terms_of c.args.torrent.value c.args.plan.rules.depth) g.L.RunName.setting c.args.plan.seed (length c.args.streams.items) c.args.plan.checkers
    (piece_count c.args.torrent.value.layout) c.in_ok-commons.all.items c.in_ok-worked.worked.workers.items c.args.streams.items
    c.in_ok-worked.worked.streams.items c.in_ok-worked.worked.ends.items c.in_ok-worked.worked.given_up
ran g c =
    let made = c.in_ok-commons.ensures in
    let did = c.in_ok-worked.ensures in
    let many : length c.in_ok-commons.all.items ≡ length c.args.streams.items + c.args.plan.checkers + 1 = search rules in
    ran_by made.torrent c.requires.streams.0 made.fresh many did.count.2 refl did.runs did.checks did.last

pub returns-clause-sessions : goal.returns-clause-sessions
returns-clause-sessions g c =
    let book = c.in_ok-book.ensures in
    swarmed (ran g c) c.in_ok-book.book.logs.items c.in_ok-book.book.desk.history book.logs book.agrees book.seen
    (book.count ∙ (ran g c).many') book.had
    c.is_short-short.result c.is_short-short.ensures.noted

pub returns-clause-checks : goal.returns-clause-checks
returns-clause-checks g c =
    let book = c.in_ok-book.ensures in
    checkers_check (ran g c) c.in_ok-book.book.logs.items c.in_ok-book.book.desk.history book.logs book.agrees book.seen
    (book.count ∙ (ran g c).many') book.had

pub returns-clause-finishes : goal.returns-clause-finishes
returns-clause-finishes g c =
    let book = c.in_ok-book.ensures in
    finished (ran g c) c.in_ok-book.book.logs.items c.in_ok-book.book.desk.history book.logs book.agrees book.seen
    (book.count ∙ (ran g c).many') book.had

pub work-requires : goal.work-requires
work-requires g c = grind (arith, common_steps)

pub returns-clause-chosen : goal.returns-clause-chosen
returns-clause-chosen g c =
    let book = c.in_ok-book.ensures in
    chosen_all (ran g c) c.in_ok-book.book.logs.items c.in_ok-book.book.desk book.logs book.agrees book.seen (book.count ∙ (ran g c).many') book.had
    (ap (λ (s : Setting). s.workers) c.requires.setting) book.legal
