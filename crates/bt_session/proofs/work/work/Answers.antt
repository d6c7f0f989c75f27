use Rattle.std.proofs.Common.{◌≡◌, Bool, true, false, List, [], ◌∷◌, ◌++◌, length, map, refl, sym, ap, subst, ◌∙◌, rules, arith}
use Rattle.std.proofs.lemmas.Grind.{common_steps}
use Rattle.std.specs.Prelude.{◌||◌}
use Rattle.std.specs.List.{list_any}
use Rattle.std.proofs.lemmas.List.{length-map, take-append-drop}
use Rattle.bt_meta.specs.Layout.{piece_count}
use Rattle.bt_peer.specs.Serial.{stream_record}
use Rattle.bt_peer.specs.SessionTerms.{terms_of}
use Rattle.bt_session.proofs.Parts.{Parted, all_check, all_run, last_check, given_up_in_all}
use Rattle.bt_session.specs.Runs.{ChecksLast}
use Rattle.bt_session.specs.Workers.{WorkerState}
use Rattle.bt_shared.specs.Passes.{PassState}
use Rattle.bt_session.proofs.work.work.Goals as goal

parted : (g : _) (c : goal.After-push_reserved g) → Parted (length c.args.streams.items) c.args.plan.checkers c.args.workers.items
    c.push_reserved.new.self.items
    c.split_off.new.self.items c.in_ok-checkers.checkers.items (map (λ p. p.worker) c.in_ok-returned.returned.ended.items)
    (map (λ p. p.worker) c.in_ok-returned.returned.stopped.items) c.in-Some.last c.last_checks-unfinished.new.worker
parted g c =
    let before = c.pop.new.self.items in
    let sessions = c.split_off.new.self.items in
    let checkers = c.in_ok-checkers.checkers.items in
    let ended = map (λ p. p.worker) c.in_ok-returned.returned.ended.items in
    let stopped = map (λ p. p.worker) c.in_ok-returned.returned.stopped.items in
    let last = c.last_checks-unfinished.new.worker in
    let parts : before ≡ sessions ++ checkers = rw (c.in_ok-checkers.ensures.items, c.in_ok-checkers.ensures.tail) (sym (take-append-drop _ before))
    in
    let many : length sessions ≡ length c.args.streams.items = search rules in
    let many_checkers : length checkers ≡ c.args.plan.checkers = search rules in
    record {
      before = c.in-Some.ensures.items ∙ ap (λ (l : List WorkerState). l ++ c.in-Some.last ∷ []) parts;
      after = c.push_reserved.ensures.items
          ∙ ap (λ (ws : List WorkerState). ws ++ last ∷ [])
          (c.part_checkers-given_up.ensures.workers ∙ ap (λ (ws : List WorkerState). ws ++ stopped) c.part-came_back.ensures.workers);
      many = many;
      many_checkers = many_checkers;
      many_ended = length-map c.in_ok-returned.returned.ended.items (λ p. p.worker) ∙ c.in_ok-returned.ensures.count;
      many_stopped = length-map c.in_ok-returned.returned.stopped.items (λ p. p.worker) ∙ (c.in_ok-returned.ensures.checkers ∙ many_checkers);
    }

or_second : (a b c d : Bool) → b ≡ true → (((a || b) || c) || d) ≡ true
or_second true b c d is = refl
or_second false true c d is = refl
or_second false false c d is = absurd cc

pub returns-clause-runs : goal.returns-clause-runs
returns-clause-runs g c =
    let ended = c.in_ok-returned.returned.ended.items in
    let given_up = list_any (λ p. p.given_up) ended in
    rw (c.part-came_back.ensures.ends, c.part-came_back.ensures.streams) (λ i worker stream end below.
    given_up_in_all _ _ _ _ _ _ _ _ given_up _ (λ is. or_second _ _ _ _ (c.part-came_back.ensures.given_up ∙ is))
    (all_run (parted g c)
    (stream_record g.R.Source.left g.R.Source.ended g.R.Source.failed g.R.Source.reads g.W.Sink.written g.W.Sink.failed)
    (terms_of c.args.commons.now c.args.plan.rules.depth) g.L.RunName.setting c.args.plan.seed c.args.streams.items
    (map (λ p. p.stream) ended) (map (λ p. p.end) ended) given_up refl c.in_ok-returned.ensures.runs i worker stream end below))

pub returns-clause-checks : goal.returns-clause-checks
returns-clause-checks g c = all_check (parted g c) c.in_ok-returned.ensures.checks

pub returns-clause-last : goal.returns-clause-last
returns-clause-last g c =
    let pieces = piece_count c.args.commons.now.layout in
    last_check (parted g c) pieces
    (subst (λ (p : PassState). ChecksLast p c.last_checks-unfinished.new.worker.pass pieces) c.in_ok-returned.ensures.last.0
    c.last_checks-unfinished.ensures)

pub unreachable-requires : goal.unreachable-requires
unreachable-requires g c = grind (arith, common_steps)

pub crew-requires : goal.crew-requires
crew-requires g c = grind (arith, common_steps)

pub part-came_back-requires-clause-room : goal.part-came_back-requires-clause-room
part-came_back-requires-clause-room g c = grind (arith, common_steps)

pub part_checkers-given_up-requires : goal.part_checkers-given_up-requires
part_checkers-given_up-requires g c = grind (arith, common_steps)

pub push_reserved-requires : goal.push_reserved-requires
push_reserved-requires g c = grind (arith, common_steps)

pub returns-clause-count : goal.returns-clause-count
returns-clause-count g c = grind (arith, common_steps)
