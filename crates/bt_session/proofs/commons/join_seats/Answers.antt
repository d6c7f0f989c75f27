use Rattle.std.proofs.Common.{◌≡◌, [], ◌∷◌, length, ap, ◌∙◌, arith, rules}
use Rattle.std.proofs.lemmas.Grind.{common_steps}
use Rattle.std.specs.Vec.Iter.{into_iter_items}
use Rattle.bt_session.proofs.Seats.{all_taken, joins_first, joins_more}
use Rattle.bt_session.specs.Workers.{WorkerState}
use Rattle.bt_session.proofs.commons.join_seats.Goals as goal

pub loop-worker-init : goal.loop-worker-init
loop-worker-init g c =
    let parts = c.into_parts-pass.result in
    let first : WorkerState = record { pass = parts.0; seat = parts.1; tickets = parts.2 } in
    let is : c.args.workers.items ≡ first ∷ into_iter_items c.into_iter-worker-iterator.result = search rules in
    let passes : c.push_reserved.new.self.items ≡ parts.0 ∷ [] = search rules in
    let table : parts.1.table ≡ c.args.board.now.table = search rules in
    record {
      joins = joins_first g.L.RunName.setting g.L.RunName.desk c.args.board.now.table c.args.workers.items _ first c.push_reserved.new.self.items is
          c.into_parts-pass.ensures.belongs.own c.into_parts-pass.ensures.belongs.pass passes table;
      room = search rules;
    }

pub loop-worker-preserved : goal.loop-worker-preserved
loop-worker-preserved g c =
    let was = c.loop-worker.invariant in
    let parts = c.into_parts-pass-in-loop-worker in
    let next : WorkerState = record { pass = parts.result.0; seat = parts.result.1; tickets = parts.result.2 } in
    let is : into_iter_items c.loop-worker.worker-iterator ≡ next ∷ into_iter_items c.next-in-loop-worker.new.self =
    c.in-Some.ensures.steps.0 ∙ ap (λ (w : WorkerState). w ∷ into_iter_items c.next-in-loop-worker.new.self) parts.ensures.parts in
    record {
      joins = joins_more g.L.RunName.setting g.L.RunName.desk c.args.board.now.table c.args.workers.items _ _ next c.loop-worker.passes.items
          c.push_reserved-in-loop-worker.new.self.items c.loop-worker.all c.join-all.result
          was.joins is parts.ensures.belongs.own parts.ensures.belongs.pass c.push_reserved-in-loop-worker.ensures.items c.join-all.ensures.view
          c.join-all.ensures.seat;
      room = omega (
        arith,
        was.room,
        c.in-Some.ensures.steps.1,
        c.push_reserved-in-loop-worker.ensures.len,
        c.push_reserved-in-loop-worker.ensures.capacity,
      );
    }

pub returns-clause-takes : goal.returns-clause-takes
returns-clause-takes g c =
    let none : length (into_iter_items c.loop-worker.worker-iterator) ≡ 0 = search (rules, c.in-None.ensures.steps.0) in
    all_taken c.loop-worker.invariant.joins none

pub returns-in_err-next-clause-passes : goal.returns-in_err-next-clause-passes
returns-in_err-next-clause-passes g c = grind (arith, common_steps)

pub returns-in_err-next-clause-none : goal.returns-in_err-next-clause-none
returns-in_err-next-clause-none g c = grind (arith, common_steps)

pub returns-clause-passes : goal.returns-clause-passes
returns-clause-passes g c = grind (arith, common_steps)
