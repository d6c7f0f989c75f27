use Rattle.std.proofs.Common.{◌∙◌, ap, refl, rules}
use Rattle.bt_shared.specs.Guard.{Sat}
use Rattle.bt_shared.proofs.Marked.{agrees_call, knows_continue, seat_may, there_continue}
use Rattle.bt_shared.proofs.Checked.{enters_ok}
use Rattle.bt_shared.proofs.shared.SharedDesk.call.Goals as goal

pub invariant_of-pass : goal.invariant_of-pass
invariant_of-pass g c =
    let old : Sat = c.pass.inside.seat.me in
    let w = c.pass.inside.worker in
    let found = c.lock-desk.result.value in
    let goes = there_continue w old.0.part.seen _ found c.deref_mut.ensures.value
    (knows_continue found.history old.0.part w c.pass.invariant.0.alone c.lock-desk.ensures.found.0.part) in
    let is = ap (λ (m : Sat). m.0.part.seen) c.unlock.ensures.freed in (
      search rules fits 100,
      search rules,
      search rules,
      agrees_call c.enter-made.result c.deref_mut.result.now c.enter-made.new.desk c.pass.inside.worker old.0.part.seen _ c.args.call
          c.pass.inside.log.items _
          c.enter-made.ensures.ok c.enter-made.ensures.log c.enter-made.ensures.err goes is c.pass.invariant.3,
    )

pub lock-desk-requires-clause-may : goal.lock-desk-requires-clause-may
lock-desk-requires-clause-may g c = seat_may c.pass.inside.worker c.pass.inside.seat.me c.pass.invariant.0

pub returns-clause-ok : goal.returns-clause-ok
returns-clause-ok g c =
    let pass = c.pass.inside in
    let old : Sat = pass.seat.me in
    let found = c.lock-desk.ensures.found in
    let goes = there_continue pass.worker old.0.part.seen _ c.lock-desk.result.value c.deref_mut.ensures.value
    (knows_continue c.lock-desk.result.value.history old.0.part pass.worker c.pass.invariant.0.alone found.0.part) in
    enters_ok _ c.args.pass.now _ (c.pass.view_is ∙ c.make_room.ensures.same) c.deref_mut.result.now goes
    record { table = search rules; setting = search rules; worker = refl } c.enter-made.new.desk
    (ap (λ (m : Sat). m.0.part.seen) c.unlock.ensures.freed)
    c.enter-made.result c.args.call c.enter-made.ensures.ok c.enter-made.ensures.log
