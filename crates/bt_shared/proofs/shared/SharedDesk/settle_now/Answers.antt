use Rattle.std.proofs.Common.{arith, ◌∙◌, ap, refl, sym, rules}
use Rattle.std.proofs.lemmas.Grind.{common_steps}
use Rattle.bt_picker.specs.Positions.{DeskState}
use Rattle.bt_shared.specs.Guard.{Sat}
use Rattle.bt_shared.proofs.Checked.{settles_ok}
use Rattle.bt_shared.proofs.Marked.{agrees_check, knows_continue, seat_may, there_continue}
use Rattle.bt_shared.proofs.shared.SharedDesk.settle_now.Goals as goal

pub invariant_of-pass : goal.invariant_of-pass
invariant_of-pass g c =
    let old : Sat = c.pass.inside.seat.me in
    let w = c.pass.inside.worker in
    let found = c.lock-desk.result.value in
    let goes = there_continue w old.0.part.seen _ found c.deref_mut.ensures.value
    (knows_continue found.history old.0.part w c.pass.invariant.0.alone c.lock-desk.ensures.found.0.part) in
    let is = ap (λ (m : Sat). m.0.part.seen) c.unlock.ensures.freed in (
      search rules,
      search rules,
      search rules,
      agrees_check c.enter_check-made.result c.deref_mut.result.now c.enter_check-made.new.desk c.pass.inside.worker old.0.part.seen _ c.args.piece
          c.pass.inside.log.items _
          c.enter_check-made.ensures.ok c.enter_check-made.ensures.log c.enter_check-made.ensures.err goes is c.pass.invariant.3,
    )

pub returns-clause-ok : goal.returns-clause-ok
returns-clause-ok g c =
    let pass = c.pass.inside in
    let old : Sat = pass.seat.me in
    let found = c.lock-desk.ensures.found in
    let goes = there_continue pass.worker old.0.part.seen _ c.lock-desk.result.value c.deref_mut.ensures.value
    (knows_continue c.lock-desk.result.value.history old.0.part pass.worker c.pass.invariant.0.alone found.0.part) in
    settles_ok _ c.args.pass.now _ c.pass.view_is c.deref_mut.result.now goes
    record { table = search rules; setting = search rules; worker = refl } c.enter_check-made.new.desk
    (ap (λ (m : Sat). m.0.part.seen) c.unlock.ensures.freed)
    c.enter_check-made.result c.args.piece c.enter_check-made.ensures.ok c.enter_check-made.ensures.log
    (ap (λ (m : Sat). m.0.setting) c.unlock.ensures.freed ∙ (ap (λ (m : Sat). m.0.setting) c.lock-desk.ensures.taken ∙ found.1)
    ∙ ap (λ (d : DeskState). d.setting) (sym c.deref_mut.ensures.value))

pub lock-desk-requires-clause-may : goal.lock-desk-requires-clause-may
lock-desk-requires-clause-may g c = seat_may c.pass.inside.worker c.pass.inside.seat.me c.pass.invariant.0

pub unlock-requires-clause-taken : goal.unlock-requires-clause-taken
unlock-requires-clause-taken g c = grind (arith, common_steps)
