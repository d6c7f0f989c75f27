use Rattle.std.proofs.Common.{arith, ap, ◌∙◌, rules}
use Rattle.bt_shared.specs.Guard.{Sat}
use Rattle.bt_shared.proofs.Marked.{agrees_continue, knows_continue, seat_may}
use Rattle.bt_shared.proofs.Seats.{makes_witness}
use Rattle.bt_shared.proofs.shared.SharedDesk.shared_job.Goals as goal

pub lock-desk-requires-clause-may : goal.lock-desk-requires-clause-may
lock-desk-requires-clause-may g c = seat_may c.pass.inside.worker c.pass.inside.seat.me c.pass.invariant.0

pub split_seat-seen-requires : goal.split_seat-seen-requires
split_seat-seen-requires g c = (
  search rules,
  omega (arith, c.self.invariant.0.one_word),
  makes_witness c.self.inside.table.shared.key c.unlock.new.seat.id c.unlock.new.seat.me.0 (ap (λ (m : Sat). m.0.spent) c.unlock.ensures.freed),
)

pub invariant_of-pass : goal.invariant_of-pass
invariant_of-pass g c =
    let old : Sat = c.pass.inside.seat.me in
    let h = c.lock-desk.result.value.history in
    let goes = knows_continue h old.0.part c.pass.inside.worker c.pass.invariant.0.alone c.lock-desk.ensures.found.0.part in
    let is = ap (λ (m : Sat). m.0.part.seen) c.split_seat-seen.ensures.2 ∙ ap (λ (m : Sat). m.0.part.seen) c.unlock.ensures.freed in (
      search rules,
      search rules,
      search rules,
      agrees_continue c.pass.inside.worker old.0.part.seen h _ c.pass.inside.log.items goes is c.pass.invariant.3,
    )
