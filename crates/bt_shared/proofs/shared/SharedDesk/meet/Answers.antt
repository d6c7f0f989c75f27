use Rattle.std.proofs.Common.{◌≡◌, [], arith, inl, refl, sym, ap, subst, ◌∙◌, rules}
use Rattle.bt_shared.specs.Guard.{Sat, witness}
use Rattle.bt_shared.specs.Passes.{PassState, SharedState}
use Rattle.bt_shared.specs.Seen.{IsAmong}
use Rattle.bt_shared.proofs.Histories.{among_left}
use Rattle.bt_shared.proofs.Marked.{agrees_continue, met_continues}
use Rattle.bt_shared.proofs.Seats.{makes_witness, meets}
use Rattle.bt_shared.proofs.shared.SharedDesk.meet.Goals as goal

pub split_seat-copy-requires : goal.split_seat-copy-requires
split_seat-copy-requires g c = (
  ap (λ (p : PassState). p.table) c.first.view_is ∙ (c.requires.first ∙ sym (ap (λ (p : SharedState). p.table) c.self.view_is)),
  omega (arith, c.self.invariant.0.one_word),
  makes_witness c.self.inside.table.shared.key c.first.inside.seat.id c.first.inside.seat.me.0 c.first.invariant.0.idle.live,
)

pub join_seat-requires : goal.join_seat-requires
join_seat-requires g c =
    let shared-is = sym (ap (λ (p : SharedState). p.table) c.self.view_is) in
    let copy = c.split_seat-copy.ensures in
    let me : c.split_seat-copy.result.me ≡ (witness c.first.inside.seat.me.0, []) = copy.4 in (
      ap (λ (p : PassState). p.table) c.second.view_is ∙ (c.requires.second ∙ shared-is),
      copy.3 ∙ (ap (λ (p : PassState). p.table) c.first.view_is ∙ (c.requires.first ∙ shared-is)),
      ap (λ (m : Sat). m.1) me,
      omega (arith, c.self.invariant.0.one_word),
      meets c.self.inside.table.shared.key c.second.inside.seat.id c.split_seat-copy.result.id c.second.inside.seat.me.0 c.split_seat-copy.result.me.0
          c.second.invariant.0.idle.live c.second.invariant.0.idle.idle (ap (λ (m : Sat). m.0.taken) me),
    )

pub invariant_of-second : goal.invariant_of-second
invariant_of-second g c =
    let old : Sat = c.second.inside.seat.me in
    let h = c.lock-desk.result.value.history in
    let goes = met_continues h old c.split_seat-copy.result.me.0 c.join_seat.new.seat.me.0 c.second.inside.worker c.second.invariant.0
    (ap (λ (m : Sat). m.0) c.join_seat.ensures.2) c.lock-desk.ensures.found.0.parts in
    let is = ap (λ (m : Sat). m.0.part.seen) c.unlock.ensures.freed in (
      search rules,
      search rules,
      search rules,
      agrees_continue c.second.inside.worker old.0.part.seen h _ c.second.inside.log.items goes is
          c.second.invariant.3,
    )

pub lock-desk-requires-clause-may : goal.lock-desk-requires-clause-may
lock-desk-requires-clause-may g c =
    let joined = c.join_seat.ensures.2 in
    let w = c.second.inside.worker in
    record {
      idle = search rules;
      worker = w;
      speaks = subst (IsAmong w) (sym (ap (λ (m : Sat). m.0.part.workers) joined))
          (among_left w c.second.inside.seat.me.0.part.workers c.split_seat-copy.result.me.0.part.workers
          (subst (IsAmong w) (sym c.second.invariant.0.alone) (inl refl)));
    }

pub returns-clause-told : goal.returns-clause-told
returns-clause-told g c = search rules fits 100
