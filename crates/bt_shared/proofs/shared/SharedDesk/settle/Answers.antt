use Rattle.std.proofs.Common.{arith, ap, inl, refl, sym, subst, ◌∙◌, rules}
use Rattle.std.specs.Prelude.{IfOk}
use Rattle.bt_check.specs.Checked.{Checked}
use Rattle.bt_history.specs.declared.call.Call.TheVariants as calls
use Rattle.bt_picker.specs.Lasting.{WasDue}
use Rattle.bt_picker.specs.Positions.{DeskState}
use Rattle.bt_shared.specs.Guard.{Sat}
use Rattle.bt_shared.specs.Passes.{Enters, PassState, SharedState}
use Rattle.bt_shared.specs.Seen.{IsAmong}
use Rattle.bt_shared.specs.SharedJobs.{JobState, checking}
use Rattle.bt_shared.proofs.Checked.{enters_ok, rests_err}
use Rattle.bt_shared.proofs.Histories.{among_left}
use Rattle.bt_shared.proofs.Marked.{agrees_call, met_continues, there_continue}
use Rattle.bt_shared.proofs.Seats.{meets}
use Rattle.bt_shared.proofs.SharedJobs.{still_seat, was_due}
use Rattle.bt_shared.proofs.shared.SharedDesk.settle.Goals as goal

pub join_seat-requires : goal.join_seat-requires
join_seat-requires g c =
    let pass_is = ap (λ (p : PassState). p.table) (c.pass.view_is ∙ c.make_room.ensures.same) in
    let desk_is = sym (ap (λ (p : SharedState). p.table) c.self.view_is) in
    let of_desk = ap (λ (j : JobState). j.table) c.verdict.view_is ∙ c.requires.verdict.table ∙ c.requires.pass ∙ desk_is in (
      pass_is ∙ c.requires.pass ∙ desk_is,
      of_desk,
      c.verdict.invariant.empty,
      omega (arith, c.self.invariant.0.one_word),
      meets c.self.inside.table.shared.key c.pass.inside.seat.id c.verdict.inside.seen.id c.pass.inside.seat.me.0 c.verdict.inside.seen.me.0
          c.pass.invariant.0.idle.live c.pass.invariant.0.idle.idle c.verdict.invariant.idle,
    )

pub lock-desk-requires-clause-may : goal.lock-desk-requires-clause-may
lock-desk-requires-clause-may g c =
    let joined = c.join_seat.ensures.2 in
    let w = c.pass.inside.worker in
    record {
      idle = search rules;
      worker = w;
      speaks = subst (IsAmong w) (sym (ap (λ (m : Sat). m.0.part.workers) joined))
          (among_left w c.pass.inside.seat.me.0.part.workers c.verdict.inside.seen.me.0.part.workers
          (subst (IsAmong w) (sym c.pass.invariant.0.alone) (inl refl)));
    }

pub enter_verdict-made-requires-clause-due : goal.enter_verdict-made-requires-clause-due
enter_verdict-made-requires-clause-due g c =
    let old : Sat = c.pass.inside.seat.me in
    let setting = ap (λ (j : JobState). j.setting) c.verdict.view_is ∙ c.requires.verdict.setting
    ∙ sym (ap (λ (p : PassState). p.setting) (c.pass.view_is ∙ c.make_room.ensures.same))
    ∙ sym (ap (λ (m : Sat). m.0.setting) c.join_seat.ensures.2) ∙ c.lock-desk.ensures.found.1 in
    subst (λ (d : DeskState). WasDue d.setting d.history c.verdict.inside.failures c.verdict.inside.verdict.value) (sym c.deref_mut.ensures.value)
    (was_due c.lock-desk.result.value old.0 c.verdict.inside.seen.me c.join_seat.new.seat.me.0 c.verdict.inside.failures
    c.verdict.inside.verdict.value c.verdict.invariant setting (ap (λ (m : Sat). m.0) c.join_seat.ensures.2) c.lock-desk.ensures.found.0.parts)

pub invariant_of-pass : goal.invariant_of-pass
invariant_of-pass g c =
    let old : Sat = c.pass.inside.seat.me in
    let goes = there_continue c.pass.inside.worker old.0.part.seen _ c.lock-desk.result.value c.deref_mut.ensures.value
    (met_continues c.lock-desk.result.value.history old c.verdict.inside.seen.me.0 c.join_seat.new.seat.me.0 c.pass.inside.worker
    c.pass.invariant.0 (ap (λ (m : Sat). m.0) c.join_seat.ensures.2) c.lock-desk.ensures.found.0.parts) in
    let is = ap (λ (m : Sat). m.0.part.seen) c.unlock.ensures.freed in (
      still_seat c.pass.inside.worker old c.verdict.inside.seen.me c.join_seat.new.seat.me c.lock-desk.new.seat.me c.unlock.new.seat.me
          c.lock-desk.result.value.history c.enter_verdict-made.new.desk.history c.pass.invariant.0 c.verdict.invariant.for_none
          (ap (λ (m : Sat). m.0) c.join_seat.ensures.2) (ap (λ (m : Sat). m.0) c.lock-desk.ensures.taken) c.unlock.ensures.freed,
      search rules,
      search rules,
      agrees_call c.enter_verdict-made.result c.deref_mut.result.now c.enter_verdict-made.new.desk c.pass.inside.worker old.0.part.seen _
          (calls.Settle c.verdict.inside.verdict) c.pass.inside.log.items _
          c.enter_verdict-made.ensures.ok c.enter_verdict-made.ensures.log c.enter_verdict-made.ensures.err goes is c.pass.invariant.3,
    )

pub returns-clause-ok : goal.returns-clause-ok
returns-clause-ok g c =
    let pass = c.pass.inside in
    let goes = there_continue pass.worker pass.seat.me.0.part.seen _ c.lock-desk.result.value c.deref_mut.ensures.value
    (met_continues c.lock-desk.result.value.history pass.seat.me c.verdict.inside.seen.me.0 c.join_seat.new.seat.me.0 pass.worker
    c.pass.invariant.0 (ap (λ (m : Sat). m.0) c.join_seat.ensures.2) c.lock-desk.ensures.found.0.parts) in
    let after : PassState = record {
      table = c.unlock.new.seat.table_id;
      setting = c.unlock.new.seat.me.0.setting;
      worker = pass.worker;
      seen = c.unlock.new.seat.me.0.part.seen;
      log = c.enter_verdict-made.new.log.items;
    } in
    subst (λ (v : Checked). IfOk c.enter_verdict-made.result (λ reply. Enters (checking c.args.pass.now.worker v reply) c.args.pass.now after))
    (ap (λ (j : JobState). j.checked) c.verdict.view_is)
    (enters_ok _ c.args.pass.now after (c.pass.view_is ∙ c.make_room.ensures.same) c.deref_mut.result.now goes
    record { table = search rules; setting = search rules; worker = refl } c.enter_verdict-made.new.desk
    (ap (λ (m : Sat). m.0.part.seen) c.unlock.ensures.freed)
    c.enter_verdict-made.result (calls.Settle c.verdict.inside.verdict) c.enter_verdict-made.ensures.ok c.enter_verdict-made.ensures.log)

pub returns-clause-err : goal.returns-clause-err
returns-clause-err g c =
    let pass = c.pass.inside in
    let goes = there_continue pass.worker pass.seat.me.0.part.seen _ c.lock-desk.result.value c.deref_mut.ensures.value
    (met_continues c.lock-desk.result.value.history pass.seat.me c.verdict.inside.seen.me.0 c.join_seat.new.seat.me.0 pass.worker
    c.pass.invariant.0 (ap (λ (m : Sat). m.0) c.join_seat.ensures.2) c.lock-desk.ensures.found.0.parts) in
    rests_err _ c.args.pass.now _ (c.pass.view_is ∙ c.make_room.ensures.same) c.deref_mut.result.now goes
    record { table = search rules; setting = search rules; worker = refl } c.enter_verdict-made.new.desk
    (ap (λ (m : Sat). m.0.part.seen) c.unlock.ensures.freed) c.enter_verdict-made.result c.enter_verdict-made.ensures.err
