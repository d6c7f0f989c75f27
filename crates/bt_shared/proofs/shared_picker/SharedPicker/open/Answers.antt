use Rattle.std.proofs.Common.{◌≡◌, [], length, arith, ap, sym, ◌∙◌, rules}
use Rattle.std.proofs.lemmas.Grind.{common_steps}
use Rattle.bt_history.specs.Setting.{Setting, setting_of}
use Rattle.bt_picker.specs.Positions.{DeskState}
use Rattle.bt_shared.specs.Guard.{Sat, desk as desk_of}
use Rattle.bt_shared.specs.Passes.{PassState, SharedState, newcomer}
use Rattle.bt_shared.proofs.Places.{one_more}
use Rattle.bt_shared.proofs.shared_picker.SharedPicker.open.Goals as goal

pub lay-requires : goal.lay-requires
lay-requires c =
    let s : Setting = setting_of c.args.torrent.value.layout c.args.workers c.args.rules in
    let d : DeskState = c.in_ok-new.field-0 in
    let new : d ≡ desk_of s [] = λ k. record { setting = c.in_ok-new.ensures.setting k; history = c.in_ok-new.ensures.history k } in
    c.in_ok-picker.ensures.ok ∙ new ∙ ap (λ (t : Setting). desk_of t []) (sym c.in_ok-terms.ensures)

pub next_seat-seat-requires-clause-makes : goal.next_seat-seat-requires-clause-makes
next_seat-seat-requires-clause-makes c = record {
  live = c.loop-worker.invariant.live;
  makes = c.loop-worker.invariant.makes;
  below = omega (
    arith,
    c.loop-worker.invariant.next,
    ap (λ (t : Setting). t.workers) (c.loop-worker.invariant.setting ∙ c.in_ok-table.ensures.key ∙ c.in_ok-terms.ensures),
    c.loop-worker-test.true,
  );
}

-- the picker, and the pass that was made last
abbrev desk : goal.In_ok-push → SharedState
desk c = record { table = c.in_ok-table.table.shared.table_id; setting = c.in_ok-table.table.shared.key }

abbrev pass : goal.In_ok-push → PassState
pass c = record {
  table = c.next_seat-seat.result.table_id;
  setting = c.next_seat-seat.result.me.0.setting;
  worker = c.loop-worker.worker;
  seen = c.next_seat-seat.result.me.0.part.seen;
  log = [];
}

next_worker : (c : goal.In_ok-push) → c.loop-worker.worker ≡ length c.loop-worker.passes.items
next_worker c = omega (arith, c.loop-worker.invariant.count)

-- it is the next worker's, who has seen nothing
is_next : (c : goal.In_ok-push) → pass c ≡ newcomer (desk c) (length c.loop-worker.passes.items)
is_next c =
    let seat = c.next_seat-seat.ensures.seat in
    λ k. record {
      table = (seat.0 ∙ c.loop-worker.invariant.table) k;
      setting = (ap (λ (m : Sat). m.0.setting) seat.1 ∙ c.loop-worker.invariant.setting) k;
      worker = next_worker c k;
      seen = ap (λ (m : Sat). m.0.part.seen) seat.1 k;
      log = [];
    }

pub loop-worker-preserved : goal.loop-worker-preserved
loop-worker-preserved c = record {
  table = search rules;
  makes = search rules;
  live = search rules;
  setting = search rules;
  next = search rules;
  count = search rules;
  fresh = λ w below. rw c.in_ok-push.ensures.items (one_more c.loop-worker.passes.items (pass c) (newcomer (desk c))
      (λ v lt. c.loop-worker.invariant.fresh v (omega (arith, next_worker c, lt))) (is_next c) w (omega (arith, next_worker c, below)));
}

pub loop-worker-init : goal.loop-worker-init
loop-worker-init c = grind (arith, common_steps)
