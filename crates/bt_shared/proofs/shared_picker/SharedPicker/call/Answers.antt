use Rattle.std.proofs.Common.{◌∙◌}
use Rattle.bt_picker.specs.Told.{telling}
use Rattle.bt_shared.proofs.Marked.{seat_may}
use Rattle.bt_shared.proofs.Turns.{pass_adds}
use Rattle.bt_shared.proofs.shared_picker.SharedPicker.call.Goals as goal

pub lock-picker-requires-clause-may : goal.lock-picker-requires-clause-may
lock-picker-requires-clause-may g c = seat_may c.pass.inside.worker c.pass.inside.seat.me c.pass.invariant.0

pub returns-clause-adds : goal.returns-clause-adds
returns-clause-adds g c =
    let pass = c.pass.inside in
    let found = c.lock-picker.ensures in
    pass_adds pass.worker pass.seat.table_id _ pass.seat.me _ _ c.lock-picker.result.value c.pass.invariant.0 found.found found.taken c.args.pass.now c.pass.view_is
    (c.tell_and_free.ensures.same.0 ∙ found.same.0) (λ w. telling w c.args.told c.tell_and_free.result) c.tell_and_free.ensures.gains
