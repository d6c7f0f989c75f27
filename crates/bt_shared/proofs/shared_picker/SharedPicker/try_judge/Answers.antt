use Rattle.bt_shared.proofs.Marked.{seat_may}
use Rattle.bt_shared.proofs.shared_picker.SharedPicker.try_judge.Goals as goal

pub try_lock-requires-clause-may : goal.try_lock-requires-clause-may
try_lock-requires-clause-may c = seat_may c.pass.inside.worker c.pass.inside.seat.me c.pass.invariant.0
