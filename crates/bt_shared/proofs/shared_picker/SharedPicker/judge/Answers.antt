use Rattle.bt_shared.proofs.Marked.{seat_may}
use Rattle.bt_shared.proofs.shared_picker.SharedPicker.judge.Goals as goal

pub lock-picker-requires-clause-may : goal.lock-picker-requires-clause-may
lock-picker-requires-clause-may g c = seat_may c.pass.inside.worker c.pass.inside.seat.me c.pass.invariant.0
