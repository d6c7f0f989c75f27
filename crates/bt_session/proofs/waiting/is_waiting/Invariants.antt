use Rattle.std.proofs.Common.{◌≡◌, ◌<◌, ℕ, false}
use Rattle.bt_picker.specs.Checks.{waits}
use Rattle.bt_session.proofs.waiting.is_waiting.Given as goal

abbrev pub invariant-loop-piece : goal.invariant-loop-piece
invariant-loop-piece l = (piece : ℕ) → piece < l.piece → waits l.desk.setting l.desk.history piece ≡ false
