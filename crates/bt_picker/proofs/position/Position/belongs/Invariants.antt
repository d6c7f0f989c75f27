use Rattle.std.proofs.Common.{◌≡◌, ℕ, ◌<◌, false}
use Rattle.bt_history.specs.Pieces.{is_own}
use Rattle.bt_picker.proofs.position.Position.belongs.Given as goal

abbrev pub invariant-loop-worker : goal.invariant-loop-worker
invariant-loop-worker l = (q : ℕ) → q < l.worker → is_own l.self.setting l.self.history q l.piece ≡ false
