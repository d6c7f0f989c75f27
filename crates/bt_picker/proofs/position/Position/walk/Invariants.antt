use Rattle.std.proofs.Common.{◌≡◌, ℕ, ◌<◌, ◌≤◌, ◌==◌, ◌&&◌, false}
use Rattle.bt_history.specs.Pieces.{offers}
use Rattle.bt_tables.specs.Orders.{at}
use Rattle.bt_picker.specs.Tables.{groups_of}
use Rattle.bt_picker.proofs.position.Position.walk.Given as goal

abbrev pub invariant-loop-piece : goal.invariant-loop-piece
invariant-loop-piece l =
    (p : ℕ) → l.low ≤ p → p < l.piece →
    ((at (groups_of l.self.setting l.self.history) p == l.group) && offers l.self.setting l.self.history l.worker p) ≡ false
