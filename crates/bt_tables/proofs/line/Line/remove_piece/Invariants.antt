use Rattle.std.proofs.Common.{◌≡◌, ◌==◌, ◌-◌, false, length, not, take}
use Rattle.std.specs.List.{filter, list_any}
use Rattle.bt_meta.specs.declared.block.Block.{Block}
use Rattle.bt_tables.proofs.line.Line.remove_piece.Given as goal

abbrev pub invariant-loop-index : goal.invariant-loop-index
invariant-loop-index l =
    (l.self.room ≡ l.initial.self.room)
    × (filter (λ (b : Block). not (l.piece == b.piece)) l.self.asked ≡ filter (λ b. not (l.piece == b.piece)) l.initial.self.asked)
    × (filter (λ (b : Block). not (l.piece == b.piece)) l.self.overdue ≡ filter (λ b. not (l.piece == b.piece)) l.initial.self.overdue)
    × (list_any (λ (b : Block). l.piece == b.piece) (take l.index l.self.asked) ≡ false)

abbrev pub decreases-loop-index : goal.decreases-loop-index
decreases-loop-index l = length l.self.asked - l.index
