use Rattle.std.proofs.Common.{◌≡◌, take}
use Rattle.std.specs.List.{count_by}
use Rattle.bt_meta.proofs.bitfield.Bitfield.count_ones.Given as goal

abbrev pub invariant-loop-piece : goal.invariant-loop-piece
invariant-loop-piece l = l.ones ≡ count_by (λ flag. flag) (take l.piece l.self)
