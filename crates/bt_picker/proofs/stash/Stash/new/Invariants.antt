use Rattle.std.proofs.Common.{◌≡◌, [], map, replicate}
use Rattle.bt_picker.proofs.stash.Stash.new.Given as goal

abbrev pub invariant-loop-piece : goal.invariant-loop-piece
invariant-loop-piece l = map (λ row. row.items) l.rows.items ≡ replicate l.piece []
