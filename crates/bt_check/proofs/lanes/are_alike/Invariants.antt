use Rattle.std.proofs.Common.{◌≡◌, take}
use Rattle.bt_check.specs.Checked.{lengths}
use Rattle.bt_check.proofs.lanes.are_alike.Given as goal

-- the blocks so far are equally long
abbrev pub invariant-loop-i : goal.invariant-loop-i
invariant-loop-i l = lengths (take l.i l.b) ≡ lengths (take l.i l.a)
