use Rattle.std.proofs.Common.{take}
use Rattle.std.specs.List.{concat}
use Rattle.bt_check.specs.Holding.{Holds}
use Rattle.bt_check.proofs.lanes.digests_of.Given as goal

-- each lane holds the blocks so far of its list
abbrev pub invariant-loop-i : goal.invariant-loop-i
invariant-loop-i l =
    Holds l.four (concat (take l.i l.a)) (concat (take l.i l.b)) (concat (take l.i l.c)) (concat (take l.i l.d))
