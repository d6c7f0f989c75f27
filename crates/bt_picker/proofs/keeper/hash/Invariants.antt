use Rattle.std.proofs.Common.{take}
use Rattle.std.specs.List.{concat}
use Rattle.sha1.specs.Sha1.{Holds}
use Rattle.bt_picker.proofs.keeper.hash.Given as goal

-- the hasher holds the blocks so far
abbrev pub invariant-loop-block : goal.invariant-loop-block
invariant-loop-block l = Holds l.hasher (concat (take l.block-index l.blocks))
