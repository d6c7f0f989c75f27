use Rattle.std.proofs.Common.{◌≡◌, length, take}
use Rattle.std.specs.List.{concat}
use Rattle.bt_c.proofs.jobs.copy_blocks.Given as goal

-- the room has the blocks so far
abbrev pub invariant-loop-block : goal.invariant-loop-block
invariant-loop-block l = (l.from ≡ length (concat (take l.block-index l.blocks))) × (take l.from l.room ≡ concat (take l.block-index l.blocks))
