use Rattle.std.proofs.Common.{◌≡◌, length, min, take}
use Rattle.std.specs.List.{concat}
use Rattle.bt_c.proofs.jobs.total_len.Given as goal

-- the bytes of the blocks so far, or the greatest number
abbrev pub invariant-loop-block : goal.invariant-loop-block
invariant-loop-block l = l.total ≡ min (length (concat (take l.block-index l.blocks))) 18446744073709551615
