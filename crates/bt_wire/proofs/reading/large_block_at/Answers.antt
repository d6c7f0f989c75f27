use Rattle.std.proofs.Common.{arith}
use Rattle.bt_wire.proofs.Blocks.{stands}
use Rattle.bt_wire.proofs.reading.large_block_at.Goals as goal

pub returns-clause-stands : goal.returns-clause-stands
returns-clause-stands c =
    stands _ _ _ _ _ _ _ _ _ _ _ c.number_of-len.ensures.parts c.in_ok-kind.ensures.cases.0 c.number_of-piece.ensures.parts c.number_of-begin.ensures.parts
    (omega arith) (omega (arith, c.in_ok-block_len.ensures)) (omega arith) (omega arith) (omega arith) (omega arith)
