use Rattle.std.proofs.Common.{arith}
use Rattle.bt_tables.proofs.Apart.{length_whole}
use Rattle.bt_tables.proofs.pieces.Pieces.advance.Goals as goal

pub fresh_from-self-inside-requires : goal.fresh_from-self-inside-requires
fresh_from-self-inside-requires c =
    let o = c.self.inside in
    let all = length_whole o.rows o.shown_by.items c.self.invariant.1 in
    omega (arith, all, c.self.invariant.0.short)
