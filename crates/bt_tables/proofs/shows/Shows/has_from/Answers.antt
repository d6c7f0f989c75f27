use Rattle.std.proofs.Common.{arith}
use Rattle.bt_tables.proofs.Spelled.{is_row}
use Rattle.bt_tables.proofs.shows.Shows.has_from.Goals as goal

pub has-requires-clause-piece : goal.has-requires-clause-piece
has-requires-clause-piece c =
    let o = c.self.inside in
    let at = is_row o.pieces o.stripes _ c.args.worker c.self.view_is c.self.invariant.payloads c.requires in
    omega (arith, at.long, c.loop-piece-test.true)

pub returns : goal.returns
returns c _ p from below =
    let o = c.self.inside in
    let at = is_row o.pieces o.stripes _ c.args.worker c.self.view_is c.self.invariant.payloads c.requires in
    c.loop-piece.invariant p from (omega (arith, at.long, below, c.loop-piece-test.false))
