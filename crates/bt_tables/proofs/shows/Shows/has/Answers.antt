use Rattle.std.proofs.Common.{arith}
use Rattle.bt_meta.proofs.Payloads.{byte_within, told}
use Rattle.bt_tables.specs.Stripes.{stripe}
use Rattle.bt_tables.proofs.Spelled.{is_row}
use Rattle.bt_tables.proofs.shows.Shows.has.Goals as goal

pub byte-requires-clause-row : goal.byte-requires-clause-row
byte-requires-clause-row c =
    let o = c.self.inside in
    let at = is_row o.pieces o.stripes _ c.args.worker c.self.view_is c.self.invariant.payloads c.requires.worker in
    at.within

pub byte-requires-clause-place : goal.byte-requires-clause-place
byte-requires-clause-place c =
    let o = c.self.inside in
    let at = is_row o.pieces o.stripes _ c.args.worker c.self.view_is c.self.invariant.payloads c.requires.worker in
    byte_within o.pieces (stripe o.stripes c.args.worker) c.args.piece at.payload (omega (arith, c.requires.piece, at.long))

pub returns : goal.returns
returns c =
    let o = c.self.inside in
    let at = is_row o.pieces o.stripes _ c.args.worker c.self.view_is c.self.invariant.payloads c.requires.worker in
    rw (c.bit.ensures, c.byte.ensures)
    (told o.pieces (stripe o.stripes c.args.worker) _ at.flags_are c.args.piece (omega (arith, c.requires.piece, at.long)))
