use Rattle.std.proofs.Common.{arith, false, sym}
use Rattle.std.proofs.lemmas.Bool.{true≢false}
use Rattle.bt_meta.proofs.Payloads.{byte_within, set_flags, set_payload}
use Rattle.bt_tables.specs.Stripes.{stripe}
use Rattle.bt_tables.proofs.Spelled.{is_row, shown_edit, spelled_edit}
use Rattle.bt_tables.proofs.shows.Shows.set.Goals as goal

pub byte-byte-requires-clause-row : goal.byte-byte-requires-clause-row
byte-byte-requires-clause-row c =
    let o = c.self.inside in
    let at = is_row o.pieces o.stripes _ c.args.worker c.self.view_is c.self.invariant.payloads c.requires.worker in
    at.within

pub byte-byte-requires-clause-place : goal.byte-byte-requires-clause-place
byte-byte-requires-clause-place c =
    let o = c.self.inside in
    let at = is_row o.pieces o.stripes _ c.args.worker c.self.view_is c.self.invariant.payloads c.requires.worker in
    byte_within o.pieces (stripe o.stripes c.args.worker) c.args.piece at.payload (omega (arith, c.requires.piece, at.long))

pub put-requires-clause-row : goal.put-requires-clause-row
put-requires-clause-row c =
    let o = c.self.inside in
    let at = is_row o.pieces o.stripes _ c.args.worker c.self.view_is c.self.invariant.payloads c.requires.worker in
    at.within

pub put-requires-clause-place : goal.put-requires-clause-place
put-requires-clause-place c =
    let o = c.self.inside in
    let at = is_row o.pieces o.stripes _ c.args.worker c.self.view_is c.self.invariant.payloads c.requires.worker in
    byte_within o.pieces (stripe o.stripes c.args.worker) c.args.piece at.payload (omega (arith, c.requires.piece, at.long))

pub invariant_of-self : goal.invariant_of-self
invariant_of-self c =
    let o = c.self.inside in
    let at = is_row o.pieces o.stripes _ c.args.worker c.self.view_is c.self.invariant.payloads c.requires.worker in
    let p = c.args.piece in
    rw (c.put.ensures, c.byte-byte.ensures)
    (shown_edit o.pieces o.stripes o.empty.items c.args.worker _ false c.self.invariant at.within
    (set_payload o.pieces (stripe o.stripes c.args.worker) p at.payload (omega (arith, c.requires.piece, at.long)))
    (λ says. absurd (true≢false (sym says))))

pub returns : goal.returns
returns c =
    let o = c.self.inside in
    let at = is_row o.pieces o.stripes _ c.args.worker c.self.view_is c.self.invariant.payloads c.requires.worker in
    let p = c.args.piece in
    rw (c.put.ensures, c.byte-byte.ensures)
    (spelled_edit o.pieces o.stripes _ c.args.worker _ _ c.self.view_is at.within
    (set_flags o.pieces (stripe o.stripes c.args.worker) p at.payload (omega (arith, c.requires.piece, at.long))))
