use Rattle.std.proofs.Common.{arith, ◌∙◌, ap, false, sym}
use Rattle.std.proofs.lemmas.Bool.{true≢false}
use Rattle.bt_meta.proofs.Payloads.{same_flags}
use Rattle.bt_meta.specs.WireBits.{wire_len}
use Rattle.bt_tables.proofs.Spelled.{is_row, shown_edit, spelled_edit, spelled_payload}
use Rattle.bt_tables.proofs.shows.Shows.put.Goals as goal

pub write-requires-clause-row : goal.write-requires-clause-row
write-requires-clause-row c =
    let o = c.self.inside in
    let at = is_row o.pieces o.stripes _ c.args.worker c.self.view_is c.self.invariant.payloads c.requires.worker in
    at.within

pub write-requires-clause-width : goal.write-requires-clause-width
write-requires-clause-width c =
    let o = c.self.inside in
    let at = is_row o.pieces o.stripes _ c.args.worker c.self.view_is c.self.invariant.payloads c.requires.worker in
    c.as_wire.ensures.len ∙ (ap wire_len (c.requires.flags ∙ at.long) ∙ sym at.payload.len)

pub invariant_of-self : goal.invariant_of-self
invariant_of-self c =
    let o = c.self.inside in
    let at = is_row o.pieces o.stripes _ c.args.worker c.self.view_is c.self.invariant.payloads c.requires.worker in
    rw c.write.ensures
    (shown_edit o.pieces o.stripes o.empty.items c.args.worker _ false c.self.invariant at.within
    (spelled_payload o.pieces c.args.flags.now _ at.payload.few (c.requires.flags ∙ at.long) c.as_wire.ensures)
    (λ says. absurd (true≢false (sym says))))

pub returns : goal.returns
returns c =
    let o = c.self.inside in
    let at = is_row o.pieces o.stripes _ c.args.worker c.self.view_is c.self.invariant.payloads c.requires.worker in
    rw c.write.ensures
    (spelled_edit o.pieces o.stripes _ c.args.worker _ _ c.self.view_is at.within
    (same_flags o.pieces c.as_wire.result.now c.args.flags.now (c.requires.flags ∙ at.long)
    (λ p lp. c.as_wire.ensures.bits p (omega (arith, lp, c.as_wire.ensures.len, c.requires.flags, at.long)))))
