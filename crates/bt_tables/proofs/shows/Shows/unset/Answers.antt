use Rattle.std.proofs.Common.{arith, false, get_or, subst, sym}
use lib.Seq.{set-get_or}
use Rattle.bt_meta.specs.WireBits.{flags_of}
use Rattle.bt_meta.proofs.Payloads.{byte_within}
use Rattle.bt_tables.specs.Showing.{AreShown, AreUnset}
use Rattle.bt_tables.specs.Stripes.{stripe}
use Rattle.bt_tables.proofs.Lacked.{unset_flags, unset_payload}
use Rattle.bt_tables.proofs.Spelled.{is_row, none_cleared, shown_edit, spelled_edit}
use Rattle.bt_tables.proofs.shows.Shows.unset.Goals as goal

pub byte-byte-requires-clause-row : goal.byte-byte-requires-clause-row
byte-byte-requires-clause-row c =
    let o = c.self.inside in
    let at = is_row o.pieces o.stripes _ c.args.worker c.self.view_is c.self.invariant.payloads c.requires.worker in
    at.within

pub byte-byte-requires-clause-place : goal.byte-byte-requires-clause-place
byte-byte-requires-clause-place c =
    let o = c.self.inside in
    let at = is_row o.pieces o.stripes _ c.args.worker c.self.view_is c.self.invariant.payloads c.requires.worker in
    byte_within o.pieces (stripe o.stripes c.args.worker) c.args.piece at.payload (omega (arith, c.requires.piece, at.long))

pub put-requires-clause-row : goal.put-requires-clause-row
put-requires-clause-row c =
    let o = c.self.inside in
    let at = is_row o.pieces o.stripes _ c.args.worker c.self.view_is c.self.invariant.payloads c.requires.worker in
    at.within

pub put-requires-clause-place : goal.put-requires-clause-place
put-requires-clause-place c =
    let o = c.self.inside in
    let at = is_row o.pieces o.stripes _ c.args.worker c.self.view_is c.self.invariant.payloads c.requires.worker in
    byte_within o.pieces (stripe o.stripes c.args.worker) c.args.piece at.payload (omega (arith, c.requires.piece, at.long))

pub invariant_of-self : goal.invariant_of-self
invariant_of-self c =
    let o = c.self.inside in
    let at = is_row o.pieces o.stripes _ c.args.worker c.self.view_is c.self.invariant.payloads c.requires.worker in
    let p = c.args.piece in
    rw (c.put.ensures, c.byte-byte.ensures)
    (subst (AreShown o.pieces _) (set-get_or o.empty.items c.args.worker false)
    (shown_edit o.pieces o.stripes o.empty.items c.args.worker _ (get_or o.empty.items c.args.worker false) c.self.invariant at.within
    (unset_payload o.pieces (stripe o.stripes c.args.worker) p at.payload (omega (arith, c.requires.piece, at.long)))
    (λ says. subst AreUnset (sym (unset_flags o.pieces (stripe o.stripes c.args.worker) p at.payload (omega (arith, c.requires.piece, at.long))))
    (none_cleared (flags_of o.pieces (stripe o.stripes c.args.worker)) p (c.self.invariant.none c.args.worker false at.within says)))))

pub returns : goal.returns
returns c =
    let o = c.self.inside in
    let at = is_row o.pieces o.stripes _ c.args.worker c.self.view_is c.self.invariant.payloads c.requires.worker in
    let p = c.args.piece in
    rw (c.put.ensures, c.byte-byte.ensures)
    (spelled_edit o.pieces o.stripes _ c.args.worker _ _ c.self.view_is at.within
    (unset_flags o.pieces (stripe o.stripes c.args.worker) p at.payload (omega (arith, c.requires.piece, at.long))))
