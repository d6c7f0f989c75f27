use Rattle.std.proofs.Common.{◌∙◌, ap, length, replicate, sym, subst, false, true}
use Rattle.bt_meta.proofs.Payloads.{length_flags, zero_flags, zero_payload}
use Rattle.bt_tables.specs.Stripes.{stripe}
use Rattle.bt_tables.specs.Showing.{AreUnset}
use Rattle.bt_tables.proofs.Spelled.{cleared_before, is_row, none_set, shown_edit, spelled_edit}
use Rattle.bt_tables.proofs.shows.Shows.clear.Goals as goal

pub clear-requires : goal.clear-requires
clear-requires c =
    let o = c.self.inside in
    let at = is_row o.pieces o.stripes _ c.args.worker c.self.view_is c.self.invariant.payloads c.requires in
    at.within

pub invariant_of-self : goal.invariant_of-self
invariant_of-self c =
    let o = c.self.inside in
    let at = is_row o.pieces o.stripes _ c.args.worker c.self.view_is c.self.invariant.payloads c.requires in
    rw c.clear.ensures
    (shown_edit o.pieces o.stripes o.empty.items c.args.worker _ true c.self.invariant at.within
    (zero_payload o.pieces _ at.payload.few at.payload.len)
    (λ says. subst AreUnset (sym (zero_flags o.pieces (length (stripe o.stripes c.args.worker)))) (none_set o.pieces)))

pub returns : goal.returns
returns c =
    let o = c.self.inside in
    let at = is_row o.pieces o.stripes _ c.args.worker c.self.view_is c.self.invariant.payloads c.requires in
    rw c.clear.ensures
    (spelled_edit o.pieces o.stripes _ c.args.worker _ _ c.self.view_is at.within
    (zero_flags o.pieces (length (stripe o.stripes c.args.worker))
    ∙ ap (λ n. replicate n false) (sym (length_flags o.pieces (stripe o.stripes c.args.worker)))))

pub returns-then-index : goal.returns-then-index
returns-then-index c =
    let o = c.self.inside in
    let at = is_row o.pieces o.stripes _ c.args.worker c.self.view_is c.self.invariant.payloads c.requires in
    cleared_before _ c.args.worker (subst AreUnset at.flags_are (c.self.invariant.none c.args.worker _ at.within (sym c.index.ensures ∙ c.if-index.true)))
