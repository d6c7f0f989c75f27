use Rattle.std.proofs.Common.{arith, None, Some, subst, sym, ◌∙◌}
use Rattle.std.proofs.lemmas.List.{get_or_past}
use Rattle.bt_meta.proofs.Searched.{first_flag}
use Rattle.bt_tables.specs.Showing.{AreUnset, flags_at}
use Rattle.bt_tables.specs.Stripes.{stripe}
use Rattle.bt_tables.proofs.Spelled.{is_row}
use Rattle.bt_tables.proofs.shows.Shows.first_from.Goals as goal
use Rattle.bt_tables.proofs.shows.Shows.first_from.Goals.{then-piece-self-via-then-piece-self, then-piece-self-via-else-piece-self+then-index}

pub first_bit-requires-clause-row : goal.first_bit-requires-clause-row
first_bit-requires-clause-row c =
    let o = c.self.inside in
    let at = is_row o.pieces o.stripes _ c.args.worker c.self.view_is c.self.invariant.payloads c.requires in
    at.within

pub first_bit-requires-clause-place : goal.first_bit-requires-clause-place
first_bit-requires-clause-place c =
    let o = c.self.inside in
    let at = is_row o.pieces o.stripes _ c.args.worker c.self.view_is c.self.invariant.payloads c.requires in
    omega (arith, at.payload.len, c.if-piece-self.false)

pub first_bit-requires-clause-few : goal.first_bit-requires-clause-few
first_bit-requires-clause-few c =
    let o = c.self.inside in
    let at = is_row o.pieces o.stripes _ c.args.worker c.self.view_is c.self.invariant.payloads c.requires in
    omega (arith, at.payload.len, at.payload.few)

pub returns-then-piece-self : goal.returns-then-piece-self
returns-then-piece-self c p after =
    let o = c.self.inside in
    let at = is_row o.pieces o.stripes _ c.args.worker c.self.view_is c.self.invariant.payloads c.requires in
    elim c.then-piece-self.branch [
      | then-piece-self-via-then-piece-self w ↦ get_or_past (flags_at c.args.self.now c.args.worker) p _ (omega (arith, at.long, w.if-piece-self.true, after))
      | then-piece-self-via-else-piece-self+then-index w ↦
          subst AreUnset at.flags_are (c.self.invariant.none c.args.worker _ at.within (sym w.index.ensures ∙ w.if-index.true)) p
    ]

pub returns-in-Some : goal.returns-in-Some
returns-in-Some c =
    let o = c.self.inside in
    let at = is_row o.pieces o.stripes _ c.args.worker c.self.view_is c.self.invariant.payloads c.requires in
    first_flag o.pieces (stripe o.stripes c.args.worker) _ at.flags_are at.payload c.args.piece (Some c.in-Some.place) c.in-Some.ensures

pub returns-in-None : goal.returns-in-None
returns-in-None c =
    let o = c.self.inside in
    let at = is_row o.pieces o.stripes _ c.args.worker c.self.view_is c.self.invariant.payloads c.requires in
    first_flag o.pieces (stripe o.stripes c.args.worker) _ at.flags_are at.payload c.args.piece None c.in-None.ensures
