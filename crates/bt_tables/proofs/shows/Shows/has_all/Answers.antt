use Rattle.std.proofs.Common.{◌*◌, ◌/◌, ◌∙◌, arith, inl, inr, sym}
use Rattle.std.proofs.lemmas.Bool.{cases_lt}
use Rattle.bt_meta.proofs.Payloads.{told}
use Rattle.bt_tables.specs.Stripes.{stripe}
use Rattle.bt_tables.proofs.Spelled.{is_row}
use Rattle.bt_tables.proofs.shows.Shows.has_all.Goals as goal

pub returns-then-are_ones : goal.returns-then-are_ones
returns-then-are_ones c is p lp =
    let o = c.self.inside in
    let at = is_row o.pieces o.stripes _ c.args.worker c.self.view_is c.self.invariant.payloads c.requires in
    elim (cases_lt p (8 * (o.pieces / 8))) [
      | inl below ↦ sym (told o.pieces (stripe o.stripes c.args.worker) _ at.flags_are p (omega (arith, lp, at.long)))
          ∙ c.are_ones.ensures c.if-are_ones.true p below
      | inr from ↦ c.has_from.ensures is p from lp
    ]
