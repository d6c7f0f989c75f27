use Rattle.std.proofs.Common.{◌-◌, ◌∙◌, arith}
use Rattle.bt_tables.specs.Orders.{AreMoved, at}
use Rattle.bt_tables.specs.Standings.{lowered_in}
use Rattle.bt_tables.specs.Tables.{piece_row}
use Rattle.bt_tables.proofs.Every.{counted_rows, lowered_row, not_crowded, still_shelved}
use Rattle.bt_tables.proofs.Moves.{whole}
use Rattle.bt_tables.proofs.pieces.Pieces.hide_each.Goals as goal

counted : (c : goal.After-lower_all) → AreMoved (λ n. n - 1) c.self.inside.shown_by.items c.count_down.new.counts
counted c = rw c.deref_mut.ensures.value at c.count_down.ensures

pub invariant_of-self : goal.invariant_of-self
invariant_of-self c =
    let o = c.self.inside in
    let shown = o.shown_by.items in
    let counts = c.count_down.new.counts in
    let few = not_crowded o.rows shown c.self.invariant.1 (rw (← c.self.view_is) at c.requires.few) in
    rw (whole counts shown o.shown_by.len (omega (arith, (counted c).len))) (
      still_shelved o.rows shown counts c.self.invariant.1 (λ n. n - 1) (counted c) o.shelf c.lower_all.new.self c.self.invariant.0 (lowered_in 7)
          c.lower_all.ensures.groups c.lower_all.ensures.rest (λ p lp. lowered_row (piece_row o.rows p) (at shown p) (few p lp)),
      (counted c).len ∙ c.self.invariant.1,
      c.self.invariant.2,
      c.self.invariant.3,
    )

pub returns : goal.returns
returns c =
    let o = c.self.inside in
    rw (whole c.count_down.new.counts o.shown_by.items o.shown_by.len (omega (arith, (counted c).len)), ← c.self.view_is)
    (counted_rows o.rows o.shown_by.items c.count_down.new.counts c.self.invariant.1 (λ n. n - 1) (counted c))
