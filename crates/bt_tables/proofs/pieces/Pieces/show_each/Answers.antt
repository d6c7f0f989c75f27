use Rattle.std.proofs.Common.{◌+◌, ◌∙◌, arith}
use Rattle.bt_tables.specs.Orders.{AreMoved, at}
use Rattle.bt_tables.specs.Standings.{raised_in}
use Rattle.bt_tables.specs.Tables.{piece_row}
use Rattle.bt_tables.proofs.Every.{counted_rows, counts_fit, raised_row, still_shelved}
use Rattle.bt_tables.proofs.Moves.{whole}
use Rattle.bt_tables.proofs.pieces.Pieces.show_each.Goals as goal

pub count_up-requires : goal.count_up-requires
count_up-requires c =
    let o = c.self.inside in
    rw c.deref_mut.ensures.value (counts_fit o.rows o.shown_by.items c.self.invariant.1 (rw (← c.self.view_is) at c.requires.few))

counted : (c : goal.After-raise_all) → AreMoved (λ n. n + 1) c.self.inside.shown_by.items c.count_up.new.counts
counted c = rw c.deref_mut.ensures.value at c.count_up.ensures

pub invariant_of-self : goal.invariant_of-self
invariant_of-self c =
    let o = c.self.inside in
    let shown = o.shown_by.items in
    let counts = c.count_up.new.counts in
    rw (whole counts shown o.shown_by.len (omega (arith, (counted c).len))) (
      still_shelved o.rows shown counts c.self.invariant.1 (λ n. n + 1) (counted c) o.shelf c.raise_all.new.self c.self.invariant.0 (raised_in 7)
          c.raise_all.ensures.groups c.raise_all.ensures.rest (λ p lp. raised_row (piece_row o.rows p) (at shown p)),
      (counted c).len ∙ c.self.invariant.1,
      c.self.invariant.2,
      c.self.invariant.3,
    )

pub returns : goal.returns
returns c =
    let o = c.self.inside in
    rw (whole c.count_up.new.counts o.shown_by.items o.shown_by.len (omega (arith, (counted c).len)), ← c.self.view_is)
    (counted_rows o.rows o.shown_by.items c.count_up.new.counts c.self.invariant.1 (λ n. n + 1) (counted c))
