use Rattle.std.proofs.Common.{◌≡◌, ◌<◌, ◌∙◌, length, ap, arith, sym}
use Rattle.bt_tables.specs.Orders.{at}
use Rattle.bt_tables.specs.Standings.{ShelfState}
use Rattle.bt_tables.proofs.Opened.{open_outside}
use Rattle.bt_tables.proofs.shelf.Shelf.raise.Goals as goal

pub invariant_of-self : goal.invariant_of-self
invariant_of-self c =
    let o = c.self.inside in
    let groups = ap (λ (s : ShelfState). s.groups) c.self.view_is in
    let lp : c.args.piece < length o.order.group_of = omega (arith, c.requires.piece, ap length groups) in
    let read : c.group_of.result ≡ at o.order.group_of c.args.piece = c.group_of.ensures ∙ ap (λ (gs : _). at gs c.args.piece) (sym groups) in
    let at_least = c.if-group_of-ge-UNBEGUN.true in
    rw c.raise.ensures (
      c.self.invariant.0,
      open_outside o.order.group_of o.open_pieces.numbers o.open_pieces.bound c.args.piece _ c.self.invariant.1 lp
          (λ e. omega (arith, e, read, at_least)) (λ e. omega (arith, e, read, at_least)),
    )
