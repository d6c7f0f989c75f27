use Rattle.bt_tables.proofs.Fronts.{front_whole}
use Rattle.bt_tables.proofs.pieces.Pieces.front.Goals as goal

pub returns : goal.returns
returns c =
    let o = c.self.inside in
    rw (← c.self.view_is) (front_whole o.rows o.shown_by.items o.front c.self.invariant.1 c.self.invariant.3)
