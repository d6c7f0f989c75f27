use Rattle.bt_tables.proofs.FloorSteps.{eased_floors}
use Rattle.bt_tables.proofs.tables.Tables.reshow.Goals as goal

pub invariant_of-self : goal.invariant_of-self
invariant_of-self c =
    let o = c.self.inside in
    rw c.recount.ensures (eased_floors o.floors _ o.peers o.pieces _ _ c.self.invariant c.ease.ensures.len c.ease.ensures.each)
