use Rattle.std.proofs.Common.{refl}
use Rattle.bt_tables.specs.Tables.{alone_row}
use Rattle.bt_tables.proofs.FloorSteps.{kept_peer}
use Rattle.bt_tables.proofs.tables.Tables.put_alone.Goals as goal

pub invariant_of-self : goal.invariant_of-self
invariant_of-self c =
    let o = c.self.inside in
    let lw = rw (← c.self.view_is) at c.requires in
    rw c.set_alone.ensures (kept_peer o.floors o.peers o.pieces c.args.worker (alone_row c.args.alone) c.self.invariant lw (λ row. refl))

pub returns : goal.returns
returns c = rw (← c.self.view_is, c.set_alone.ensures) refl
