use Rattle.std.proofs.Common.{refl}
use Rattle.bt_tables.specs.declared.peer.Dealing.TheVariants.{Heard}
use Rattle.bt_tables.specs.Tables.{noted_row}
use Rattle.bt_tables.proofs.FloorSteps.{kept_peer}
use Rattle.bt_tables.proofs.Showing.{noted_shows}
use Rattle.bt_tables.proofs.tables.Tables.hear.Goals as goal

pub invariant_of-self : goal.invariant_of-self
invariant_of-self c =
    let o = c.self.inside in
    let lw = rw (← c.self.view_is) at c.requires in
    rw c.hear.ensures (kept_peer o.floors o.peers o.pieces c.args.worker (noted_row Heard) c.self.invariant lw (noted_shows Heard))

pub returns : goal.returns
returns c = rw (← c.self.view_is, c.hear.ensures) refl
