use Rattle.std.proofs.Common.{ap, arith, length, refl, ◌∙◌}
use Rattle.bt_tables.specs.Tables.{TablesState, delay_row}
use Rattle.bt_tables.proofs.FloorSteps.{kept_peer}
use Rattle.bt_tables.proofs.tables.Tables.put_late.Goals as goal

pub invariant_of-self : goal.invariant_of-self
invariant_of-self c =
    let same = ap (λ (t : TablesState). length t.peers) (c.self.view_is ∙ c.free.ensures) in
    rw c.delay.ensures
    (kept_peer _ _ _ c.args.worker (delay_row c.args.piece c.args.begin) c.self.invariant (omega (arith, same, c.requires)) (λ row. refl))
