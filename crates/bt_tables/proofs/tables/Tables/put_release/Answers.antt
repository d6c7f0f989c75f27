use Rattle.std.proofs.Common.{ap, arith, length, refl, true, ◌∙◌}
use Rattle.bt_tables.specs.Tables.{TablesState, without_block}
use Rattle.bt_tables.proofs.FloorSteps.{kept_peer}
use Rattle.bt_tables.proofs.tables.Tables.put_release.Goals as goal

pub invariant_of-self : goal.invariant_of-self
invariant_of-self c =
    let same = ap (λ (t : TablesState). length t.peers) (c.self.view_is ∙ c.free.ensures) in
    rw c.forget_at.ensures
    (kept_peer _ _ _ c.args.worker (without_block c.args.piece c.args.begin true) c.self.invariant (omega (arith, same, c.requires.worker)) (λ row. refl))
