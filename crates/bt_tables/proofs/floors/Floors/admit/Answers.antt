use Rattle.std.proofs.Common.{◌∙◌, ap, sym, length, subst}
use Rattle.bt_tables.specs.Floors.{AreLowered, is_fresh}
use Rattle.bt_tables.proofs.FloorSteps.{lowered_beside, stale_beside}
use Rattle.bt_tables.proofs.floors.Floors.admit.Goals as goal

pub returns-then-is_fresh : goal.returns-then-is_fresh
returns-then-is_fresh c =
    let o = c.args.self.now in
    let peers = c.args.peers.now in
    lowered_beside o _ peers c.args.pieces.now c.args.piece c.requires.beside
    (subst (AreLowered o c.lower_for.new.self peers (length peers) c.args.piece) c.rank.ensures c.lower_for.ensures)

pub returns-else-is_fresh : goal.returns-else-is_fresh
returns-else-is_fresh c =
    stale_beside _ _ _ _ c.requires.beside (sym (ap is_fresh c.row.ensures) ∙ (sym c.is_fresh.ensures ∙ c.if-is_fresh.false))
