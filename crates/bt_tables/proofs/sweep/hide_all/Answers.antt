use Rattle.std.proofs.Common.{◌∙◌, arith}
use Rattle.bt_tables.specs.Tables.{less_available, peer_row}
use Rattle.bt_tables.proofs.Sweeps.{stepped_all}
use Rattle.bt_tables.proofs.sweep.hide_all.Goals as goal

pub returns-then-not-is_crowded : goal.returns-then-not-is_crowded
returns-then-not-is_crowded c =
    c.hide_each.ensures
    ∙ stepped_all less_available c.args.pieces.now (peer_row c.args.peers.now c.args.worker).shows (c.shows_all.ensures c.if-shows_all.true)
    (omega (arith, c.len.ensures.is, c.pieces.ensures c.args.worker c.requires, c.if-len-pieces.true))
