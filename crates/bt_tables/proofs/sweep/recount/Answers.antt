use Rattle.std.proofs.Common.{◌∙◌, ap, subst, sym}
use Rattle.bt_tables.specs.Tables.{AreCounted, peer_row, shown_rows}
use Rattle.bt_tables.proofs.Sweeps.{hidden_then_shown}
use Rattle.bt_tables.proofs.sweep.recount.Goals as goal

pub show_all-requires : goal.show_all-requires
show_all-requires c =
    let flags = c.in-Some.flags.now in
    let both = ap (shown_rows flags) c.hide_all.ensures ∙ hidden_then_shown c.args.pieces.now (peer_row c.args.peers.now c.args.worker).shows flags in
    subst AreCounted (sym both) (rw c.in-Some.is at c.requires.few)

pub returns-in-Some : goal.returns-in-Some
returns-in-Some c =
    let flags = c.in-Some.flags.now in
    rw c.in-Some.is
    (c.show_all.ensures ∙ (ap (shown_rows flags) c.hide_all.ensures
    ∙ hidden_then_shown c.args.pieces.now (peer_row c.args.peers.now c.args.worker).shows flags))
