use Rattle.std.specs.List.{filter}
use Rattle.bt_history.specs.Peers.{has_place}
use Rattle.std.proofs.Common.{◌==◌, ◌&&◌, not, ◌∙◌, ap, arith, length, refl, sym}
use Rattle.bt_tables.specs.Tables.{lack_row}
use Rattle.bt_tables.proofs.FloorSteps.{no_floors}
use Rattle.bt_tables.proofs.Lacked.{length_lowered_by}
use Rattle.bt_tables.proofs.Tabled.{length_edit}
use Rattle.bt_tables.proofs.tables.Tables.put_lack.Goals as goal

pub withdraw-requires : goal.withdraw-requires
withdraw-requires c =
    let lp = rw (← c.self.view_is) at c.requires.piece in
    let line = c.line.result.now in
    let freed = filter (λ b. (c.args.piece == b.piece) && not (has_place b line.overdue)) line.asked in
    let long = ap length c.lower_piece.ensures ∙ length_lowered_by freed c.self.inside.pieces in
    omega (arith, lp, long)

pub invariant_of-self : goal.invariant_of-self
invariant_of-self c =
    let o = c.self.inside in
    rw (c.clear.ensures, c.lack.ensures)
    (no_floors (length o.floors) _ _ (length_edit o.peers c.args.worker (lack_row c.args.piece) ∙ sym c.self.invariant.len))

pub returns : goal.returns
returns c = rw (← c.self.view_is, c.lack.ensures, c.withdraw.ensures, c.lower_piece.ensures, c.line.ensures.asked, c.line.ensures.overdue, c.row.ensures, c.shows.ensures) refl
