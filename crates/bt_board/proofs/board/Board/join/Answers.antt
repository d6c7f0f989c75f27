use Rattle.std.proofs.Common.{arith, ap, sym, ◌∙◌}
use Rattle.std.proofs.lemmas.Grind.{common_steps}
use Rattle.std.specs.Arc.{arc_value}
use Rattle.bt_board.specs.Seats.{BoardState, SeatState}
use Rattle.bt_board.proofs.Stories.{joins}
use Rattle.bt_board.proofs.board.Board.join.Goals as goal

pub join_seat-requires : goal.join_seat-requires
join_seat-requires c =
    let table = c.self.inside.table.shared in
    let one = c.one.inside.seat in
    let other = c.into_parts-seat.result.0 in
    let here = sym (ap (λ (b : BoardState). b.table) c.self.view_is) in (
      ap (λ (s : SeatState). s.table) c.one.view_is ∙ c.requires.0 ∙ here,
      sym (ap (λ (s : SeatState). s.table) c.into_parts-seat.ensures.parts) ∙ c.requires.1 ∙ here,
      c.into_parts-seat.ensures.seat.bare,
      c.self.invariant.some,
      joins (arc_value table.key.torrent).layout table.key.seats one.id other.id one.me.0 other.me.0 c.one.invariant.stands,
    )

pub invariant_of-one : goal.invariant_of-one
invariant_of-one c = grind (arith, common_steps)

pub returns-clause-given : goal.returns-clause-given
returns-clause-given c = grind (arith, common_steps)
