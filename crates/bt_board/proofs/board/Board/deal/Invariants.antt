use Rattle.std.proofs.Common.{◌≡◌, ◌+◌, ◌-◌, length, map, []}
use Rattle.std.specs.List.{range_with_len}
use Rattle.bt_board.specs.Seats.{new_seat}
use Rattle.bt_board.specs.Story.{view}
use Rattle.bt_board.proofs.board.Board.deal.Given as goal

-- the seats so far have their numbers, and `first` stands for the others
abbrev pub invariant-loop : goal.invariant-loop
invariant-loop l =
    let dealt = length l.all.items in
    (dealt + 1 ≡ l.counter)
    × ((l.first.table_id ≡ l.self.table) × (l.first.me ≡ (view [] [] (range_with_len dealt (l.self.seats - dealt)), [])))
    × (l.all.items ≡ map (new_seat l.self) (range_with_len 0 dealt))
