use Rattle.std.proofs.Common.{◌≡◌, ◌<◌, ◌+◌, ◌-◌, ℕ, [], length, ap, sym, ◌∙◌, arith}
use Rattle.std.proofs.lemmas.List.{length-replicate}
use Rattle.std.specs.Arc.{arc_value}
use Rattle.std.specs.List.{range_with_len}
use Rattle.atomic_table.specs.Table.{Me}
use Rattle.atomic_table.specs.Seated.{TableId}
use Rattle.bt_meta.specs.Layout.{piece_count}
use Rattle.bt_board.specs.declared.view.BoardView.{BoardView}
use Rattle.bt_board.specs.Seats.{BoardState, new_seat}
use Rattle.bt_board.specs.Story.{view, words_of}
use Rattle.bt_board.proofs.Lists.{listed_more, longer}
use Rattle.bt_board.proofs.Stories.{deals, dealt_first, dealt_rest, dealt_stands, table_words}
use Rattle.bt_board.proofs.board.Board.deal.Goals as goal

-- `first` stands for this seat and the later ones
first_is : (first : Me (Unit {0}) BoardView) (dealt seats : ℕ) → first ≡ (view [] [] (range_with_len dealt (seats - dealt)), []) →
    first.0 ≡ view [] [] (range_with_len dealt (seats - dealt))
first_is first dealt seats is = ap (λ (m : Me (Unit {0}) BoardView). m.0) is

pub split_seat-seat-requires : goal.split_seat-seat-requires
split_seat-seat-requires c =
    let table = c.self.inside.table.shared in
    let dealt = length c.loop.all.items in
    let left : dealt < c.args.self.now.seats =
    omega (arith, ap (λ (b : BoardState). b.seats) c.self.view_is, c.loop.invariant.0, c.loop-test.true) in (
      c.loop.invariant.1.0 ∙ sym (ap (λ (b : BoardState). b.table) c.self.view_is),
      c.self.invariant.some,
      deals (arc_value table.key.torrent).layout table.key.seats c.loop.first.id dealt _ _ left (first_is _ dealt _ c.loop.invariant.1.1),
    )

-- the new seat is one of the board's table
same_table : (c : goal.After-all-in-loop-1) → c.split_seat-seat.result.table_id ≡ c.self.inside.table.shared.table_id
same_table c = c.split_seat-seat.ensures.3 ∙ c.loop.invariant.1.0 ∙ sym (ap (λ (b : BoardState). b.table) c.self.view_is)

-- which has a bit for each piece
words_are : (c : goal.After-all-in-loop-1) → c.split_seat-seat.result.table_id.words ≡ words_of (piece_count c.args.self.now.torrent)
words_are c =
    ap (λ (z : TableId). z.words) (same_table c) ∙ table_words c.self.invariant (ap (λ (b : BoardState). b.torrent) c.self.view_is)

pub invariant_of-push_reserved : goal.invariant_of-push_reserved
invariant_of-push_reserved c =
    let dealt = length c.loop.all.items in
    let left : dealt < c.args.self.now.seats =
    omega (arith, ap (λ (b : BoardState). b.seats) c.self.view_is, c.loop.invariant.0, c.loop-test.true) in
    let split = c.split_seat-seat.ensures in record {
      wide = ap length c.in_ok-given.ensures ∙ length-replicate (words_of (piece_count c.args.self.now.torrent)) 0 ∙ sym (words_are c);
      bare = ap (λ (m : Me (Unit {0}) BoardView). m.1) split.4;
      stands = λ no_seat. dealt_stands dealt _ _ left (first_is _ dealt _ c.loop.invariant.1.1)
          (sym (ap (λ (m : Me (Unit {0}) BoardView). m.0.seats) split.4) ∙ no_seat);
    }

-- there was a seat to deal
some_left : (c : goal.After-push_reserved) → length c.loop.all.items < c.args.self.now.seats
some_left c = omega (arith, ap (λ (b : BoardState). b.seats) c.self.view_is, c.loop.invariant.0, c.loop-test.true)

-- `first` stands for the others now
others_left : (c : goal.After-push_reserved) → c.split_seat-seat.new.seat.me ≡ (
  view [] [] (range_with_len (length c.loop.all.items + 1) (c.args.self.now.seats - (length c.loop.all.items + 1))),
  [],
)
others_left c = c.split_seat-seat.ensures.2 ∙ (λ i. (
  dealt_rest _ _ _ (some_left c) (first_is _ (length c.loop.all.items) _ c.loop.invariant.1.1) i,
  ap (λ (m : Me (Unit {0}) BoardView). m.1) c.loop.invariant.1.1 i,
))

-- the new seat is fresh: it has loaded and marked nothing
seat_fresh : (c : goal.After-push_reserved) → c.split_seat-seat.result.me.0 ≡ (new_seat c.args.self.now (length c.loop.all.items)).view
seat_fresh c =
    ap (λ (m : Me (Unit {0}) BoardView). m.0) c.split_seat-seat.ensures.4
    ∙ dealt_first _ _ _ (some_left c) (first_is _ (length c.loop.all.items) _ c.loop.invariant.1.1)

pub loop-preserved : goal.loop-preserved
loop-preserved c =
    let split = c.split_seat-seat.ensures in
    let grown = longer _ _ _ c.push_reserved.ensures.items in
    let table : c.split_seat-seat.result.table_id ≡ c.args.self.now.table = split.3 ∙ c.loop.invariant.1.0 in (
      omega (arith, c.loop.invariant.0, grown),
      (split.0 ∙ c.loop.invariant.1.0, rw grown (others_left c)),
      listed_more (new_seat c.args.self.now) c.loop.all.items _ _ c.push_reserved.ensures.items
          (λ i. record { table = table i; view = seat_fresh c i; given = c.in_ok-given.ensures i }) c.loop.invariant.2,
    )

-- All seats but one were dealt. `first` is that one
last_left : (c : goal.After-push_reserved-2) → c.args.self.now.seats ≡ length c.loop.all.items + 1
last_left c = omega (
  arith,
  ap (λ (b : BoardState). b.seats) c.self.view_is,
  c.loop.invariant.0,
  c.loop-test.false,
  c.loop.auto.counter-end,
  c.requires.seats,
)

-- and fresh too
last_fresh : (c : goal.After-push_reserved-2) → c.loop.first.me.0 ≡ (new_seat c.args.self.now (length c.loop.all.items)).view
last_fresh c =
    let dealt = length c.loop.all.items in
    let one : c.args.self.now.seats - dealt ≡ 1 = omega (arith, last_left c) in
    first_is _ dealt _ c.loop.invariant.1.1 ∙ ap (λ (k : ℕ). view [] [] (range_with_len dealt k)) one

pub returns : goal.returns
returns c =
    let pushed = c.push_reserved-2.ensures.items in
    let all : length c.push_reserved-2.new.self.items ≡ c.args.self.now.seats = longer _ _ _ pushed ∙ sym (last_left c) in
    rw (← all) (listed_more (new_seat c.args.self.now) c.loop.all.items c.push_reserved-2.new.self.items _ pushed
    (λ i. record { table = c.loop.invariant.1.0 i; view = last_fresh c i; given = c.in_ok-given-2.ensures i }) c.loop.invariant.2)
