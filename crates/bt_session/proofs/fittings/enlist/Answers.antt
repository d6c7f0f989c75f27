use Rattle.std.proofs.Common.{◌≡◌, ◌+◌, [], ◌∷◌, length, length-append, Some, refl, ap, ◌∙◌, arith, rules}
use Rattle.bt_session.proofs.Numbered.{first_is, none_numbered, one_more, rest_are, same_list}
use Rattle.bt_session.proofs.Beginnings.{belongs, is_fresh}
use Rattle.bt_session.specs.Beginnings.{AreFresh, IsFresh, IsNewPass, IsNewSeat}
use Rattle.bt_session.proofs.fittings.enlist.Given as given
use Rattle.bt_session.proofs.fittings.enlist.Goals as goal

pub loop-pass-init : goal.loop-pass-init
loop-pass-init g c =
    let none : length c.in_ok-workers.workers.items ≡ 0 = ap length c.in_ok-workers.ensures.items in
    record {
      fresh = none_numbered (IsFresh g.L.RunName.setting) 0 c.in_ok-workers.workers.items c.in_ok-workers.ensures.items;
      passes = same_list (IsNewPass g.L.RunName.desk g.L.RunName.setting) 0 _ c.args.passes.items _ none
          c.into_iter-pass-iterator.ensures.into_iter_gives.0 c.requires.passes;
      seats = same_list (IsNewSeat g.L.RunName.board) 0 _ c.args.seats.items _ none c.into_iter-seats.ensures.rest c.requires.seats;
      tickets = same_list (λ number pass. g.L.RunName.queue ≡ Some pass.queue) 0 0 c.args.tickets.items _ refl c.into_iter-tickets.ensures.rest
          c.requires.tickets;
      many_seats = search rules;
      many_tickets = search rules;
      count = search rules;
      room = search rules;
    }

pub new-requires : goal.new-requires
new-requires g c =
    let was = c.loop-pass.invariant in
    let k = length c.loop-pass.workers.items in
    belongs g.L.RunName.setting g.L.RunName.desk g.L.RunName.board g.L.RunName.queue k c.in-Some.pass c.in-Some-next.seat c.in-Some-next-2.ticket_pass
    (first_is (IsNewPass g.L.RunName.desk g.L.RunName.setting) k _ _ c.in-Some.pass c.in-Some.ensures.steps.0 was.passes)
    (first_is (IsNewSeat g.L.RunName.board) k _ _ c.in-Some-next.seat c.in-Some-next.ensures.items was.seats)
    (first_is (λ number pass. g.L.RunName.queue ≡ Some pass.queue) 0 _ _ c.in-Some-next-2.ticket_pass c.in-Some-next-2.ensures.items was.tickets)

-- the next pass and the next seat are the next worker's
pass_is : (g : given.Over) (c : goal.After-push_reserved g)
    → IsNewPass g.L.RunName.desk g.L.RunName.setting (length c.loop-pass.workers.items) c.in-Some.pass
pass_is g c =
    first_is (IsNewPass g.L.RunName.desk g.L.RunName.setting) (length c.loop-pass.workers.items) _ _ c.in-Some.pass c.in-Some.ensures.steps.0
    c.loop-pass.invariant.passes

seat_is : (g : given.Over) (c : goal.After-push_reserved g) → IsNewSeat g.L.RunName.board (length c.loop-pass.workers.items) c.in-Some-next.seat
seat_is g c =
    first_is (IsNewSeat g.L.RunName.board) (length c.loop-pass.workers.items) _ _ c.in-Some-next.seat c.in-Some-next.ensures.items
    c.loop-pass.invariant.seats

-- so the workers with that one are fresh
all_fresh : (g : given.Over) (c : goal.After-push_reserved g) → AreFresh g.L.RunName.setting c.push_reserved.new.self.items
all_fresh g c =
    one_more (IsFresh g.L.RunName.setting) c.loop-pass.workers.items c.push_reserved.new.self.items c.new.result c.push_reserved.ensures.items
    c.loop-pass.invariant.fresh (rw c.new.ensures (is_fresh g.L.RunName.setting g.L.RunName.desk g.L.RunName.board
    (length c.loop-pass.workers.items) c.in-Some.pass c.in-Some-next.seat c.in-Some-next-2.ticket_pass (pass_is g c) (seat_is g c)))

pub loop-pass-preserved : goal.loop-pass-preserved
loop-pass-preserved g c =
    let was = c.loop-pass.invariant in
    let k = length c.loop-pass.workers.items in
    let more : length c.push_reserved.new.self.items ≡ k + 1 =
    ap length c.push_reserved.ensures.items ∙ length-append c.loop-pass.workers.items (c.new.result ∷ []) in
    record {
      fresh = all_fresh g c;
      passes = same_list (IsNewPass g.L.RunName.desk g.L.RunName.setting) (k + 1) _ _ _ more refl
          (rest_are (IsNewPass g.L.RunName.desk g.L.RunName.setting) k _ _ c.in-Some.pass c.in-Some.ensures.steps.0 was.passes);
      seats = same_list (IsNewSeat g.L.RunName.board) (k + 1) _ _ _ more refl
          (rest_are (IsNewSeat g.L.RunName.board) k _ _ c.in-Some-next.seat c.in-Some-next.ensures.items was.seats);
      tickets = rest_are (λ number pass. g.L.RunName.queue ≡ Some pass.queue) 0 _ _ c.in-Some-next-2.ticket_pass
          c.in-Some-next-2.ensures.items was.tickets;
      many_seats = omega (arith, was.many_seats, c.in-Some.ensures.steps.1, c.in-Some-next.ensures.len);
      many_tickets = omega (arith, was.many_tickets, c.in-Some.ensures.steps.1, c.in-Some-next-2.ensures.len);
      count = omega (arith, was.count, c.in-Some.ensures.steps.1, c.push_reserved.ensures.len);
      room = omega (arith, was.room, c.in-Some.ensures.steps.1, c.push_reserved.ensures.len, c.push_reserved.ensures.capacity);
    }
