use Rattle.std.proofs.Common.{◌≡◌, length, ap, arith, rules}
use Rattle.bt_check.specs.Queues.{TicketPassState}
use Rattle.bt_history.specs.Setting.{Setting, setting_of}
use Rattle.bt_session.proofs.Beginnings.{are_new, are_new_passes, seats_count}
use Rattle.bt_session.proofs.fittings.fit_out.Goals as goal

pub returns : goal.returns
returns c =
    let n = c.args.workers in
    let desk = c.in_ok-desk in
    let board = c.in_ok-board in
    let count : length desk.passes.items ≡ n = omega (arith, desk.ensures.count) in
    let setting : Setting = setting_of c.args.torrent.now.value.layout n c.args.rules in
    let desk_is : desk.desk.setting ≡ setting = search rules in
    record {
      desk = desk_is;
      board_torrent = search rules;
      board_seats = search rules;
      passes_count = count;
      seats_count = seats_count board.board n board.seats.items board.ensures.seats;
      tickets_count = c.in_ok-queue.ensures.count;
      passes = are_new_passes desk.desk setting desk.passes.items desk_is
          (λ w below. desk.ensures.passes w (omega (arith, below, count)));
      seats = are_new board.board n board.seats.items board.ensures.seats;
      tickets = λ i any below. ap (λ (t : TicketPassState). t.queue) (c.in_ok-queue.ensures.passes i any below);
    }
