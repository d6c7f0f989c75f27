use Rattle.std.specs.Slots.{slots_items}
use Rattle.bt_shared.proofs.Closings.{seat_counted, seat_free, seat_saw, seat_setting}
use Rattle.bt_shared.proofs.closing.close_with.Goals as goal

pub returns-clause-setting : goal.returns-clause-setting
returns-clause-setting g c =
    let closed = c.close_with.result in
    seat_setting c.args.table.shared.key (slots_items closed.words) (slots_items closed.slots) c.held_in.result c.held_in.ensures.slot c.args.seat.id
    c.args.seat.me c.requires.seat.1.idle c.close_with.ensures.values.2

pub returns-clause-saw : goal.returns-clause-saw
returns-clause-saw g c =
    let closed = c.close_with.result in
    seat_saw c.args.table.shared.key (slots_items closed.words) (slots_items closed.slots) c.held_in.result c.held_in.ensures.slot c.args.seat.id
    c.args.seat.me c.requires.seat.1.idle c.close_with.ensures.values.2

pub returns-clause-counted : goal.returns-clause-counted
returns-clause-counted g c =
    let closed = c.close_with.result in
    seat_counted c.args.table.shared.key (slots_items closed.words) (slots_items closed.slots) c.held_in.result c.held_in.ensures.slot c.args.seat.id
    c.args.seat.me c.requires.seat.1.idle c.close_with.ensures.values.2

pub returns-clause-free : goal.returns-clause-free
returns-clause-free g c =
    let closed = c.close_with.result in
    seat_free c.args.table.shared.key (slots_items closed.words) (slots_items closed.slots) c.held_in.result c.held_in.ensures.slot c.args.seat.id
    c.args.seat.me c.requires.seat.1.idle c.close_with.ensures.values.2
