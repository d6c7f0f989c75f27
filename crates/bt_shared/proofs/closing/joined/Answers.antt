use Rattle.std.proofs.Common.{◌≡◌, arith}
use Rattle.bt_shared.specs.Guard.{IsIdle}
use Rattle.bt_shared.proofs.Seats.{meets}
use Rattle.bt_shared.proofs.closing.joined.Goals as goal

pub join_seat-requires : goal.join_seat-requires
join_seat-requires g c =
    let words = c.args.words.now in
    let seat = c.args.seat in
    let others = c.in-Some.others in
    let is : (others.table_id ≡ words.table_id) × IsIdle others.me = rw c.in-Some.is at c.requires.others in (
      c.requires.seat.0,
      is.0,
      is.1.empty,
      omega (arith, c.requires.desk.one_word),
      meets words.key seat.id others.id seat.me.0 others.me.0 c.requires.seat.1.live c.requires.seat.1.idle is.1.idle,
    )
