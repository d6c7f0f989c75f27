use Rattle.std.proofs.Common.{arith}
use Rattle.bt_shared.proofs.Seats.{makes_newcomer}
use Rattle.bt_shared.proofs.lock.next_seat.Goals as goal

pub split_seat-requires : goal.split_seat-requires
split_seat-requires g c = (
  c.requires.desk.1,
  omega (arith, c.requires.desk.0.one_word),
  makes_newcomer c.args.words.now.key c.args.maker.now.id c.args.maker.now.me.0 c.requires.makes.live c.requires.makes.makes c.requires.makes.below,
)
