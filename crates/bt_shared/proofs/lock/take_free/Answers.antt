use Rattle.std.proofs.Common.{arith}
use Rattle.atomic_table.specs.Table.{step}
use mathlib.Core.Option.{none}
use Rattle.bt_shared.proofs.Keeps.{exchange_marks, seat_may_take}
use Rattle.bt_shared.proofs.lock.take_free.Goals as goal

pub compare_exchange-requires : goal.compare_exchange-requires
compare_exchange-requires g c =
    let slots = c.args.words.now.table_id.slots in (
      c.requires.desk.1,
      omega (arith, c.requires.desk.0.one_word),
      seat_may_take c.args.words.now.key slots c.args.seat.now.id c.args.seat.now.me c.requires.may _ exchange_marks
          (step slots 0 0 1 none),
    )
