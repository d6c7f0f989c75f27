use Rattle.bt_shared.proofs.Histories.{goes_one}
use Rattle.bt_shared.proofs.lock.unlock.Goals as goal

pub unlock_after-requires-clause-taken : goal.unlock_after-requires-clause-taken
unlock_after-requires-clause-taken g c =
    let free = c.requires.taken.2 in (
      c.requires.taken.0,
      c.requires.taken.1,
      record {
        taken = free.taken;
        same = free.same;
        goes = goes_one c.args.seat.now.me.0.part.workers c.args.seat.now.me.0.part.seen _ free.grows;
      },
    )
