use Rattle.std.proofs.Common.{refl}
use Rattle.bt_c.proofs.lending.lend.Goals as goal

pub returns : goal.returns
returns g c =
    rw (c.in-Some.ensures.held, c.put_back.ensures)
    (record { shown = c.deref_mut.result; shows = c.deref_mut.ensures.value; left = _; met = c.call-outcome.ensures; leaves = refl })
