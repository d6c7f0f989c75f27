use Rattle.std.proofs.Common.{refl}
use Rattle.bt_check.proofs.words.add_state.Goals as goal

pub returns : goal.returns
returns c j h =
    rw (c.add.ensures j h, c.add-2.ensures j h, c.add-3.ensures j h, c.add-4.ensures j h, c.add-5.ensures j h) refl
