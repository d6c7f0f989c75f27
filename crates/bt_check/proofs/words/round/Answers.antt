use Rattle.std.proofs.Common.{refl}
use Rattle.bt_check.proofs.VectorLemmas.{slice_index-splat}
use Rattle.bt_check.proofs.words.round.Goals as goal

pub returns : goal.returns
returns c j h =
    let constant = slice_index-splat c.args.k j h in
    rw (
      c.add-3.ensures j h,
      c.add-2.ensures j h,
      constant,
      c.add-sum.ensures j h,
      c.add.ensures j h,
      c.rotate_left.ensures j h,
      c.rotate_left-2.ensures j h,
    ) refl
