use Rattle.bt_check.proofs.VectorLemmas.{shifts_rotate}
use Rattle.bt_check.proofs.words.rotate_left.Goals as goal

pub returns : goal.returns
returns c = shifts_rotate c.args.k c.requires.low c.requires.high c.args.x c.fits-x.0
