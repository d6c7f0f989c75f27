use Rattle.bt_check.proofs.VectorLemmas.{slice_index-ch}
use Rattle.bt_check.proofs.words.ch.Goals as goal

pub returns : goal.returns
returns c = slice_index-ch c.args.x c.args.y c.args.z c.fits-x.0 c.fits-y.0 c.fits-z.0
