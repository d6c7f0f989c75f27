use Rattle.bt_check.proofs.VectorLemmas.{slice_index-maj}
use Rattle.bt_check.proofs.words.maj.Goals as goal

pub returns : goal.returns
returns c = slice_index-maj c.args.x c.args.y c.args.z c.fits-x.0 c.fits-y.0 c.fits-z.0
