use Rattle.bt_meta.proofs.Searched.{leading}
use Rattle.bt_meta.proofs.bitfield.leading_bit.Goals as goal

pub returns : goal.returns
returns c = leading c.args.byte c.requires c.ranges.byte.fits
