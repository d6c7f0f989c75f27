use Rattle.std.proofs.Common.{◌-◌, ◌%◌, arith}
use Rattle.sha1.proofs.Absorbing.{padding-take}
use Rattle.bt_check.proofs.four.padding.Goals as goal

pub returns : goal.returns
returns c = padding-take 0x80 0 ((119 - c.args.used) % 64) (omega arith)
