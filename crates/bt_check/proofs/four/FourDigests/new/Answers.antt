use Rattle.std.proofs.Common.{rules}
use Rattle.sha1.specs.Sha1.{hash_after}
use Rattle.bt_check.specs.Holding.{Holds}
use Rattle.bt_check.proofs.four.FourDigests.new.Goals as goal

pub returns : goal.returns
unfolding Holds hash_after
returns c = search rules
