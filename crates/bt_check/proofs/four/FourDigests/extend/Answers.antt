use Rattle.std.proofs.Common.{refl}
use Rattle.bt_check.specs.Lanes.{variables}
use Rattle.bt_check.specs.Holding.{tail_of}
use Rattle.bt_check.proofs.HoldingLemmas.{IsAbsorbed_rest}
use Rattle.bt_check.proofs.LanePieceLemmas.{length-bytes_of}
use Rattle.bt_check.proofs.four.FourDigests.extend.Goals as goal

pub returns-clause-lanes : goal.returns-clause-lanes
returns-clause-lanes c j m lt edge held =
    IsAbsorbed_rest c.args.a.now c.args.b.now c.args.c.now c.args.d.now j lt
    (length-bytes_of c.args.a.now c.args.b.now c.args.c.now c.args.d.now c.requires.b c.requires.c c.requires.d j lt)
    (variables j c.compress_blocks-self.result) (tail_of j c.args.self.now.tails) (tail_of j c.put.new.self) m _ refl edge
    (c.compress_blocks-self.ensures j (tail_of j c.args.self.now.tails) m lt edge held) (c.put.ensures j lt)
