use Rattle.std.proofs.Common.{rules, ◌≡◌, length}
use Rattle.bt_check.specs.Lanes.{bytes_of, variables}
use Rattle.bt_check.specs.Holding.{tail_of}
use Rattle.bt_check.proofs.VectorLemmas.{below_four}
use Rattle.bt_check.proofs.HoldingLemmas.{IsAbsorbed_full}
use Rattle.bt_check.proofs.LanePieceLemmas.{length-bytes_of}
use Rattle.bt_check.proofs.four.FourDigests.fill.Goals as goal

pub returns-clause-lanes : goal.returns-clause-lanes
returns-clause-lanes c j m lt full held =
    let long = length-bytes_of c.args.a.now c.args.b.now c.args.c.now c.args.d.now c.requires.b c.requires.c c.requires.d j lt in
    let whole = below_four (λ j. length (tail_of j c.put.new.self) ≡ 64) (search rules) (search rules) (search rules) (search rules) j lt in
    rw (c.compress-self.ensures j lt)
    (IsAbsorbed_full (variables j c.args.self.now.hashes) (tail_of j c.args.self.now.tails) (tail_of j c.put.new.self) m
    (bytes_of j c.args.a.now c.args.b.now c.args.c.now c.args.d.now) (length c.args.a.now) held full long whole (c.put.ensures j lt))
