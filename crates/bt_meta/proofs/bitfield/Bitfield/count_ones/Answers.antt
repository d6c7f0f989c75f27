use Rattle.std.proofs.Common.{arith, ◌∙◌, ap, Bool}
use Rattle.std.specs.List.{count_by}
use Rattle.std.proofs.lemmas.List.{take_all}
use Rattle.bt_meta.proofs.Payloads.{counted}
use Rattle.bt_meta.proofs.bitfield.Bitfield.count_ones.Goals as goal

pub has-requires : goal.has-requires
has-requires c =
    omega (arith, c.loop-piece-test.true, counted c.self.inside.count c.self.inside.bytes.items c.args.self.now c.self.view_is)

pub returns : goal.returns
returns c =
    let few = counted c.self.inside.count c.self.inside.bytes.items c.args.self.now c.self.view_is in
    c.loop-piece.invariant
    ∙ ap (count_by (λ (flag : Bool). flag)) (take_all c.loop-piece.piece c.args.self.now (omega (arith, few, c.loop-piece-test.false)))
