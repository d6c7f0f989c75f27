use Rattle.std.proofs.lemmas.Result.{IfOk-weaker}
use Rattle.bt_meta.proofs.Payloads.{spelled}
use Rattle.bt_meta.proofs.bitfield.Bitfield.to_wire.Goals as goal

pub returns : goal.returns
returns c =
    let spells = spelled c.self.inside.count c.self.inside.bytes.items c.args.self.now c.self.view_is c.self.invariant in
    IfOk-weaker c.to_vec.result _ _ (λ v copied. rw (copied (λ x y same. same), c.deref.ensures.value) spells) c.to_vec.ensures.items_if_clones_equal
