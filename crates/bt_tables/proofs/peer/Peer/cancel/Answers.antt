use Rattle.std.proofs.Common.{not, refl, rules, tests}
use Rattle.bt_meta.specs.declared.block.Block.{Block}
use Rattle.bt_history.specs.History.{same_begin}
use Rattle.std.proofs.lemmas.Fn.{filter_same}
use Rattle.bt_tables.proofs.peer.Peer.cancel.Goals as goal

pub returns : goal.returns
returns c =
    let kept = filter_same _ (λ (b : Block). not (same_begin c.args.block b))
    _ (λ x b f h. search (rules, tests)) c.self.inside.due.items _ c.retain.ensures.filtered in
    rw (← c.self.view_is) (rw kept refl)
