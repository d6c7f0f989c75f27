use Rattle.std.proofs.Common.{◌≡◌, ◌∙◌, ◌||◌, ap, get_or, sym, true}
use Rattle.std.specs.List.{filter}
use Rattle.bt_meta.specs.declared.block.Block.{Block}
use Rattle.bt_history.specs.Peers.{has_place}
use Rattle.bt_tables.specs.Delays.{LineState}
use Rattle.bt_tables.proofs.Flagged.{begins_same, flagged_stay}
use Rattle.bt_tables.proofs.Forgetting.{begins}
use Rattle.bt_tables.proofs.line.Line.delay.Goals as goal

pub returns-in-Some : goal.returns-in-Some
returns-in-Some c =
    let l = c.args.self.now in
    let some = rw c.as_slice.ensures at c.in-Some.ensures.some in
    let d : Block = record { piece = 0; begin = 0; len = 0 } in
    let x = get_or l.asked c.in-Some.index d in
    let here : begins c.args.piece c.args.begin x ≡ true =
    ap (λ (line : LineState). begins c.args.piece c.args.begin (get_or line.asked c.in-Some.index d)) (sym c.self.view_is) ∙ some.2 d in
    c.set_late.ensures d
    ∙ (λ i. record {
      room = l.room;
      asked = l.asked;
      overdue = filter (λ b. sym (begins_same c.args.piece c.args.begin x here b) i || has_place b l.overdue) l.asked;
    })

pub returns-in_default : goal.returns-in_default
returns-in_default c =
    let o = c.self.inside in
    let none = rw c.as_slice.ensures at c.in_default.ensures.none in
    let d : Block = record { piece = 0; begin = 0; len = 0 } in
    let stays = flagged_stay c.args.piece c.args.begin o.blocks.items o.flags.items d c.self.invariant.apart c.self.invariant.each none in
    rw (← c.self.view_is) (λ i. record { room = o.blocks.room; asked = o.blocks.items; overdue = sym stays i })
