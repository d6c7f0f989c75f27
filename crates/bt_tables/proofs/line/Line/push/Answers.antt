use Rattle.std.proofs.Common.{[], ◌∷◌, ap, arith, false, length, subst, sym, ◌∙◌}
use Rattle.std.proofs.lemmas.List.{length-append}
use Rattle.bt_history.specs.Peers.{AreApart}
use Rattle.bt_history.proofs.LineLaws.{apart_push}
use Rattle.bt_tables.specs.Delays.{flagged}
use Rattle.bt_tables.specs.Queues.{QueueState}
use Rattle.bt_tables.proofs.Flagged.{flagged_push}
use Rattle.bt_tables.proofs.line.Line.push.Goals as goal

pub invariant_of-self : goal.invariant_of-self
invariant_of-self c =
    let o = c.self.inside in
    let b = c.args.block in
    let new = rw (← c.self.view_is) at c.requires.new in
    let blocks = ap (λ (q : QueueState). q.items) c.push.ensures in
    let room = ap (λ (q : QueueState). q.room) c.push.ensures in
    let flags = c.push_reserved.ensures.items in
    let more = ap length blocks ∙ length-append o.blocks.items (b ∷ []) in
    let more_flags = ap length flags ∙ length-append o.flags.items (false ∷ []) in
    record {
      holds_flags = omega (arith, c.self.invariant.holds_flags, c.push_reserved.ensures.capacity, room);
      each = omega (arith, c.self.invariant.each, more, more_flags);
      apart = subst AreApart (sym blocks) (apart_push o.blocks.items b c.self.invariant.apart new);
      counted = c.self.invariant.counted
          ∙ sym (ap length ((λ i. flagged (blocks i) (flags i)) ∙ flagged_push o.blocks.items o.flags.items b c.self.invariant.each));
    }

pub returns : goal.returns
returns c =
    let o = c.self.inside in
    let blocks = ap (λ (q : QueueState). q.items) c.push.ensures in
    let room = ap (λ (q : QueueState). q.room) c.push.ensures in
    let flags = c.push_reserved.ensures.items in
    let late = (λ i. flagged (blocks i) (flags i)) ∙ flagged_push o.blocks.items o.flags.items c.args.block c.self.invariant.each in
    rw (← c.self.view_is) (λ i. record { room = room i; asked = blocks i; overdue = late i })
