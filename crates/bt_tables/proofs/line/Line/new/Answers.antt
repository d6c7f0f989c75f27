use Rattle.std.proofs.Common.{ap, arith, length, subst, sym, ◌∙◌}
use Rattle.bt_history.specs.Peers.{AreApart}
use Rattle.bt_tables.specs.Delays.{flagged}
use Rattle.bt_tables.specs.Queues.{QueueState}
use Rattle.bt_tables.proofs.Forgetting.{apart_none}
use Rattle.bt_tables.proofs.line.Line.new.Goals as goal

pub invariant_of-result : goal.invariant_of-result
invariant_of-result c =
    let blocks = ap (λ (q : QueueState). q.items) c.in_ok-new.ensures in
    let room = ap (λ (q : QueueState). q.room) c.in_ok-new.ensures in
    let flags = c.in_ok-with_capacity.ensures.items in
    record {
      holds_flags = omega (arith, room, c.in_ok-with_capacity.ensures.capacity);
      each = ap length flags ∙ sym (ap length blocks);
      apart = subst AreApart (sym blocks) apart_none;
      counted = sym (λ i. length (flagged (blocks i) (flags i)));
    }
