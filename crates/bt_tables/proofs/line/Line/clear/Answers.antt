use Rattle.std.proofs.Common.{ap, arith, length, subst, sym, ◌∙◌}
use Rattle.bt_history.specs.Peers.{AreApart}
use Rattle.bt_tables.specs.Delays.{flagged}
use Rattle.bt_tables.specs.Queues.{QueueState}
use Rattle.bt_tables.proofs.Forgetting.{apart_none}
use Rattle.bt_tables.proofs.line.Line.clear.Goals as goal

pub invariant_of-self : goal.invariant_of-self
invariant_of-self c =
    let blocks = ap (λ (q : QueueState). q.items) c.clear.ensures in
    let room = ap (λ (q : QueueState). q.room) c.clear.ensures in
    let flags = c.clear-2.ensures.items in
    record {
      holds_flags = omega (arith, c.self.invariant.holds_flags, c.clear-2.ensures.capacity, room);
      each = ap length flags ∙ sym (ap length blocks);
      apart = subst AreApart (sym blocks) apart_none;
      counted = sym (λ i. length (flagged (blocks i) (flags i)));
    }
