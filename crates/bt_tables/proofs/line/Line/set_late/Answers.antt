use Rattle.std.proofs.Common.{true, arith, length-set, set, sym, ◌∙◌}
use Rattle.std.proofs.lemmas.List.{get_or_default}
use Rattle.bt_tables.proofs.Flagged.{count_most, count_set, flagged_again, flagged_set}
use Rattle.bt_tables.proofs.line.Line.set_late.Goals as goal

pub overflow_add-self : goal.overflow_add-self
overflow_add-self c =
    let o = c.self.inside in
    let lt = rw (← c.self.view_is) at c.requires in
    let clear = sym c.index.ensures ∙ c.if-not-index.true in
    let more = count_set o.blocks.items o.flags.items c.args.index c.index.result.now c.self.invariant.each lt clear in
    let most = count_most o.blocks.items (set o.flags.items c.args.index true) in
    omega (arith, more, most, o.flags.ok.0, c.self.invariant.each, c.self.invariant.counted)

pub invariant_of-self : goal.invariant_of-self
invariant_of-self c =
    let o = c.self.inside in
    let lt = rw (← c.self.view_is) at c.requires in
    let clear = sym c.index.ensures ∙ c.if-not-index.true in
    let more = count_set o.blocks.items o.flags.items c.args.index c.index.result.now c.self.invariant.each lt clear in
    record {
      holds_flags = c.self.invariant.holds_flags;
      each = length-set o.flags.items c.args.index true ∙ c.self.invariant.each;
      apart = c.self.invariant.apart;
      counted = omega (arith, more, c.self.invariant.counted);
    }

pub returns-then-not-index : goal.returns-then-not-index
returns-then-not-index c d =
    let o = c.self.inside in
    let lt = rw (← c.self.view_is) at c.requires in
    let late = flagged_set o.blocks.items o.flags.items c.args.index d c.self.invariant.apart c.self.invariant.each lt in
    rw (← c.self.view_is) (λ i. record { room = o.blocks.room; asked = o.blocks.items; overdue = sym late i })

pub returns-else-not-index : goal.returns-else-not-index
returns-else-not-index c d =
    let o = c.self.inside in
    let lt = rw (← c.self.view_is) at c.requires in
    let was = sym (c.index.ensures ∙ get_or_default o.flags.items c.args.index _ _ (omega (arith, lt, c.self.invariant.each))) ∙ c.if-not-index.false in
    let late = flagged_again o.blocks.items o.flags.items c.args.index d c.self.invariant.apart c.self.invariant.each lt was in
    rw (← c.self.view_is) (λ i. record { room = o.blocks.room; asked = o.blocks.items; overdue = sym late i })
