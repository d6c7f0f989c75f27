use Rattle.std.proofs.Common.{◌≡◌, ◌∙◌, List, false, ap, arith, get_or, length, not, subst, sym}
use Rattle.std.specs.List.{filter, remove}
use Rattle.std.proofs.lemmas.List.Edits.{length-remove}
use Rattle.bt_meta.specs.declared.block.Block.{Block}
use Rattle.bt_history.specs.History.{same_begin}
use Rattle.bt_history.specs.Peers.{AreApart}
use Rattle.bt_history.proofs.LineLaws.{apart_filter}
use Rattle.bt_tables.specs.Delays.{flagged}
use Rattle.bt_tables.specs.Queues.{QueueState}
use Rattle.bt_tables.proofs.Flagged.{count_flagged, count_removed, flagged_remove, line_removed}
use Rattle.bt_tables.proofs.line.Line.remove.Goals as goal

pub take_flag-requires-clause-late : goal.take_flag-requires-clause-late
take_flag-requires-clause-late c =
    let o = c.self.inside in
    c.self.invariant.counted ∙ count_flagged o.blocks.items o.flags.items c.self.invariant.each

pub overflow_sub-self : goal.overflow_sub-self
overflow_sub-self c =
    let o = c.self.inside in
    let lt = rw (← c.self.view_is) at c.requires in
    let less = count_removed o.blocks.items o.flags.items c.args.index false c.self.invariant.each lt in
    omega (arith, less, c.take_flag.ensures.set false, c.self.invariant.counted)

-- the blocks that are left
items : (c : goal.After-remove) → c.remove.new.self.items ≡ remove c.self.inside.blocks.items c.args.index
items c = ap (λ (q : QueueState). q.items) c.remove.ensures.items

pub invariant_of-self : goal.invariant_of-self
invariant_of-self c =
    let o = c.self.inside in
    let d = c.remove.result in
    let lt = rw (← c.self.view_is) at c.requires in
    let less = count_removed o.blocks.items o.flags.items c.args.index false c.self.invariant.each lt in
    let room = ap (λ (q : QueueState). q.room) c.remove.ensures.items in
    let left : length (flagged c.remove.new.self.items c.take_flag.new.flags.items)
    ≡ length (flagged (remove o.blocks.items c.args.index) (remove o.flags.items c.args.index)) =
    λ i. length (flagged (items c i) (c.take_flag.ensures.items i)) in
    let kept = line_removed o.blocks.items c.args.index d c.self.invariant.apart lt in
    record {
      holds_flags = omega (arith, c.self.invariant.holds_flags, c.take_flag.ensures.capacity, room);
      each = omega (arith, c.self.invariant.each, ap length c.take_flag.ensures.items, length-remove o.flags.items c.args.index (omega (arith, c.self.invariant.each, lt)), ap length (items c), length-remove o.blocks.items c.args.index lt);
      apart = subst AreApart (kept ∙ sym (items c))
          (apart_filter (λ b. not (same_begin (get_or o.blocks.items c.args.index d) b)) o.blocks.items c.self.invariant.apart);
      counted = omega (arith, less, c.take_flag.ensures.set false, left, c.self.invariant.counted);
    }

pub returns-clause-line : goal.returns-clause-line
returns-clause-line c =
    let o = c.self.inside in
    let d = c.remove.result in
    let lt = rw (← c.self.view_is) at c.requires in
    let named : (bs : List Block) → filter (λ b. not (same_begin (get_or o.blocks.items c.args.index d) b)) bs ≡ filter (λ b. not (same_begin d b)) bs =
    λ bs. ap (λ (x : Block). filter (λ b. not (same_begin x b)) bs) (sym c.remove.ensures.value) in
    let room = ap (λ (q : QueueState). q.room) c.remove.ensures.items in
    let asked = items c ∙ (sym (line_removed o.blocks.items c.args.index d c.self.invariant.apart lt) ∙ named o.blocks.items) in
    let late : flagged c.remove.new.self.items c.take_flag.new.flags.items ≡ filter (λ b. not (same_begin d b)) (flagged o.blocks.items o.flags.items) =
    (λ i. flagged (items c i) (c.take_flag.ensures.items i))
    ∙ (flagged_remove o.blocks.items o.flags.items c.args.index d c.self.invariant.apart c.self.invariant.each lt
    ∙ named (flagged o.blocks.items o.flags.items)) in
    rw (← c.self.view_is) (λ i. record { room = room i; asked = asked i; overdue = late i })
