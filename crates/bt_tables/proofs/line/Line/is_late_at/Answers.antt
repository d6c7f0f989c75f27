use Rattle.std.proofs.Common.{sym, ◌∙◌}
use Rattle.bt_tables.proofs.Flagged.{flag_of}
use Rattle.bt_tables.proofs.line.Line.is_late_at.Goals as goal

pub returns : goal.returns
returns c d =
    let o = c.self.inside in
    let are = c.self.invariant in
    let lt = rw (← c.self.view_is) at c.requires in
    rw (← c.self.view_is) (c.index.ensures ∙ sym (flag_of o.blocks.items o.flags.items c.args.index d _ are.apart are.each lt))
