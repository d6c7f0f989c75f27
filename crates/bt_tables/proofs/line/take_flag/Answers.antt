use Rattle.std.proofs.Common.{◌-◌, ◌∙◌, arith}
use Rattle.std.specs.Prelude.{vec_len}
use Rattle.bt_tables.proofs.Flagged.{remove_clear}
use Rattle.bt_tables.proofs.line.take_flag.Goals as goal

pub returns-clause-items : goal.returns-clause-items
returns-clause-items c =
    let flags = c.args.flags.now in
    c.pop-last.ensures.rest ∙ remove_clear flags.items c.args.index (vec_len flags - 1) c.requires.index (omega (arith, c.requires.index))
    (omega (arith, c.requires.late, c.if-late-gt0.false))
