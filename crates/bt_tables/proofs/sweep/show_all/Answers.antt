use Rattle.std.proofs.Common.{◌∙◌, arith}
use Rattle.bt_tables.specs.Tables.{more_available}
use Rattle.bt_tables.proofs.Sweeps.{has_rooms, stepped_all}
use Rattle.bt_tables.proofs.sweep.show_all.Goals as goal

pub show_each-requires : goal.show_each-requires
show_each-requires c = record {
  few = has_rooms c.args.pieces.now c.args.flags.now (c.has_all.ensures c.if-has_all.true)
      (omega (arith, c.len.ensures.is, c.count.ensures, c.if-len-count.true)) c.requires;
}

pub returns-then-has_all : goal.returns-then-has_all
returns-then-has_all c =
    c.show_each.ensures
    ∙ stepped_all more_available c.args.pieces.now c.args.flags.now (c.has_all.ensures c.if-has_all.true)
    (omega (arith, c.len.ensures.is, c.count.ensures, c.if-len-count.true))
