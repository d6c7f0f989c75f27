use Rattle.std.proofs.Common.{◌∙◌}
use Rattle.bt_tables.specs.Rows.{amount_of}
use Rattle.bt_tables.proofs.Shelves.{refiled_beside}
use Rattle.bt_tables.proofs.shelf.Shelf.put.Goals as goal

pub regroup-requires-clause-piece : goal.regroup-requires-clause-piece
regroup-requires-clause-piece c = rw c.recount.ensures c.requires.piece

pub regroup-requires-clause-before : goal.regroup-requires-clause-before
regroup-requires-clause-before c = rw c.recount.ensures c.requires.before

pub regroup-requires-clause-had : goal.regroup-requires-clause-had
regroup-requires-clause-had c = rw c.recount.ensures c.requires.fits.had

pub regroup-requires-clause-left : goal.regroup-requires-clause-left
regroup-requires-clause-left c = rw c.recount.ensures c.requires.fits.left

pub regroup-requires-clause-had_fits : goal.regroup-requires-clause-had_fits
regroup-requires-clause-had_fits c = rw c.recount.ensures c.requires.fits.had_fits

pub regroup-requires-clause-left_fits : goal.regroup-requires-clause-left_fits
regroup-requires-clause-left_fits c = rw c.recount.ensures c.requires.fits.left_fits

pub returns-else-not-is_grouped_as : goal.returns-else-not-is_grouped_as
returns-else-not-is_grouped_as c =
    let are = c.is_grouped_as.ensures c.if-not-is_grouped_as.false in
    c.recount.ensures
    ∙ refiled_beside c.args.self.now c.args.piece (amount_of c.args.before) (amount_of c.args.after) are c.requires.before c.requires.fits
