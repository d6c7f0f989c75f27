use Rattle.std.proofs.Common.{sym}
use Rattle.bt_tables.proofs.Sweeps.{tells_nothing}
use Rattle.bt_tables.proofs.pieces.Pieces.announce.Goals as goal

pub returns-else-is_new : goal.returns-else-is_new
returns-else-is_new c = sym (tells_nothing c.args.self.now c.args.piece c.args.is_new c.if-is_new.false)
