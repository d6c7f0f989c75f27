use Rattle.bt_session.proofs.Through.{three_first}
use Rattle.bt_session.proofs.four.lanes_of.Goals as goal

pub returns-in-len3-clause-first : goal.returns-in-len3-clause-first
returns-in-len3-clause-first c = three_first c.args.pieces.now c.in-len3.len_at_least c.in-len3.len_below
