use Rattle.std.proofs.Common.{rules}
use Rattle.bt_board.proofs.board.Board.mark.Goals as goal

pub announce-requires-clause-proven : goal.announce-requires-clause-proven
announce-requires-clause-proven c = search rules fits 100
