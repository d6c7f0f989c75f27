use Rattle.bt_meta.specs.Layout.{piece_count}
use Rattle.bt_board.proofs.board.Board.has.Given as goal

abbrev pub ghosts-look : goal.ghosts-look
ghosts-look a = record { pieces = piece_count a.self.now.torrent }
