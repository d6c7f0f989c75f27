use Rattle.std.proofs.Common.{◌≡◌}
use Rattle.bt_board.proofs.News.{Looked}
use Rattle.bt_board.proofs.board.Board.news.Given as goal

-- the words so far were loaded, and gave nothing new
abbrev pub invariant-loop-word : goal.invariant-loop-word
invariant-loop-word l =
    (l.seat.table ≡ l.initial.seat.table) × (l.seat.given ≡ l.initial.seat.given) × Looked l.initial.seat.view l.initial.seat.given l.word l.seat.view
