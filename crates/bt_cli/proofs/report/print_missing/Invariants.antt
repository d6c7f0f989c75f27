use Rattle.std.specs.Io.KnownBytes.{Appends}
use Rattle.bt_history.specs.Pieces.{joined_below}
use Rattle.bt_cli.specs.Reports.{is_done, missing_piece}
use Rattle.bt_cli.proofs.report.print_missing.Given as goal

abbrev pub invariant-loop-piece : goal.invariant-loop-piece
invariant-loop-piece g l =
    Appends (g.O.Sink.written l.fn.out) (g.O.Sink.written l.out) (joined_below l.piece (λ p. missing_piece p (is_done l.desk p)))
