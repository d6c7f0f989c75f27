use Rattle.std.proofs.Common.{◌≡◌, ◌≤◌}
use Rattle.bt_history.specs.Counting.{count_below}
use Rattle.bt_history.specs.Pieces.{had}
use Rattle.bt_cli.proofs.report.count_had.Given as goal

abbrev pub invariant-loop-piece : goal.invariant-loop-piece
invariant-loop-piece l = record {
  counted : l.count ≡ count_below l.piece (had l.desk.history);
  few : l.count ≤ l.piece;
}
