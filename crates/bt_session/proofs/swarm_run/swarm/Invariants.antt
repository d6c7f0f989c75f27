use Rattle.std.proofs.Common.{◌+◌, Some, length}
use Rattle.bt_history.specs.Setting.{setting_of}
use Rattle.bt_session.proofs.swarm_run.swarm.Given as goal

abbrev pub ghosts-run : goal.ghosts-run
ghosts-run g a = record {
  setting = setting_of a.torrent.value.layout (length a.streams.items + a.plan.checkers + 1) a.plan.rules;
  desk = Some a.fittings.desk.table;
  board = Some a.fittings.board.table;
  queue = Some a.fittings.queue;
}
