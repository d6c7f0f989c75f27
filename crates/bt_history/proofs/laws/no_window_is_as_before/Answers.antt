use Rattle.bt_history.specs.Setting.{setting_of}
use Rattle.bt_history.specs.Entries.{history_of}
use Rattle.bt_history.proofs.Windows.{order_whole, unwindowed_answer}
use Rattle.bt_history.proofs.laws.no_window_is_as_before.Goals as goal

pub returns : goal.returns
returns c = record {
  order = order_whole (history_of c.args.journal.now) c.requires.never;
  answer = unwindowed_answer (setting_of c.args.torrent.now.layout c.args.workers c.args.rules) (history_of c.args.journal.now) c.args.worker
      c.requires.legal c.requires.never;
}
