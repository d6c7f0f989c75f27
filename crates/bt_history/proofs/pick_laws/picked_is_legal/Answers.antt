use Rattle.bt_history.specs.Setting.{setting_of}
use Rattle.bt_history.specs.Entries.{history_of}
use Rattle.bt_history.proofs.Picks.{picked_legal}
use Rattle.bt_history.proofs.pick_laws.picked_is_legal.Goals as goal

pub returns : goal.returns
returns c = picked_legal (setting_of c.args.torrent.now.layout c.args.workers c.args.rules) (history_of c.args.journal.now) c.requires
