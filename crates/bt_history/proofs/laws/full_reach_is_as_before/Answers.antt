use Rattle.bt_history.specs.Setting.{setting_of}
use Rattle.bt_history.specs.Entries.{history_of}
use Rattle.bt_history.proofs.Levels.{level_bounded}
use Rattle.bt_history.proofs.Reaching.{doubles_full, reach_full, usable_full}
use Rattle.bt_history.proofs.laws.full_reach_is_as_before.Goals as goal

pub returns : goal.returns
returns c =
    let s = setting_of c.args.torrent.now.layout c.args.workers c.args.rules in
    let h = history_of c.args.journal.now in
    let most = level_bounded s h c.args.block.piece c.requires.legal in
    record {
      reach = reach_full h c.args.worker c.requires.never;
      usable = usable_full s h c.args.worker c.args.block c.requires.never most;
      doubles = doubles_full s h c.args.worker c.args.block c.requires.never most;
    }
