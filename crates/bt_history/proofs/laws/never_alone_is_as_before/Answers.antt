use Rattle.bt_history.specs.Setting.{setting_of}
use Rattle.bt_history.specs.Entries.{history_of}
use Rattle.bt_history.proofs.Owning.{free_unowned, none_alone, resumes_as_unowned, usable_as_unowned}
use Rattle.bt_history.proofs.laws.never_alone_is_as_before.Goals as goal

pub returns : goal.returns
returns c =
    let s = setting_of c.args.torrent.now.layout c.args.workers c.args.rules in
    let h = history_of c.args.journal.now in
    record {
      alone = none_alone h c.args.worker c.requires;
      free = free_unowned h c.requires s c.args.worker c.args.block.piece;
      usable = usable_as_unowned h c.requires s c.args.worker c.args.block;
      resumes = resumes_as_unowned h c.requires s c.args.worker c.args.block.piece;
    }
