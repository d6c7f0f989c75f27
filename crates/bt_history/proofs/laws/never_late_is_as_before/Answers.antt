use Rattle.bt_history.specs.Setting.{setting_of}
use Rattle.bt_history.specs.Entries.{history_of}
use Rattle.bt_history.proofs.Delays.{alone_undelayed, asked_undelayed, askers_undelayed, candidate_as_undelayed, expected_undelayed, resumes_as_undelayed}
use Rattle.bt_history.proofs.Delays.{usable_as_undelayed}
use Rattle.bt_history.proofs.laws.never_late_is_as_before.Goals as goal

pub returns : goal.returns
returns c =
    let s = setting_of c.args.torrent.now.layout c.args.workers c.args.rules in
    let h = history_of c.args.journal.now in
    record {
      expected = expected_undelayed h c.requires c.args.worker c.args.block;
      asked = asked_undelayed h c.requires s c.args.block;
      askers = askers_undelayed h c.requires s c.args.block;
      usable = usable_as_undelayed h c.requires s c.args.worker c.args.block;
      resumes = resumes_as_undelayed h c.requires s c.args.worker c.args.block.piece;
      candidate = candidate_as_undelayed h c.requires s c.args.worker c.args.block.piece;
      alone = alone_undelayed h c.requires s c.args.worker c.args.block.piece c.args.block.begin;
    }
