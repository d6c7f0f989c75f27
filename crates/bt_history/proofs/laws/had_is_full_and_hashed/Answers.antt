use Rattle.bt_history.specs.Setting.{setting_of}
use Rattle.bt_history.proofs.HeldLaws.{had_facts, had_hash}
use Rattle.bt_history.proofs.laws.had_is_full_and_hashed.Goals as goal

pub returns : goal.returns
returns c =
    let s = setting_of c.args.torrent.now.layout c.args.workers c.args.rules in
    record {
      full = (had_facts s _ c.args.piece c.requires.legal c.requires.had).is_full;
      hash = had_hash s _ c.args.piece c.requires.legal c.requires.had;
    }
