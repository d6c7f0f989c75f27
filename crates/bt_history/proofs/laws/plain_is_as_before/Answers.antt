use Rattle.bt_history.specs.Setting.{setting_of}
use Rattle.bt_history.specs.Entries.{history_of}
use Rattle.bt_history.proofs.Losing.{journals_lose_nothing}
use Rattle.bt_history.proofs.Plain.{legal_plain}
use Rattle.bt_history.proofs.laws.plain_is_as_before.Goals as goal

pub returns : goal.returns
returns c =
    legal_plain (setting_of c.args.torrent.now.layout c.args.workers c.args.rules)
    (record { wide = c.requires.wide; strict = c.requires.strict; deep = c.requires.deep; all = c.requires.all })
    (history_of c.args.journal.now)
    (record {
      releases = c.requires.releases;
      depths = c.requires.depths;
      adds = c.requires.adds;
      levels = c.requires.levels;
      reaches = c.requires.reaches;
      delays = c.requires.delays;
      alone = c.requires.alone;
      losses = journals_lose_nothing c.args.journal.now;
    })
