use Rattle.bt_history.specs.Setting.{setting_of}
use Rattle.bt_history.specs.Entries.{event_of}
use Rattle.bt_history.proofs.PickRules.{rule_told}
use Rattle.bt_history.proofs.laws.requests_tell_their_rule.Goals as goal

pub returns : goal.returns
returns c =
    rule_told (setting_of c.args.torrent.now.layout c.args.workers c.args.rules) _ (event_of c.args.entry.now) c.args.block
    c.requires.legal.0 c.requires.legal.1 c.requires.request
