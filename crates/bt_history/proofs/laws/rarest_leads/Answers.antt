use Rattle.bt_history.specs.Setting.{setting_of}
use Rattle.bt_history.specs.Entries.{event_of}
use Rattle.bt_history.proofs.Opening.{leads_all}
use Rattle.bt_history.proofs.laws.rarest_leads.Goals as goal

pub returns : goal.returns
returns c =
    let both = leads_all (setting_of c.args.torrent.now.layout c.args.workers c.args.rules) _ (event_of c.args.entry.now) c.args.block
    c.requires.legal.1 c.requires.request c.requires.unordered c.requires.legal.0 c.requires.some c.requires.few c.args.other c.requires.inside
    c.requires.usable c.requires.level in
    record { rarest = both.0; begun = both.1 }
