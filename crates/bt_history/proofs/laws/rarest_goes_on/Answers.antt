use Rattle.bt_history.specs.Setting.{setting_of}
use Rattle.bt_history.specs.Entries.{event_of}
use Rattle.bt_history.proofs.Opening.{open_goes_rarest}
use Rattle.bt_history.proofs.laws.rarest_goes_on.Goals as goal

pub returns : goal.returns
returns c =
    open_goes_rarest (setting_of c.args.torrent.now.layout c.args.workers c.args.rules) _ (event_of c.args.entry.now) c.args.block
    c.requires.legal.1 c.requires.request c.requires.unordered c.requires.legal.0 c.requires.some c.args.other c.requires.on c.requires.inside
    c.requires.usable c.requires.level c.requires.begun
