use Rattle.bt_history.specs.Setting.{setting_of}
use Rattle.bt_history.specs.Entries.{event_of}
use Rattle.bt_history.proofs.Reaching.{request_reached}
use Rattle.bt_history.proofs.laws.no_request_beyond_reach.Goals as goal

pub returns : goal.returns
returns c =
    request_reached (setting_of c.args.torrent.now.layout c.args.workers c.args.rules) _ (event_of c.args.entry.now) c.args.block
    c.requires.legal.1 c.requires.request
