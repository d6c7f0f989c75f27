use Rattle.bt_history.specs.Setting.{setting_of}
use Rattle.bt_history.proofs.Assured.{assured}
use Rattle.bt_history.proofs.laws.legal_histories_assure.Goals as goal

pub returns : goal.returns
returns c = assured (setting_of c.args.torrent.now.layout c.args.workers c.args.rules) _ c.requires
