use Rattle.bt_history.specs.Setting.{setting_of}
use Rattle.bt_history.proofs.Opening.{strict_answer}
use Rattle.bt_history.proofs.laws.no_open_is_strict.Goals as goal

pub returns : goal.returns
returns c = strict_answer (setting_of c.args.torrent.now.layout c.args.workers c.args.rules) _ c.args.worker c.requires
