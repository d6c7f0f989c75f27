use Rattle.bt_history.specs.Setting.{setting_of}
use Rattle.bt_history.proofs.Idling.{idle_lasts}
use Rattle.bt_history.proofs.laws.idle_until_the_epoch_rises.Goals as goal

pub returns : goal.returns
returns c =
    idle_lasts (setting_of c.args.torrent.now.layout c.args.workers c.args.rules) _ _ c.args.worker c.args.answer c.requires.legal c.requires.worker
    c.requires.idle c.requires.others c.requires.same c.requires.answered
