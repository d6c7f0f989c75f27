use Rattle.bt_history.specs.Setting.{setting_of}
use Rattle.bt_history.proofs.Depths.{so_far_bounded}
use Rattle.bt_history.proofs.laws.depths_are_bounded.Goals as goal

pub returns : goal.returns
returns c = so_far_bounded (setting_of c.args.torrent.now.layout c.args.workers c.args.rules) _ c.args.worker c.requires
