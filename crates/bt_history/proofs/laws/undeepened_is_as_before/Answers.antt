use Rattle.bt_history.specs.Setting.{setting_of}
use Rattle.bt_history.proofs.Depths.{depth_as_before, so_far_as_before}
use Rattle.bt_history.proofs.laws.undeepened_is_as_before.Goals as goal

pub returns : goal.returns
returns c =
    let s = setting_of c.args.torrent.now.layout c.args.workers c.args.rules in
    record {
      depth = depth_as_before s _ c.args.worker c.requires;
      so_far = so_far_as_before s _ c.args.worker c.requires;
    }
