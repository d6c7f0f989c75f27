use Rattle.bt_history.specs.Setting.{setting_of}
use Rattle.bt_history.proofs.Flat.{answer_as_before, chosen_as_before}
use Rattle.bt_history.proofs.laws.flat_is_as_before.Goals as goal

pub returns : goal.returns
returns c = record {
  chosen = chosen_as_before _ c.args.piece c.requires;
  answer = answer_as_before (setting_of c.args.torrent.now.layout c.args.workers c.args.rules) _ c.args.worker c.requires;
}
