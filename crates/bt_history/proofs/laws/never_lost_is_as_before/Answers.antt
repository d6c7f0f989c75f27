use Rattle.bt_history.proofs.Losing.{had_as_before, kept_as_before, sender_as_before}
use Rattle.bt_history.proofs.laws.never_lost_is_as_before.Goals as goal

pub returns : goal.returns
returns c = record {
  had = had_as_before _ c.args.block.piece c.requires;
  bytes = kept_as_before _ c.args.block c.requires;
  sender = sender_as_before _ c.args.block c.requires;
}
