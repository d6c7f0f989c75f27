use Rattle.std.proofs.Common.{refl}
use Rattle.bt_history.specs.declared.event.Action.TheVariants.{Lose}
use Rattle.bt_history.specs.Pieces.{had, kept, sender}
use Rattle.bt_history.proofs.TakingBack.{leaves_peers}
use Rattle.bt_history.proofs.laws.lose_takes_one.Goals as goal

pub returns : goal.returns
unfolding had kept sender
returns c = record {
  had = refl;
  bytes = refl;
  sender = refl;
  peers = leaves_peers _ c.args.worker (Lose c.args.piece) c.args.other c.args.block refl;
}
