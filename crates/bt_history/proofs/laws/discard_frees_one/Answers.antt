use Rattle.std.proofs.Common.{refl}
use Rattle.bt_history.specs.declared.event.Action.TheVariants.{Discard}
use Rattle.bt_history.specs.Pieces.{had, kept, sender}
use Rattle.bt_history.proofs.TakingBack.{leaves_peers}
use Rattle.bt_history.proofs.laws.discard_frees_one.Goals as goal

pub returns : goal.returns
unfolding had kept sender
returns c = record {
  had = refl;
  bytes = refl;
  sender = refl;
  peers = leaves_peers _ c.args.worker (Discard c.args.piece c.args.begin) c.args.other c.args.block refl;
}
