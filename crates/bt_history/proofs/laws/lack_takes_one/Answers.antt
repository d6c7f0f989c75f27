use Rattle.std.proofs.Common.{◌==◌, refl}
use Rattle.bt_history.specs.declared.event.Action.TheVariants.{Lack}
use Rattle.bt_history.specs.Peers.{alone, due, dues, is_open, joined, reach, told_depth}
use Rattle.bt_history.specs.Pieces.{had, kept, level, order_from, sender}
use Rattle.bt_history.proofs.TakingBack.{asked_lacked, late_lacked, line_lacked, shows_lacked, stays}
use Rattle.bt_history.proofs.laws.lack_takes_one.Goals as goal

pub returns : goal.returns
unfolding alone due dues had is_open joined kept level order_from reach sender told_depth
returns c =
    let same = stays _ c.args.other (c.args.worker == c.args.other) (Lack c.args.piece) refl in record {
      shows = shows_lacked _ c.args.worker c.args.piece c.args.other c.args.interests c.args.block.piece;
      asked = asked_lacked _ c.args.worker c.args.piece c.args.other c.args.interests c.args.block;
      line = line_lacked _ c.args.worker c.args.piece c.args.other c.args.interests;
      late = late_lacked _ c.args.worker c.args.piece c.args.other c.args.interests;
      due = same.due c.args.block;
      cancels = same.cancels;
      depth = same.depth;
      joined = same.joined;
      opened = same.opened;
      alone = same.alone;
      reach = same.reach;
      held = refl;
      bytes = refl;
      sender = refl;
      had = refl;
      level = refl;
      order = refl;
    }
