use Rattle.std.proofs.Common.{◌==◌, refl}
use Rattle.bt_history.specs.declared.event.Action.TheVariants.{Late}
use Rattle.bt_history.specs.Peers.{alone, due, dues, is_open, joined, late, reach, shows, told_depth}
use Rattle.bt_history.specs.Pieces.{had, kept, level, order_from, sender}
use Rattle.bt_history.proofs.TakingBack.{asked_delayed, late_on, line_delayed, overdue_delayed, shows_on, stays}
use Rattle.bt_history.proofs.laws.late_keeps_the_request.Goals as goal

pub returns : goal.returns
unfolding alone due dues had is_open joined kept late level order_from reach sender shows told_depth
returns c =
    let same = stays _ c.args.other (c.args.worker == c.args.other) (Late c.args.piece c.args.begin) refl in record {
      overdue = overdue_delayed _ c.args.worker c.args.piece c.args.begin c.args.other c.args.block;
      asked = asked_delayed _ c.args.worker c.args.piece c.args.begin c.args.other c.args.block;
      line = line_delayed _ c.args.worker c.args.piece c.args.begin c.args.other;
      shows = shows_on (c.args.worker == c.args.other) (Late c.args.piece c.args.begin) c.args.block.piece _ refl;
      late = late_on (c.args.worker == c.args.other) (Late c.args.piece c.args.begin) _ refl;
      due = same.due c.args.block;
      cancels = same.cancels;
      depth = same.depth;
      joined = same.joined;
      opened = same.opened;
      alone = same.alone;
      reach = same.reach;
      held = refl;
      bytes = refl;
      sender = refl;
      had = refl;
      level = refl;
      order = refl;
    }
