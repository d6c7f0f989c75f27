use Rattle.bt_history.proofs.Before.{shows_as_before, late_as_before}
use Rattle.bt_history.proofs.laws.unadded_is_as_before.Goals as goal

pub returns : goal.returns
returns c = record {
  shows = shows_as_before _ c.args.worker c.args.piece c.requires;
  late = late_as_before _ c.args.worker c.requires;
}
