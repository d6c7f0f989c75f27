use Rattle.bt_history.proofs.Before.{asked_as_before, outstanding_as_before}
use Rattle.bt_history.proofs.laws.unreleased_is_as_before.Goals as goal

pub returns : goal.returns
returns c = record {
  asked = asked_as_before _ c.args.worker c.args.block c.requires;
  line = outstanding_as_before _ c.args.worker c.requires;
}
