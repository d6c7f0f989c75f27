use Rattle.std.proofs.Common.{ap, ◌∙◌}
use Rattle.bt_history.specs.Before.{never_loses}
use Rattle.bt_history.proofs.Losing.{journals_lose_nothing}
use Rattle.bt_picker.proofs.desk.Desk.finished.Goals as goal

pub returns-clause-kept : goal.returns-clause-kept
returns-clause-kept c = rw (← c.self.view_is) (ap never_loses c.self.invariant.0 ∙ journals_lose_nothing c.self.inside.journal.items)
