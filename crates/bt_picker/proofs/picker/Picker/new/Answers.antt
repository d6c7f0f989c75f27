use Rattle.std.proofs.Common.{◌≤◌, ◌∙◌, ◌%◌, ◌^◌, subst, sym}
use Rattle.bt_history.specs.declared.rules.TheConstants.{MOST_WORKERS}
use Rattle.bt_history.specs.Epochs.{epoch}
use Rattle.bt_history.specs.Picks.{ArePicked}
use Rattle.bt_history.specs.Setting.{Setting}
use Rattle.bt_picker.specs.Tables.{AreTables}
use Rattle.bt_picker.proofs.Epochs.{epoch_none}
use Rattle.bt_picker.proofs.picker.Picker.new.Goals as goal

pub invariant_of-result : goal.invariant_of-result
invariant_of-result c = (
  subst (AreTables c.in_ok-tables.tables) (sym c.new.ensures) c.in_ok-tables.ensures.are,
  subst (λ (s : Setting). s.workers ≤ MOST_WORKERS) (sym c.in_ok-tables.ensures.setting) c.requires.workers.1,
  epoch_none c.in_ok-tables.tables.setting ∙ (λ i. epoch c.in_ok-tables.tables.setting (sym c.new.ensures i) % 2 ^ 64),
  subst (ArePicked c.in_ok-tables.tables.setting) (sym c.new.ensures) tt,
)
