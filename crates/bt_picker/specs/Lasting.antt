-- How long the bytes that were hashed stay those that are held: until a check fails.
use Rattle.std.specs.Prelude.{ℕ, ◌+◌, ◌≡◌, ◌++◌, true, [], ◌∷◌, if◌then◌else◌}
use Rattle.bt_check.specs.Checked.{Checked}
use Rattle.bt_history.specs.History.{History, is_failed}
use Rattle.bt_history.specs.Setting.{Setting}
use Rattle.bt_picker.specs.Checks.{blocks_of, waits}

-- how many checks have failed
unfoldable pub failure_count : History → ℕ
failure_count [] = 0
failure_count (e ∷ h) = (if is_failed e.reply then 1 else 0) + failure_count h

-- a verdict of the bytes that were held when so many checks had failed, and its piece waited
pub record WasDue (s : Setting) (h : History) (failures : ℕ) (v : Checked) : Type 0 where
  pub newer : History
  pub earlier : History
  pub since : h ≡ newer ++ earlier
  pub waited : waits s earlier v.piece ≡ true
  pub blocks : v.blocks ≡ blocks_of s earlier v.piece
  pub counted : failures ≡ failure_count earlier
