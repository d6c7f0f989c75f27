-- The pieces that came to be had, in the order of their checks.
use Rattle.std.specs.Prelude.{ℕ, List, [], ◌∷◌, ◌++◌, if◌then◌else◌}
use Rattle.bt_history.specs.declared.event.Action.{Action}
use Rattle.bt_history.specs.declared.event.Action.TheVariants.{Settle}
use Rattle.bt_history.specs.declared.event.Event.{Event}
use Rattle.bt_history.specs.History.{History, is_had}

-- the piece whose check the call tells: one, or none
abbrev pub checked_by : Action → List ℕ
checked_by (Settle piece bytes) = piece ∷ []
checked_by action = []

-- the piece that the entry made had: one, or none
abbrev pub finished_by : Event → List ℕ
finished_by e = if is_had e.reply then checked_by e.action else []

-- the pieces that are had, the one that came to be had first in front
unfoldable pub finished : History → List ℕ
finished [] = []
finished (e ∷ h) = finished h ++ finished_by e
