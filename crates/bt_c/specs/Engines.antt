-- What contracts see of a picker behind a handle, whatever it keeps.
use Rattle.std.specs.Prelude.{Bool, true, false}
use Rattle.bt_picker.specs.Positions.{DeskState}
use Rattle.bt_c.specs.declared.engine.Engine.{Engine}
use Rattle.bt_c.specs.declared.engine.Engine.TheVariants.{Picker, Keeper, Desk}
use Rattle.bt_c.specs.declared.engine.Keeping.{Keeping}
use Rattle.bt_c.specs.declared.engine.Keeping.TheVariants.{Nothing, Begun, Journal}

-- the setting, and the history of all calls with their replies
abbrev pub state_of : Engine → DeskState
state_of (Picker p) = p
state_of (Keeper k) = k
state_of (Desk d) = d

-- what it keeps
abbrev pub keeping_of : Engine → Keeping
keeping_of (Picker p) = Nothing
keeping_of (Keeper k) = Begun
keeping_of (Desk d) = Journal

-- whether the blocks that come are kept
abbrev pub content_kept : Keeping → Bool
content_kept Nothing = false
content_kept Begun = true
content_kept Journal = true
