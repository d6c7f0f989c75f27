-- What contracts see of what stands behind a handle.
use Rattle.bt_picker.specs.Positions.{DeskState}
use Rattle.bt_c.specs.declared.engine.Keeping.{Keeping}
use Rattle.bt_c.specs.declared.held.Held.{Held}
use Rattle.bt_c.specs.Engines.{keeping_of, state_of}

-- the setting and the history of its picker
abbrev pub state : Held → DeskState
state h = state_of h.engine

-- what its picker keeps
abbrev pub keeping : Held → Keeping
keeping h = keeping_of h.engine
