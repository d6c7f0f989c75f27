-- What becomes of the bytes that a keeper holds.
use Rattle.std.specs.Prelude.{ℕ, ◌≡◌, ◌≢◌, true, IsTrue, List, [], ⊤, ◌⊎◌}
use Rattle.bt_check.specs.Checked.{Checked}
use Rattle.bt_history.specs.declared.call.Reason.TheVariants.{Stale}
use Rattle.bt_history.specs.declared.call.Reply.{Reply}
use Rattle.bt_history.specs.declared.call.Reply.TheVariants.{Had, Refused}
use Rattle.bt_history.specs.declared.event.Action.{Action}
use Rattle.bt_history.specs.declared.event.Action.TheVariants.{Arrived}
use Rattle.bt_history.specs.declared.event.Event.{Event}
use Rattle.bt_history.specs.History.{stores}
use Rattle.bt_picker.specs.Checks.{blocks_of, waits}
use Rattle.bt_picker.specs.Positions.{DeskState}
use Rattle.bt_picker.specs.Told.{Settles, Tells}

-- the blocks of a piece that came to be had are handed out, in order, and else none
abbrev pub HandsOut : DeskState → ℕ → Reply → List (List ℕ) → Type 0
HandsOut old p Had blocks = blocks ≡ blocks_of old.setting old.history p
HandsOut old p reply blocks = blocks ≡ []

-- the piece waits for a check, and other blocks were hashed than those that are held
abbrev pub IsStale : DeskState → Checked → Type 0
IsStale old v = (waits old.setting old.history v.piece ≡ true) × (v.blocks ≢ blocks_of old.setting old.history v.piece)

-- a verdict that isn't stale settles its piece; a stale one changes nothing
pub record SettlesBy (old new : DeskState) (w : ℕ) (v : Checked) (reply : Reply) : Type 0 where
  pub current : ¬ IsStale old v → Settles old new w v.piece reply
  pub stale : IsStale old v → (new ≡ old) × (reply ≡ Refused Stale)

-- if the piece waits for a check, the blocks that were hashed are those that are held
abbrev pub IsFresh : DeskState → Checked → Type 0
IsFresh old v = waits old.setting old.history v.piece ≡ true → v.blocks ≡ blocks_of old.setting old.history v.piece

-- the piece is settled, or the verdict is stale and nothing changes
abbrev pub SettlesOrStale : DeskState → DeskState → ℕ → Checked → Reply → Type 0
SettlesOrStale old new w v reply =
    (IsFresh old v × Settles old new w v.piece reply) ⊎ (IsStale old v × (new ≡ old) × (reply ≡ Refused Stale))

-- the call brings no block
abbrev pub BringsNone : Action → Type 0
BringsNone (Arrived p begin bytes) = ⊥
BringsNone action = ⊤

-- whatever the reply is, the entry with it tells that a block's bytes are kept
abbrev pub WouldKeep : DeskState → (Reply → Event) → Type 0
WouldKeep old entry = (new : DeskState) (reply : Reply) → Tells old new (entry reply) → IsTrue (stores reply)
