-- What is told to a picker, by its plain values.
use Rattle.std.specs.Prelude.{ℕ, List, ◌≡◌, Bool, true, false, nat_lt}
use Rattle.bt_check.specs.Checked.{joined}
use Rattle.bt_history.specs.declared.call.Reason.TheVariants.{NotJoined}
use Rattle.bt_history.specs.declared.call.Reply.{Reply}
use Rattle.bt_history.specs.declared.call.Reply.TheVariants.{Refused}
use Rattle.bt_history.specs.declared.event.Action.{Action}
use Rattle.bt_history.specs.declared.event.Action.TheVariants as actions
use Rattle.bt_history.specs.declared.event.Event.{Event}
use Rattle.bt_picker.specs.Checks.{SettlesNow}
use Rattle.bt_picker.specs.Positions.{DeskState, Gains}
use Rattle.bt_picker.specs.declared.told.Lent.{Lent}
use Rattle.bt_picker.specs.declared.told.Lent.TheVariants as lent
use Rattle.bt_picker.specs.declared.told.Told.{Told}
use Rattle.bt_picker.specs.declared.told.Told.TheVariants.{Join, Bits, Have, Choke, Unchoke, Next, Arrived, Leave, Want, Haves, Depth, Release}
use Rattle.bt_picker.specs.declared.told.Told.TheVariants.{Level, Levels, InOrder, Reach, InOrderFrom, Lack, Late, Alone, Lose, Discard, Requested}

-- what is told, as a call
abbrev pub action_told : Told → Action
action_told Join = actions.Join
action_told (Bits flags) = actions.Bits flags.now
action_told (Have piece) = actions.Have piece
action_told Choke = actions.Choke
action_told Unchoke = actions.Unchoke
action_told (Next word) = actions.Next word
action_told (Arrived piece begin bytes) = actions.Arrived piece begin bytes.now
action_told Leave = actions.Leave
action_told (Want flags) = actions.Want flags.now
action_told (Haves flags) = actions.Haves flags.now
action_told (Depth n) = actions.Depth n
action_told (Release piece begin) = actions.Release piece begin
action_told (Level piece n) = actions.Level piece n
action_told (Levels levels) = actions.Levels levels.now
action_told (InOrder rising) = actions.InOrder rising
action_told (Reach n) = actions.Reach n
action_told (InOrderFrom n) = actions.InOrderFrom n
action_told (Lack piece) = actions.Lack piece
action_told (Late piece begin) = actions.Late piece begin
action_told (Alone alone) = actions.Alone alone
action_told (Lose piece) = actions.Lose piece
action_told (Discard piece begin) = actions.Discard piece begin
action_told (Requested piece begin) = actions.Requested piece begin

-- a call that is lent
abbrev pub action_lent : Lent → Action
action_lent (lent.Told told) = action_told told
action_lent (lent.Check verdict) = actions.Settle verdict.now.piece (joined verdict.now)

-- the entry of what worker w told
abbrev pub telling : ℕ → Told → Reply → Event
telling w told reply = record { worker = w; action = action_told told; reply = reply }

-- the entry of worker w's check of piece p, of which these bytes were hashed
abbrev pub checking : ℕ → ℕ → List ℕ → Reply → Event
checking w p bytes reply = record { worker = w; action = actions.Settle p bytes; reply = reply }

-- the entry of worker w's call is allowed, and the only new one; a number that is no worker's has no peer, and nothing changes
abbrev pub TellsIf : Bool → DeskState → DeskState → Event → Type 0
TellsIf true old new e = Gains old new e
TellsIf false old new e = (new ≡ old) × (e.reply ≡ Refused NotJoined)

-- what a picker makes of a call of whoever makes it
abbrev pub Tells : DeskState → DeskState → Event → Type 0
Tells old new e = TellsIf (nat_lt e.worker old.setting.workers) old new e

-- a piece that waits is settled by a worker; a number that is no worker's has no peer, and nothing changes
abbrev pub SettlesAs : Bool → DeskState → DeskState → ℕ → ℕ → Reply → Type 0
SettlesAs true old new w p reply = SettlesNow old new w p reply
SettlesAs false old new w p reply = (new ≡ old) × (reply ≡ Refused NotJoined)

-- what a picker makes of a check of whoever tells it
abbrev pub Settles : DeskState → DeskState → ℕ → ℕ → Reply → Type 0
Settles old new w p reply = SettlesAs (nat_lt w old.setting.workers) old new w p reply
