-- Entries by their plain values, and the history that a journal tells.
use Rattle.std.specs.Prelude.{ℕ, List, map, reverse}
use Rattle.bt_check.specs.Checked.{joined}
use Rattle.bt_meta.specs.declared.block.Block.{Block}
use Rattle.bt_history.specs.declared.call.Call.{Call}
use Rattle.bt_history.specs.declared.call.Call.TheVariants as calls
use Rattle.bt_history.specs.declared.call.Entry.{Entry}
use Rattle.bt_history.specs.declared.call.Reply.{Reply}
use Rattle.bt_history.specs.declared.call.Reply.TheVariants.{Failed, InFlight}
use Rattle.bt_history.specs.declared.event.Action.{Action}
use Rattle.bt_history.specs.declared.event.Action.TheVariants.{Join, Bits, Have, Choke, Unchoke, Next, Arrived, Settle, Leave, Want, Haves, Depth}
use Rattle.bt_history.specs.declared.event.Action.TheVariants.{Release, Level, Levels, InOrder, Reach, InOrderFrom, Lack, Late, Alone, Lose, Discard, Requested}
use Rattle.bt_history.specs.declared.event.Event.{Event}
use Rattle.bt_history.specs.History.{History}

-- a call by its plain values
abbrev pub action_of : Call → Action
action_of calls.Join = Join
action_of (calls.Bits flags) = Bits flags
action_of (calls.Have p) = Have p
action_of calls.Choke = Choke
action_of calls.Unchoke = Unchoke
action_of (calls.Next word) = Next word
action_of (calls.Arrived p begin bytes) = Arrived p begin bytes
action_of (calls.Settle verdict) = Settle verdict.value.piece (joined verdict.value)
action_of calls.Leave = Leave
action_of (calls.Want flags) = Want flags
action_of (calls.Haves flags) = Haves flags
action_of (calls.Depth n) = Depth n
action_of (calls.Release p begin) = Release p begin
action_of (calls.Level p n) = Level p n
action_of (calls.Levels levels) = Levels levels
action_of (calls.InOrder rising) = InOrder rising
action_of (calls.Reach n) = Reach n
action_of (calls.InOrderFrom n) = InOrderFrom n
action_of (calls.Lack p) = Lack p
action_of (calls.Late p begin) = Late p begin
action_of (calls.Alone alone) = Alone alone

-- the entry that this worker's call with this reply makes
abbrev pub event : ℕ → Call → Reply → Event
event w call reply = record { worker = w; action = action_of call; reply = reply }

-- the block that begins there is given up at w
abbrev pub giving_up : ℕ → ℕ → ℕ → Reply → Event
giving_up w p begin reply = record { worker = w; action = Release p begin; reply = reply }

-- w's peer is late with the block that begins there
abbrev pub delaying : ℕ → ℕ → ℕ → Reply → Event
delaying w p begin reply = record { worker = w; action = Late p begin; reply = reply }

-- w's peer has piece p no more
abbrev pub lacking : ℕ → ℕ → Reply → Event
lacking w p reply = record { worker = w; action = Lack p; reply = reply }

-- w tells that piece p is lost
abbrev pub losing : ℕ → ℕ → Event
losing w p = record { worker = w; action = Lose p; reply = Failed }

-- w tells that the block that begins there is bad
abbrev pub discarding : ℕ → ℕ → ℕ → Event
discarding w p begin = record { worker = w; action = Discard p begin; reply = Failed }

-- w was sent a request of block b before, and it counts now
abbrev pub counting : ℕ → Block → Event
counting w b = record { worker = w; action = Requested b.piece b.begin; reply = InFlight b }

-- what contracts see of an entry
abbrev pub event_of : Entry → Event
event_of e = event e.worker e.call e.reply

-- the history that a journal tells, its newest entry first: a journal is kept the oldest first
abbrev pub history_of : List Entry → History
history_of journal = reverse (map event_of journal)
