-- What a worker's log says of a history, and which replies fit which call.
use Rattle.std.specs.Prelude.{ℕ, ◌≡◌, ◌==◌, Bool, true, false, List, [], ◌∷◌, ◌++◌, length, if◌then◌else◌}
use Rattle.bt_history.specs.declared.call.Reply.{Reply}
use Rattle.bt_history.specs.declared.call.Reply.TheVariants.{Joined, Noted, Quiet, Cancel, Request, InFlight, Choked, PipeFull, Idle, NothingLeft, Stored}
use Rattle.bt_history.specs.declared.call.Reply.TheVariants.{Completed, Dropped, Had, Failed, Refused}
use Rattle.bt_history.specs.declared.event.Action.{Action}
use Rattle.bt_history.specs.declared.event.Action.TheVariants as actions
use Rattle.bt_history.specs.declared.event.Event.{Event}
use Rattle.bt_history.specs.declared.mark.CallMark.{CallMark}
use Rattle.bt_history.specs.declared.mark.CallMark.TheVariants.{Join, Bits, Have, Choke, Unchoke, Next, Arrived, Settle, Leave, Want, Haves, Depth}
use Rattle.bt_history.specs.declared.mark.CallMark.TheVariants.{Release, Level, Levels, InOrder, Reach, InOrderFrom, Lack, Late, Alone, Requested}
use Rattle.bt_history.specs.declared.mark.Mark.{Mark}
use Rattle.bt_history.specs.History.{History}

-- a call without its bytes, its bitfield and its levels. What frees blocks with no check is marked as a check: no journal has it
abbrev pub call_mark : Action → CallMark
call_mark actions.Join = Join
call_mark (actions.Bits flags) = Bits
call_mark (actions.Have p) = Have p
call_mark actions.Choke = Choke
call_mark actions.Unchoke = Unchoke
call_mark (actions.Next word) = Next word
call_mark (actions.Arrived p begin bytes) = Arrived p begin (length bytes)
call_mark (actions.Settle p bytes) = Settle p
call_mark actions.Leave = Leave
call_mark (actions.Want flags) = Want
call_mark (actions.Haves flags) = Haves
call_mark (actions.Depth n) = Depth n
call_mark (actions.Release p begin) = Release p begin
call_mark (actions.Level p n) = Level p n
call_mark (actions.Levels levels) = Levels
call_mark (actions.InOrder rising) = InOrder rising
call_mark (actions.Reach n) = Reach n
call_mark (actions.InOrderFrom n) = InOrderFrom n
call_mark (actions.Lack p) = Lack p
call_mark (actions.Late p begin) = Late p begin
call_mark (actions.Alone alone) = Alone alone
call_mark (actions.Lose p) = Settle p
call_mark (actions.Discard p begin) = Settle p
call_mark (actions.Requested p begin) = Requested p begin

-- the mark of an entry that so many entries are older than
abbrev pub mark_of : ℕ → Event → Mark
mark_of place e = record { place = place; call = call_mark e.action; reply = e.reply }

-- the marks of worker w's entries, the oldest first
abbrev pub marks_of : History → ℕ → List Mark
marks_of [] w = []
marks_of (e ∷ h) w = marks_of h w ++ (if e.worker == w then mark_of (length h) e ∷ [] else [])

-- the log has a mark of each entry of worker w, in order, and no other
pub record Agrees (h : History) (w : ℕ) (log : List Mark) : Type 0 where
  pub exact : log ≡ marks_of h w

-- what Next may be replied
abbrev pub answers_next : Reply → Bool
answers_next (Cancel b) = true
answers_next (Request b) = true
answers_next Choked = true
answers_next PipeFull = true
answers_next Idle = true
answers_next NothingLeft = true
answers_next reply = false

-- what an arrival may be replied
abbrev pub answers_arrived : Reply → Bool
answers_arrived Stored = true
answers_arrived Completed = true
answers_arrived Dropped = true
answers_arrived reply = false

-- the reply is one that a call of this kind can have
abbrev pub answers : CallMark → Reply → Bool
answers call (Refused reason) = true
answers Join Joined = true
answers Bits (Noted shown) = true
answers (Have p) (Noted shown) = true
answers Choke Quiet = true
answers Unchoke Quiet = true
answers Leave Quiet = true
answers Want Quiet = true
answers Haves (Noted shown) = true
answers (Depth n) Quiet = true
answers (Release p begin) Quiet = true
answers (Level p n) Quiet = true
answers Levels Quiet = true
answers (InOrder rising) Quiet = true
answers (Reach n) Quiet = true
answers (InOrderFrom n) Quiet = true
answers (Lack p) (Noted shown) = true
answers (Late p begin) Quiet = true
answers (Alone alone) Quiet = true
answers (Requested p begin) (InFlight b) = true
answers (Next word) reply = answers_next reply
answers (Arrived p begin len) reply = answers_arrived reply
answers (Settle p) Had = true
answers (Settle p) Failed = true
answers call reply = false
