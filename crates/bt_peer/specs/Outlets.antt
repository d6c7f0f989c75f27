-- Stretches of a session: what it called and what it wrote.
use Rattle.std.specs.Prelude.{◌≡◌, ◌⊎◌, Bool, true, false, List, [], ◌∷◌, ◌++◌, ℕ, Option}
use Rattle.std.specs.Borrow.{GName}
use Rattle.std.specs.Io.KnownBytes.{Appends}
use Rattle.bt_meta.specs.declared.devices.Sink as sinks
use Rattle.bt_peer.specs.declared.fault.SessionFault.{SessionFault}
use Rattle.bt_peer.specs.declared.fault.SessionFault.TheVariants as faults
use Rattle.bt_peer.specs.declared.place.Place as places
use Rattle.bt_peer.specs.declared.writer.Said.{Said}
use Rattle.bt_history.specs.declared.event.Action.{Action}
use Rattle.bt_history.specs.declared.call.Reply.{Reply}
use Rattle.bt_history.specs.declared.call.Reply.TheVariants as replies
use Rattle.bt_peer.specs.Acts.{Act, Called, is_refusal, is_refused_call}
use Rattle.bt_peer.specs.Turns.{NoneRefused}
use Rattle.bt_peer.specs.Writer.{says, interest_after}
use Rattle.bt_peer.specs.Places.{PlaceRecord, Gains, GainsUpTo}

-- what was said to a peer
pub record Saying : Type 0 where
  -- the bytes that were written, and whether the sink has failed
  pub written : Option (List ℕ)
  pub failed : Bool
  pub interested : Bool
  -- by which the sink's owner knows it again
  pub sink : GName

-- what was said, by what the sink tells of itself
abbrev pub saying : {W : Type 0} → sinks.Ghosts W → Said W → Saying
saying of said = record {
  written = of.written said.writer.now;
  failed = of.failed said.writer.now;
  interested = said.interested;
  sink = said.writer.ghost_name;
}

-- what a session acts on: the place, and what was said
pub record Outlet : Type 0 where
  pub past : PlaceRecord
  pub said : Saying

-- place and saying, by what each tells of itself
abbrev pub outlet : {P W : Type 0} → places.Ghosts P → sinks.Ghosts W → P → Said W → Outlet
outlet at to place said = record { past = at.past place; said = saying to said }

-- these bytes were written
pub record Writes (old : Saying) (bytes : List ℕ) (new : Saying) : Type 0 where
  pub wrote : Appends old.written new.written bytes
  pub sound : new.failed ≡ old.failed
  pub same_sink : new.sink ≡ old.sink

-- these acts came, and what they say was written
pub record Performs (old : Outlet) (acts : List Act) (new : Outlet) : Type 0 where
  pub gains : Gains old.past acts new.past
  pub writes : Writes old.said (says old.said.interested acts) new.said
  pub interest : new.said.interested ≡ interest_after old.said.interested acts

-- a fault that may cut off what is written: a write that failed, or want of memory
abbrev pub IsCut : SessionFault → Type 0
IsCut fault = (fault ≡ faults.WriteFault) ⊎ (fault ≡ faults.NoMemory)

-- a front of these bytes was written, all of them but after such a fault
pub record WroteFront (fault : SessionFault) (old : Option (List ℕ)) (bytes : List ℕ) (new : Option (List ℕ)) : Type 0 where
  pub front : List ℕ
  pub rest : List ℕ
  pub parts : bytes ≡ front ++ rest
  pub wrote : Appends old new front
  pub all : IsCut fault ⊎ (rest ≡ [])

-- so much of these bytes was written, up to this fault
pub record WritesUpTo (fault : SessionFault) (old : Saying) (bytes : List ℕ) (new : Saying) : Type 0 where
  pub wrote : WroteFront fault old.written bytes new.written
  pub failed : fault ≡ faults.WriteFault → new.failed ≡ true
  pub same_sink : new.sink ≡ old.sink

-- these acts came up to a fault
pub record PerformsUpTo (fault : SessionFault) (old : Outlet) (acts : List Act) (new : Outlet) : Type 0 where
  pub gains : GainsUpTo old.past acts new.past
  pub writes : WritesUpTo fault old.said (says old.said.interested acts) new.said

-- these acts end in that call refused, and no other was
pub record EndsRefused (call : Action) (reply : Reply) (acts : List Act) : Type 0 where
  pub before : List Act
  pub accepted : NoneRefused before
  pub refused : is_refused_call (Called call reply) ≡ true
  pub last : acts ≡ before ++ Called call reply ∷ []

-- the last acts before a fault that calls end by: the refused call, or no refusal where a write failed or memory ran out
abbrev pub EndsCalls : SessionFault → List Act → Type 0
EndsCalls (faults.Refused reason) acts = (call : Action) × EndsRefused call (replies.Refused reason) acts
EndsCalls faults.WriteFault acts = NoneRefused acts
EndsCalls faults.NoMemory acts = NoneRefused acts
EndsCalls _ acts = ⊥

-- a call that was made up to a fault: it was refused, or what its reply says was cut off, or there was no memory for it
abbrev pub StopsCall : Action → SessionFault → List Act → Type 0
StopsCall call (faults.Refused reason) acts = acts ≡ Called call (replies.Refused reason) ∷ []
StopsCall call fault acts =
    IsCut fault × ((acts ≡ []) ⊎ ((reply : Reply) × ((is_refusal reply ≡ false) × (acts ≡ Called call reply ∷ []))))
