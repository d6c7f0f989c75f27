-- The parts of a turn, each with the acts that it came to, where it was done or where a fault stopped it. Only contracts within the crate
-- cite this module.
use Rattle.std.specs.Prelude.{◌≡◌, ◌⊎◌, ℕ, ◌≤◌, Bool, true, false, List, ◌++◌, length, map, Option, Result, IfErr, OnOk}
use Rattle.bt_history.specs.declared.event.Action.{Action}
use Rattle.bt_meta.specs.declared.devices.Sink as sinks
use Rattle.bt_meta.specs.declared.devices.Source as sources
use Rattle.bt_peer.specs.declared.fault.SessionFault.{SessionFault}
use Rattle.bt_peer.specs.declared.fault.SessionFault.TheVariants as faults
use Rattle.bt_peer.specs.declared.place.Place as places
use Rattle.bt_peer.specs.declared.reader.Heard.{Heard}
use Rattle.bt_peer.specs.declared.writer.Said.{Said}
use Rattle.bt_wire.specs.declared.message.Message.{Message}
use Rattle.bt_peer.specs.Acts.{Act, News, is_in}
use Rattle.bt_peer.specs.Hearing.{Hearing, StaysCounted}
use Rattle.bt_peer.specs.Outlets.{Outlet, Saying, Performs, PerformsUpTo, StopsCall, EndsCalls, IsCut, WroteFront}
use Rattle.bt_peer.specs.Places.{PlaceRecord, GainsUpTo, AllTold}
use Rattle.bt_peer.specs.Reader.{SourceState}
use Rattle.bt_peer.specs.Steps.{Reading, Start, Surroundings, reading, surroundings, BreaksBy, Departs, StopsOpening, StopsTurn, TellsNews}
use Rattle.bt_peer.specs.SessionTerms.{TermsState, pieces_of}
use Rattle.bt_peer.specs.Turns.{Opens, Asks, IsTurn, NoneRefused}
use Rattle.bt_peer.specs.Writer.{says}

-- a call
pub record CallStops (fault : SessionFault) (call : Action) (old new : Outlet) : Type 0 where
  pub acts : List Act
  pub stops : StopsCall call fault acts
  pub performs : PerformsUpTo fault old acts new

-- the call of a message, and a check
pub record OpeningDone (call : Option Action) (old new : Outlet) : Type 0 where
  pub acts : List Act
  pub opens : Opens call acts
  pub accepted : NoneRefused acts
  pub performs : Performs old acts new

-- a fault stopped the call of a message, or the check
pub record OpeningStops (fault : SessionFault) (call : Option Action) (old new : Outlet) : Type 0 where
  pub acts : List Act
  pub rest : List Act
  pub opens : Opens call (acts ++ rest)
  pub ends : EndsCalls fault acts
  pub performs : PerformsUpTo fault old acts new

-- the same, or the message wasn't acceptable
pub record MessageStops (fault : SessionFault) (pieces : ℕ) (m : Message) (old new : Outlet) : Type 0 where
  pub acts : List Act
  pub stops : StopsOpening fault pieces m acts
  pub performs : PerformsUpTo fault old acts new

-- news of all pieces that are known to be finished, or of so many
pub record NewsDone (most : ℕ) (old new : Outlet) : Type 0 where
  pub news : List ℕ
  pub few : length news ≤ most
  pub told : (length news ≡ most) ⊎ AllTold new.past
  pub performs : Performs old (map News news) new

-- a fault stopped the news
pub record NewsStops (fault : SessionFault) (most : ℕ) (old new : Outlet) : Type 0 where
  pub news : List ℕ
  pub few : length news ≤ most
  pub cut : IsCut fault
  pub performs : PerformsUpTo fault old (map News news) new

-- Next calls
pub record AskingDone (most : ℕ) (old new : Outlet) : Type 0 where
  pub acts : List Act
  pub asks : Asks most acts
  pub accepted : NoneRefused acts
  pub performs : Performs old acts new

-- a fault stopped the Next calls
pub record AskingStops (fault : SessionFault) (most : ℕ) (old new : Outlet) : Type 0 where
  pub acts : List Act
  pub rest : List Act
  pub asks : Asks most (acts ++ rest)
  pub ends : EndsCalls fault acts
  pub performs : PerformsUpTo fault old acts new

-- the turn of a message after the handshake
pub record TurnDone (terms : TermsState) (m : Message) (old new : Outlet) : Type 0 where
  pub acts : List Act
  pub turn : IsTurn terms m acts
  pub accepted : NoneRefused acts
  pub news : TellsNews (pieces_of terms) old.past acts new.past
  pub performs : Performs old acts new

-- a fault stopped the turn
pub record TurnStops (fault : SessionFault) (terms : TermsState) (m : Message) (old new : Outlet) : Type 0 where
  pub acts : List Act
  pub stops : StopsTurn fault terms m acts
  pub performs : PerformsUpTo fault old acts new

-- what is round a turn, and what a session keeps of its peer meanwhile
abbrev pub round_turn : {P R W : Type 0} → places.Ghosts P → sources.Ghosts R → sinks.Ghosts W → P → R → Said W → Surroundings
round_turn at of to place reader said = surroundings at.past of.left to.written place reader said.writer.now

-- what a session keeps between turns, by its two objects
abbrev pub reading_by : {W : Type 0} → Heard → Said W → Reading
reading_by heard said = reading heard.inbound said.interested

-- What each turn keeps: our count of the reads stays the source's, the sink is the one that was lent, and both devices stay sound, if they
-- were; but after the fault of a write the sink has failed.
pub record TurnKeeps {X : Type 0} (result : Result X SessionFault) (heard : Hearing) (said : Saying)
    (heard' : Hearing) (said' : Saying) : Type 0 where
  pub counted : StaysCounted heard heard'
  pub same_sink : said'.sink ≡ said.sink
  pub sound : OnOk result ((heard'.source.failed ≡ heard.source.failed) × (said'.failed ≡ said.failed))
  pub failed : IfErr result (λ fault. fault ≡ faults.WriteFault → said'.failed ≡ true)

-- the first turn broke off, and the peer isn't in
pub record GreetingFails (fault : SessionFault) (greeting : List ℕ) (interested : Bool) (old : Start) (source : SourceState)
    (past : PlaceRecord) (written : Option (List ℕ)) (past' : PlaceRecord) (written' : Option (List ℕ)) : Type 0 where
  pub acts : List Act
  pub gains : GainsUpTo past acts past'
  pub outside : is_in false acts ≡ false
  pub wrote : WroteFront fault written (greeting ++ says interested acts) written'
  pub cause : BreaksBy fault old source acts

-- a later turn broke off, and then came the departure
pub record ListeningFails (fault : SessionFault) (interested : Bool) (old : Start) (source : SourceState)
    (past : PlaceRecord) (written : Option (List ℕ)) (past' : PlaceRecord) (written' : Option (List ℕ)) : Type 0 where
  pub acts : List Act
  pub leave : List Act
  pub gains : GainsUpTo past (acts ++ leave) past'
  pub departs : Departs (is_in true acts) past'.lacked leave
  pub wrote : WroteFront fault written (says interested acts) written'
  pub cause : BreaksBy fault old source acts
