-- The course of a session goes on by turns of its own.
use Rattle.std.proofs.Common.{◌≡◌, ◌≤◌, ℕ, Bool, true, false, List, Option, Some, None, Result, Ok, Err, refl, sym, subst, ◌∙◌}
use Rattle.std.specs.Prelude.{IfOk, IfErr, IfSome, IfNone, OnOk, OnErr}
use Rattle.std.specs.Borrow.{GName}
use Rattle.bt_picker.specs.Positions.{DeskState}
use Rattle.bt_peer.specs.declared.fault.End.{End}
use Rattle.bt_peer.specs.declared.fault.SessionFault.{SessionFault}
use Rattle.bt_peer.specs.declared.fault.SessionFault.TheVariants as faults
use Rattle.rand_core.specs.Stream.{Stream as Numbers}
use Rattle.bt_peer.specs.Conduct.{Conducts, DrawsNumbers}
use Rattle.bt_peer.specs.Desks.{calls_in, desk_record}
use Rattle.bt_peer.specs.Acts.{Act}
use Rattle.bt_peer.specs.Reader.{most_reads}
use Rattle.bt_peer.specs.Places.{PlaceRecord, GainsUpTo}
use Rattle.bt_peer.specs.Serial.{StreamRecord, DevicesAfter, around, source_of}
use Rattle.bt_peer.specs.Sessions.{SessionState, GoesOn, Ends, FailsWith, Running}
use Rattle.bt_peer.specs.Course.{Course, IsCourse, SessionBy, ConductBy, DevicesBy, Keeps, LeavesOthers, NotesPieces}
use Rattle.bt_peer.specs.declared.seat.Seat.{Seat}
use Rattle.bt_peer.specs.SessionTerms.{TermsState}
use Rattle.bt_peer.specs.Steps.{Surroundings}
use Rattle.bt_peer.proofs.Conduct.{Conducts-join, DrawsNumbers-join}
use Rattle.bt_peer.proofs.Own.{others_left, own_goes_on, own_ends, own_fails}
use Rattle.bt_peer.proofs.Runs.{running_on, running_ends, running_fails}

-- what a turn of a session's own leaves: its state, the place's record, and its stream
pub record AfterTurn : Type 0 where
  pub session : SessionState
  pub place : PlaceRecord
  pub stream : StreamRecord
  pub generator : Numbers

abbrev pub around_turn : AfterTurn → Surroundings
around_turn now = record { past = now.place; left = now.stream.left; written = now.stream.written }

-- what the contract of a turn says, for whichever answer
pub record Turned (result : Result (Option End) SessionFault) (old new : AfterTurn) : Type 0 where
  pub goes_on : IfOk result (λ o. IfNone o (GoesOn old.session (around_turn old) new.session (around_turn new)))
  pub ends : old.session.outcome ≡ None → IfOk result
      (λ o. IfSome o (λ end. Ends end old.session (around_turn old) new.stream.ended new.session (around_turn new)))
  pub fails : old.session.outcome ≡ None →
      IfErr result (λ fault. FailsWith fault old.session (around_turn old) (source_of new.stream new.session.reads) new.session (around_turn new))
  pub conduct : OnOk result (Conducts true old.generator old.place.calls new.place.calls new.generator)
  pub numbers : OnErr result (DrawsNumbers old.generator old.place.calls new.place.calls)
  pub counted : old.stream.reads ≡ old.session.reads → new.stream.reads ≡ new.session.reads
  pub most : new.session.reads ≤ most_reads
  pub sound : IfOk result (λ o. (new.stream.failed ≡ old.stream.failed) × (new.stream.writer_failed ≡ old.stream.writer_failed))
  pub failed : old.session.outcome ≡ None → IfErr result (λ fault. fault ≡ faults.WriteFault → new.stream.writer_failed ≡ true)

-- what a turn gained
pub turn_gains : (result : Result (Option End) SessionFault) (old new : AfterTurn) → old.session.outcome ≡ None → Turned result old new →
    (acts : List Act) × GainsUpTo old.place acts new.place
turn_gains (Ok None) old new runs turned = (turned.goes_on.turn.acts, turned.goes_on.turn.gains.up_to)
turn_gains (Ok (Some end)) old new runs turned = (_, (turned.ends runs).leave.gains.up_to)
turn_gains (Err fault) old new runs turned = (_, (turned.fails runs).gains)

-- how far a session came that runs
record SoFar (terms : TermsState) (worker : ℕ) (begun : Numbers) (out : Surroundings) (first : StreamRecord) (now : Course) : Type 0 where
  running : Running terms worker out now.session (around now.desk worker now.told false now.stream)
  conduct : Conducts true begun out.past.calls (calls_in now.desk.history worker) now.generator
  failed : now.stream.failed ≡ first.failed
  writer_failed : now.stream.writer_failed ≡ first.writer_failed

-- a session at a desk, by how it ended
abbrev SessionAs : Option (Result End SessionFault) → TermsState → ℕ → Surroundings → Course → Type 0
SessionAs outcome terms worker out now = SessionBy outcome terms worker out now.session (source_of now.stream now.session.reads)
    (around now.desk worker now.told false now.stream) (around now.desk worker now.told now.lacked now.stream)

abbrev ConductAs : Option (Result End SessionFault) → ℕ → Numbers → Surroundings → Course → Type 0
ConductAs outcome worker begun out now = ConductBy outcome begun out.past.calls (calls_in now.desk.history worker) now.generator

module _ (terms : TermsState) (worker : ℕ) (begun : Numbers) (out : Surroundings) (first : StreamRecord) where
  so_far : (now : Course) → now.session.outcome ≡ None → IsCourse terms worker begun out first now → SoFar terms worker begun out first now
  so_far now runs course =
      let devices = subst (λ (o : Option (Result End SessionFault)). DevicesBy o first now.stream) runs course.devices in
      record {
        running = subst (λ (o : Option (Result End SessionFault)). SessionAs o terms worker out now) runs course.session;
        conduct = subst (λ (o : Option (Result End SessionFault)). ConductAs o worker begun out now) runs course.conduct;
        failed = devices.0;
        writer_failed = devices.1;
      }

  course_as : (outcome : Option (Result End SessionFault)) (now : Course) → now.session.outcome ≡ outcome → SessionAs outcome terms worker out now →
      ConductAs outcome worker begun out now → DevicesBy outcome first now.stream → (first.reads ≡ 0 → now.stream.reads ≡ now.session.reads) →
      now.session.reads ≤ most_reads → IsCourse terms worker begun out first now
  course_as outcome now is course conduct devices counted most = record {
    session = subst (λ (o : Option (Result End SessionFault)). SessionAs o terms worker out now) (sym is) course;
    conduct = subst (λ (o : Option (Result End SessionFault)). ConductAs o worker begun out now) (sym is) conduct;
    devices = subst (λ (o : Option (Result End SessionFault)). DevicesBy o first now.stream) (sym is) devices;
    counted = counted;
    most = most;
  }

-- after a fault the writer has failed where a write did
pub devices_of : (fault : SessionFault) (old new : StreamRecord) → (fault ≡ faults.WriteFault → new.writer_failed ≡ true) →
    DevicesAfter (Err fault) old new
devices_of faults.WriteFault old new failed = failed refl
devices_of _ old new failed = tt

-- what is left at a desk
abbrev left_at : List GName → ℕ → Bool → Course → AfterTurn
left_at lent worker lacked now =
    record { session = now.session; place = desk_record lent now.desk worker now.told lacked; stream = now.stream; generator = now.generator }

-- a turn of its own
turn_keeps : (result : Result (Option End) SessionFault) (lent lent' : List GName) (worker : ℕ) (old new : Course) →
    old.session.outcome ≡ None → Turned result (left_at lent worker false old) (left_at lent' worker new.lacked new) → Keeps worker old new
turn_keeps (Ok None) lent lent' worker old new runs turned =
    let from = around old.desk worker old.told false old.stream in
    let go = own_goes_on old.session (around_turn (left_at lent worker false old)) new.session (around_turn (left_at lent' worker new.lacked new))
    turned.goes_on in
    let to = subst (λ (s : Bool). GoesOn old.session from new.session (around new.desk worker new.told s new.stream)) go.turn.gains.lacked go in
    record {
      still = λ terms. λ begun. λ out. λ first. λ course.
          let so = so_far terms worker begun out first old runs course in
          course_as terms worker begun out first None new go.unended (running_on terms worker out old.session from new.session _ so.running to)
          (Conducts-join so.conduct turned.conduct) (turned.sound.0 ∙ so.failed, turned.sound.1 ∙ so.writer_failed)
          (λ none. turned.counted (course.counted none)) turned.most;
    }
turn_keeps (Ok (Some end)) lent lent' worker old new runs turned =
    let ends = own_ends end old.session (around_turn (left_at lent worker false old)) new.stream.ended new.session
    (around_turn (left_at lent' worker new.lacked new)) (turned.ends runs) in
    record {
      still = λ terms. λ begun. λ out. λ first. λ course.
          let so = so_far terms worker begun out first old runs course in
          course_as terms worker begun out first (Some (Ok end)) new ends.outcome
          (running_ends end terms worker out old.session _ new.stream.ended new.session _ so.running (λ none. ends))
          (Conducts-join so.conduct turned.conduct) (ends.leave.hears.ended, turned.sound.0 ∙ so.failed, turned.sound.1 ∙ so.writer_failed)
          (λ none. turned.counted (course.counted none)) turned.most;
    }
turn_keeps (Err fault) lent lent' worker old new runs turned =
    let source = source_of new.stream new.session.reads in
    let fails = own_fails fault old.session (around_turn (left_at lent worker false old)) source new.session
    (around_turn (left_at lent' worker new.lacked new)) (turned.fails runs) in
    record {
      still = λ terms. λ begun. λ out. λ first. λ course.
          let so = so_far terms worker begun out first old runs course in
          course_as terms worker begun out first (Some (Err fault)) new fails.outcome
          (running_fails fault terms worker out old.session _ source new.session _ so.running (λ none. fails))
          (DrawsNumbers-join so.conduct turned.numbers) (devices_of fault first new.stream (turned.failed runs))
          (λ none. turned.counted (course.counted none)) turned.most;
    }

-- what a turn at a desk leaves
pub record TookTurn (lent lent' : List GName) (worker : ℕ) (old new : Course) : Type 0 where
  pub same_lent : lent' ≡ lent
  pub keeps : Keeps worker old new
  pub others : LeavesOthers worker old.desk new.desk

-- a turn at a place that was made for it
pub turn_at_desk : (result : Result (Option End) SessionFault) (lent lent' : List GName) (worker worker' : ℕ) (old new : Course)
    (place : PlaceRecord) →
    place ≡ desk_record lent old.desk worker old.told false → old.session.outcome ≡ None →
    Turned result (record (left_at lent worker false old) { place = place }) (left_at lent' worker' new.lacked new) →
    TookTurn lent lent' worker old new
turn_at_desk result lent lent' worker worker' old new place is runs turned =
    let first = left_at lent worker false old in
    let fresh : Turned result first (left_at lent' worker' new.lacked new) =
    subst (λ (p : PlaceRecord). Turned result (record first { place = p }) (left_at lent' worker' new.lacked new)) is turned in
    let gained : (acts : List Act) × GainsUpTo first.place acts (desk_record lent' new.desk worker' new.told new.lacked) =
    turn_gains result first (left_at lent' worker' new.lacked new) runs fresh in
    let own = subst (λ (w : ℕ). Turned result first (left_at lent' w new.lacked new)) gained.1.worker fresh in
    record {
      same_lent = gained.1.lent;
      keeps = turn_keeps result lent lent' worker old new runs own;
      others = others_left lent lent' old.desk new.desk worker worker' old.told new.told false new.lacked gained.0 gained.1;
    }

pub at_same_desk : (worker : ℕ) (old new : Course) (desk : DeskState) → desk ≡ new.desk → Keeps worker old new →
    Keeps worker old (record new { desk = desk })
at_same_desk worker old new desk same keeps =
    subst (λ (d : DeskState). Keeps worker old (record new { desk = d })) (sym same) keeps

pub notes_at_same : (desk new : DeskState) (seat : Seat) → desk ≡ new → NotesPieces new seat → NotesPieces desk seat
notes_at_same desk new seat same notes = subst (λ (d : DeskState). NotesPieces d seat) (sym same) notes
