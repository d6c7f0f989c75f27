-- How a whole session went: from what was round it at its first turn to what is round it at its end or its fault.
use Rattle.std.specs.Prelude.{◌≡◌, ◌≤◌, ℕ, Bool, List, Option, Result}
use Rattle.rand_core.specs.Stream.{Stream as Numbers}
use Rattle.bt_peer.specs.declared.fault.End.{End}
use Rattle.bt_peer.specs.declared.fault.SessionFault.{SessionFault}
use Rattle.bt_peer.specs.Conduct.{DrawsNumbers}
use Rattle.bt_peer.specs.Reader.{most_reads}
use Rattle.bt_peer.specs.Places.{PlaceRecord}
use Rattle.bt_peer.specs.Serial.{StreamRecord, EndsAs, DevicesAfter, source_of, stream_record}
use Rattle.bt_peer.specs.SessionTerms.{TermsState}
use Rattle.bt_peer.specs.Steps.{Surroundings}

-- what a reader and a writer say of themselves
abbrev pub devices_record : {R W : Type 0} → (R → Option (List ℕ)) → (R → Bool) → (R → Bool) → (R → ℕ) → (W → Option (List ℕ)) → (W → Bool) →
    R → W → StreamRecord
devices_record {R} {W} left ended failed reads written writer_failed reader writer =
    stream_record left ended failed reads written writer_failed (record { reader = reader; writer = writer })

-- what is round a session with this place and these devices
abbrev pub around_place : PlaceRecord → StreamRecord → Surroundings
around_place past devices = record { past = past; left = devices.left; written = devices.written }

-- A session ran from its first turn to this end, or to this fault: from this place and these devices, and with the numbers of this generator,
-- to those.
pub record RunsTo (outcome : Result End SessionFault) (terms : TermsState) (worker : ℕ) (generator : Numbers)
    (past : PlaceRecord) (old : StreamRecord) (past' : PlaceRecord) (new : StreamRecord) : Type 0 where
  -- the reads that the session counted
  pub reads : ℕ
  pub ends : EndsAs outcome terms worker (around_place past old) (source_of new reads) (around_place past' new)
  -- the numbers of its Next calls are the generator's, in order
  pub numbers : DrawsNumbers generator past.calls past'.calls
  pub devices : DevicesAfter outcome old new
  pub counted : old.reads ≡ 0 → new.reads ≡ reads
  pub most : reads ≤ most_reads
