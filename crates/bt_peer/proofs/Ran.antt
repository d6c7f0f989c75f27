-- What a whole session's run says of its end, or of its fault.
use Rattle.std.proofs.Common.{◌≡◌, ◌≤◌, ℕ, true, Result, Ok, Err, sym, subst}
use Rattle.std.specs.Prelude.{IfOk, IfErr, OnOk}
use Rattle.rand_core.specs.Stream.{Stream as Numbers}
use Rattle.bt_peer.specs.declared.fault.End.{End}
use Rattle.bt_peer.specs.declared.fault.SessionFault.{SessionFault}
use Rattle.bt_peer.specs.declared.fault.SessionFault.TheVariants as faults
use Rattle.bt_peer.specs.Reader.{most_reads}
use Rattle.bt_peer.specs.Places.{PlaceRecord}
use Rattle.bt_peer.specs.Serial.{StreamRecord, DevicesAfter, source_of}
use Rattle.bt_peer.specs.Sessions.{IsCutShort, IsWhole}
use Rattle.bt_peer.specs.Outcomes.{RunsTo, around_place}
use Rattle.bt_peer.specs.SessionTerms.{TermsState}

module _ (terms : TermsState) (worker : ℕ) (generator : Numbers) (past : PlaceRecord) (old : StreamRecord)
    (past' : PlaceRecord) (new : StreamRecord) where
  pub ran_whole : (outcome : Result End SessionFault) → RunsTo outcome terms worker generator past old past' new →
      IfOk outcome (λ end. IsWhole end terms worker (around_place past old) (around_place past' new))
  ran_whole (Ok end) runs = runs.ends
  ran_whole (Err fault) runs = tt

  pub ran_out : (outcome : Result End SessionFault) → RunsTo outcome terms worker generator past old past' new → OnOk outcome (new.ended ≡ true)
  ran_out (Ok end) runs = runs.devices.0
  ran_out (Err fault) runs = tt

  pub ran_short : (outcome : Result End SessionFault) → RunsTo outcome terms worker generator past old past' new →
      IfErr outcome (λ fault. (reads : ℕ) × ((old.reads ≡ 0 → new.reads ≡ reads)
      × IsCutShort fault terms worker (around_place past old) (source_of new reads) (around_place past' new)))
  ran_short (Ok end) runs = tt
  ran_short (Err fault) runs = (runs.reads, (runs.counted, runs.ends))

  pub ran_failing : (outcome : Result End SessionFault) → RunsTo outcome terms worker generator past old past' new →
      IfErr outcome (λ fault. fault ≡ faults.WriteFault → new.writer_failed ≡ true)
  ran_failing (Ok end) runs = tt
  ran_failing (Err fault) runs = λ is. subst (λ (f : SessionFault). DevicesAfter (Err f) old new) is runs.devices

  pub ran_reads : (outcome : Result End SessionFault) → RunsTo outcome terms worker generator past old past' new → old.reads ≡ 0 →
      new.reads ≤ most_reads
  ran_reads outcome runs none = subst (λ (n : ℕ). n ≤ most_reads) (sym (runs.counted none)) runs.most
