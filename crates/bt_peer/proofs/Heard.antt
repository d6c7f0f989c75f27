-- Reading piece by piece.
use Rattle.bt_wire.specs.declared.message.Message.{Message}
use Rattle.bt_wire.specs.declared.message.Message.TheVariants as messages
use Rattle.std.proofs.Common.{Bool, true, false, ◌≤◌, length, length-append, ◌≡◌, ℕ, ◌+◌, List, [], ◌∷◌, ◌++◌, Option, Some, None}
use Rattle.std.proofs.Common.{refl, sym, ap, subst, ◌∙◌, append_assoc, arith, Ok, Err, inl}
use Rattle.std.proofs.lemmas.List.{append-nil}
use Rattle.std.specs.Io.KnownBytes.{Consumes}
use Rattle.bt_wire.specs.Stream.{InboundState, Gives, Spells}
use Rattle.bt_peer.specs.declared.fault.SessionFault.TheVariants as faults
use Rattle.bt_peer.specs.declared.fault.SessionFault.{SessionFault}
use Rattle.bt_peer.specs.Hearing.{Hearing, HearsNext, ReadsOn, StaysCounted, StopsReading}
use Rattle.bt_peer.specs.Reader.{fed, Hears, IsStuck, SourceState, StopsHearing}
use Rattle.bt_peer.specs.Turns.{IsLater}

pub Consumes-join : (a b c : Option (List ℕ)) (xs ys : List ℕ) → Consumes a b xs → Consumes b c ys → Consumes a c (xs ++ ys)
Consumes-join None b c xs ys p q = tt
Consumes-join (Some us) None c xs ys p q = absurd p
Consumes-join (Some us) (Some vs) None xs ys p q = absurd q
Consumes-join (Some us) (Some vs) (Some ws) xs ys p q = p ∙ ap (λ (zs : List ℕ). xs ++ zs) q ∙ sym (append_assoc xs ys ws)

-- bytes were read and fed
pub record BytesRead (old new : Option (List ℕ)) (held held' : InboundState) : Type 0 where
  pub read : List ℕ
  pub consumed : Consumes old new read
  pub now : held' ≡ fed held read

pub fed-none : (held : InboundState) → fed held [] ≡ held
fed-none held = ap (λ (xs : List ℕ). record held { bytes = xs }) (append-nil held.bytes)

-- so many bytes, and no more: none
nothing : (xs : List ℕ) → length xs ≡ 0 → xs ≡ []
nothing [] none = refl
nothing (x ∷ xs) some = absurd (omega (arith, some))

-- why a read gave nothing is why no message came
stops : (fault : SessionFault) (stream : InboundState) (source : SourceState) → IsStuck stream → StopsReading fault source →
    StopsHearing fault stream source
stops faults.NoMemory stream source stuck why = tt
stops faults.ReadFault stream source stuck why = (stuck, inl why)
stops _ stream source stuck why = absurd why

-- after some reads, with no message among what they gave
pub record Waits (old now : Hearing) : Type 0 where
  pub reading : BytesRead old.source.left now.source.left old.stream now.stream
  pub stuck : IsStuck now.stream
  pub counted : StaysCounted old now

-- the same, of a stream that has just been asked for a message
pub waits_at : (old now : Hearing) (asked : InboundState) → BytesRead old.source.left now.source.left old.stream asked →
    (now.stream ≡ asked) × IsStuck asked → StaysCounted old now → Waits old now
waits_at old now asked reading same counted = record {
  reading = record { read = reading.read; consumed = reading.consumed; now = same.0 ∙ reading.now };
  stuck = subst IsStuck (sym same.0) same.1;
  counted = counted;
}

-- what was fed, when one more read gave nothing
module _ (old now new : Hearing) (waits : Waits old now) (read : List ℕ) (consumed : Consumes now.source.left new.source.left read)
    (same : new.stream ≡ fed now.stream read) (none : read ≡ []) where
  abbrev all : List ℕ
  all = waits.reading.read ++ read

  all_consumed : Consumes old.source.left new.source.left all
  all_consumed = Consumes-join _ _ _ _ _ waits.reading.consumed consumed

  as_fed : now.stream ≡ fed old.stream all
  as_fed = waits.reading.now ∙ ap (fed old.stream) (sym (append-nil waits.reading.read) ∙ ap (λ (xs : List ℕ). waits.reading.read ++ xs) (sym none))

  unchanged : new.stream ≡ now.stream
  unchanged = same ∙ ap (fed now.stream) none ∙ fed-none now.stream

-- the source has ended
pub ended : (old now new : Hearing) → Waits old now → now.source.failed ≡ old.source.failed → ReadsOn (Ok 0) now new → HearsNext (Ok None) old new
ended old now new waits sound reads =
    let none : reads.read ≡ [] = nothing reads.read reads.few.0 in
    let same : new.stream ≡ now.stream = unchanged old now new waits reads.read reads.consumed reads.now none in
    record {
      message = tt;
      end = record {
        read = waits.reading.read ++ reads.read;
        consumed = all_consumed old now new waits reads.read reads.consumed reads.now none;
        held = same ∙ as_fed old now new waits reads.read reads.consumed reads.now none;
        stuck = subst IsStuck (sym same) waits.stuck;
        ended = (reads.at_end refl).0;
        at_end = (reads.at_end refl).1;
      };
      fault = tt;
      few = tt;
      sound = reads.sound ∙ sound;
      counted = λ same. reads.counted (waits.counted same);
    }

-- a read failed, or there was no memory for it
pub stopped : (old now new : Hearing) (fault : SessionFault) → Waits old now → ReadsOn (Err fault) now new → HearsNext (Err fault) old new
stopped old now new fault waits reads = record {
  message = tt;
  end = tt;
  fault = record {
    read = waits.reading.read ++ reads.read;
    consumed = all_consumed old now new waits reads.read reads.consumed reads.now reads.few;
    cause = stops fault _ new.source (subst IsStuck (as_fed old now new waits reads.read reads.consumed reads.now reads.few) waits.stuck) reads.cause;
  };
  few = tt;
  sound = tt;
  counted = λ same. reads.counted (waits.counted same);
}
