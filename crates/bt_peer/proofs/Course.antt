-- The course of a session goes on while others take their turns.
use Rattle.std.proofs.Common.{◌≡◌, ◌≢◌, ℕ, Bool, false, List, [], ◌∷◌, ◌++◌, Option, Some, None, Result, Ok, Err, refl, sym, subst, ◌∙◌, inl, inr}
use Rattle.std.proofs.lemmas.List.{append-nil}
use Rattle.std.specs.Io.KnownBytes.{Appends, Consumes, IsAtEnd}
use Rattle.bt_picker.specs.Positions.{DeskState}
use Rattle.bt_peer.specs.declared.fault.End.{End}
use Rattle.bt_peer.specs.declared.fault.SessionFault.{SessionFault}
use Rattle.rand_core.specs.Stream.{Stream as Numbers}
use Rattle.bt_peer.specs.Conduct.{Calls}
use Rattle.bt_peer.specs.Acts.{Act, is_in}
use Rattle.bt_peer.specs.Reader.{SourceState}
use Rattle.bt_peer.specs.Places.{PlaceRecord, Gains, GainsUpTo}
use Rattle.bt_peer.specs.Outlets.{WroteFront}
use Rattle.bt_peer.specs.Serial.{StreamRecord, EndsAs, around, source_of}
use Rattle.bt_peer.specs.Sessions.{SessionState, FailsWith, IsWhole, IsUntouched, TookTurns, Running}
use Rattle.bt_peer.specs.Course.{Course, SessionBy, ConductBy, Keeps, LeavesOthers}
use Rattle.bt_peer.specs.SessionTerms.{TermsState, pieces_of}
use Rattle.bt_peer.specs.Steps.{Surroundings, Departs}
use Rattle.bt_peer.proofs.Asked.{asked_later}
use Rattle.bt_peer.proofs.Stretches.{GainsUpTo-join, Gains-join}

-- nothing of a session's own happened, though a piece may have been had meanwhile
pub record HasIdled (old new : Surroundings) : Type 0 where
  pub left : new.left ≡ old.left
  pub gains : Gains old.past [] new.past
  pub written : new.written ≡ old.written

gains_later : (first : PlaceRecord) (acts : List Act) (old new : PlaceRecord) → Gains first acts old → Gains old [] new → Gains first acts new
gains_later first acts old new gains later =
    subst (λ (es : List Act). Gains first es new) (append-nil acts) (Gains-join first old new acts [] gains later)

up_to_later : (first : PlaceRecord) (acts : List Act) (old new : PlaceRecord) → GainsUpTo first acts old → Gains old [] new →
    GainsUpTo first acts new
up_to_later first acts old new gains later =
    subst (λ (es : List Act). GainsUpTo first es new) (append-nil acts) (GainsUpTo-join first old new acts [] gains later.up_to)

appends_later : (a b c : Option (List ℕ)) (bytes : List ℕ) → c ≡ b → Appends a b bytes → Appends a c bytes
appends_later a b c bytes same wrote = subst (λ (written : Option (List ℕ)). Appends a written bytes) (sym same) wrote

front_later : (fault : SessionFault) (a b c : Option (List ℕ)) (bytes : List ℕ) → c ≡ b → WroteFront fault a bytes b → WroteFront fault a bytes c
front_later fault a b c bytes same wrote = subst (WroteFront fault a bytes) (sym same) wrote

untouched_later : (terms : TermsState) (worker : ℕ) (out : Surroundings) (now : SessionState) (old new : Surroundings) → HasIdled old new →
    IsUntouched terms worker out now old → IsUntouched terms worker out now new
untouched_later terms worker out now old new later fresh = record {
  state = fresh.state;
  left = later.left ∙ fresh.left;
  gains = gains_later out.past [] old.past new.past fresh.gains later.gains;
  written = later.written ∙ fresh.written;
}

took_later : (terms : TermsState) (worker : ℕ) (out : Surroundings) (now : SessionState) (old new : Surroundings) → HasIdled old new →
    TookTurns terms worker out now old → TookTurns terms worker out now new
took_later terms worker out now old new later took = record {
  first = took.first;
  text = took.text;
  read = took.read;
  messages = took.messages;
  acts = took.acts;
  spells = took.spells;
  same_torrent = took.same_torrent;
  consumed = subst (λ (left : Option (List ℕ)). Consumes out.left left (took.text ++ took.read)) (sym later.left) took.consumed;
  begins = took.begins;
  counted = took.counted;
  turned = took.turned;
  gains = gains_later out.past took.acts old.past new.past took.gains later.gains;
  news = asked_later (pieces_of terms) (took.first ∷ took.messages) out.past old.past new.past took.acts took.news later.gains;
  wrote = appends_later _ _ _ _ later.written took.wrote;
  interest = took.interest;
  terms_are = took.terms_are;
  limit = took.limit;
  greeted = took.greeted;
  joined = took.joined;
  unended = took.unended;
}

-- a session that runs on, one that came to its end, and one that a fault cut short (`session_later` goes through the three)
running_later : (terms : TermsState) (worker : ℕ) (out : Surroundings) (now : SessionState) (old new : Surroundings) → HasIdled old new →
    Running terms worker out now old → Running terms worker out now new
running_later terms worker out now old new later running =
    elim running [
      | inl fresh ↦ inl (untouched_later terms worker out now old new later fresh)
      | inr took ↦ inr (took_later terms worker out now old new later took)
    ]

whole_later : (end : End) (terms : TermsState) (worker : ℕ) (out old new : Surroundings) → HasIdled old new →
    IsWhole end terms worker out old → IsWhole end terms worker out new
whole_later end terms worker out old new later whole = record {
  read = whole.read;
  messages = whole.messages;
  acts = whole.acts;
  consumed = subst (λ (left : Option (List ℕ)). Consumes out.left left whole.read) (sym later.left) whole.consumed;
  at_end = subst IsAtEnd (sym later.left) whole.at_end;
  stream = whole.stream;
  same_torrent = whole.same_torrent;
  counted = whole.counted;
  turns = whole.turns;
  gains = gains_later out.past whole.acts old.past new.past whole.gains later.gains;
  news = record {
    turns = whole.news.turns;
    mid = whole.news.mid;
    tells = whole.news.tells;
    leaves = gains_later whole.news.mid _ old.past new.past whole.news.leaves later.gains;
    parts = whole.news.parts;
  };
  wrote = appends_later _ _ _ _ later.written whole.wrote;
}

fails_later : (fault : SessionFault) (state : SessionState) (out : Surroundings) (source : SourceState) (last : SessionState)
    (old new : Surroundings) →
    HasIdled old new → FailsWith fault state out source last old → FailsWith fault state out source last new
fails_later fault state out source last old new later fails = record {
  acts = fails.acts;
  leave = fails.leave;
  gains = up_to_later out.past (fails.acts ++ fails.leave) old.past new.past fails.gains later.gains;
  departs = subst (λ (lacked : Bool). Departs (is_in state.joined fails.acts) lacked fails.leave) (sym later.gains.lacked) fails.departs;
  wrote = front_later fault _ _ _ _ later.written fails.wrote;
  cause = fails.cause;
  outcome = fails.outcome;
}

ends_later : (outcome : Result End SessionFault) (terms : TermsState) (worker : ℕ) (out : Surroundings) (source : SourceState)
    (old new : Surroundings) →
    HasIdled old new → EndsAs outcome terms worker out source old → EndsAs outcome terms worker out source new
ends_later (Ok end) terms worker out source old new later whole = whole_later end terms worker out old new later whole
ends_later (Err fault) terms worker out source old new later cut = record {
  now = cut.now;
  mid = cut.mid;
  new = cut.new;
  turns = cut.turns;
  fails = fails_later fault cut.now cut.mid source cut.new old new later cut.fails;
}

pub session_later : (outcome : Option (Result End SessionFault)) (terms : TermsState) (worker : ℕ) (out : Surroundings) (now : SessionState)
    (source : SourceState) (lacked : Bool) (old new : Bool → Surroundings) → ((lacked : Bool) → HasIdled (old lacked) (new lacked)) →
    SessionBy outcome terms worker out now source (old false) (old lacked) → SessionBy outcome terms worker out now source (new false) (new lacked)
session_later None terms worker out now source lacked old new later course =
    running_later terms worker out now (old false) (new false) (later false) course
session_later (Some outcome) terms worker out now source lacked old new later course =
    ends_later outcome terms worker out source (old lacked) (new lacked) (later lacked) course

-- while another worker takes a turn
pub others_keep : (worker other : ℕ) (old new : DeskState) (session : SessionState) (told : List Bool) (stream : StreamRecord)
    (lacked : Bool) (generator : Numbers) →
    LeavesOthers worker old new → other ≢ worker →
    Keeps other (record { desk = old; session = session; told = told; stream = stream; lacked = lacked; generator = generator })
    (record { desk = new; session = session; told = told; stream = stream; lacked = lacked; generator = generator })
others_keep worker other old new session told stream lacked generator left apart =
    let later : (lacked : Bool) → HasIdled (around old other told lacked stream) (around new other told lacked stream) =
    λ lacked. record {
      left = refl;
      gains = record {
        up_to = record {
          lent = refl;
          worker = refl;
          setting = left.setting;
          calls = left.calls other apart ∙ sym (append-nil _);
          others = λ j. refl;
          had = left.had;
          in_order = ([], refl);
          told = λ piece. refl;
          finished = tt;
        };
        lacked = refl;
      };
      written = refl;
    } in
    record {
      still = λ terms. λ begun. λ out. λ first. λ course. record {
        session = session_later session.outcome terms other out session (source_of stream session.reads) lacked
            (λ lacked. around old other told lacked stream) (λ lacked. around new other told lacked stream) later course.session;
        conduct = subst (λ (calls : Calls). ConductBy session.outcome begun out.past.calls calls generator) (sym (left.calls other apart))
            course.conduct;
        devices = course.devices;
        counted = course.counted;
        most = course.most;
      };
    }

pub Keeps-refl : (worker : ℕ) (now : Course) → Keeps worker now now
Keeps-refl worker now = record { still = λ terms. λ generator. λ out. λ first. λ course. course }

pub Keeps-join : (worker : ℕ) (a b c : Course) → Keeps worker a b → Keeps worker b c → Keeps worker a c
Keeps-join worker a b c first then =
    record {
      still = λ terms. λ generator. λ out. λ stream. λ course.
          then.still terms generator out stream (first.still terms generator out stream course);
    }
