-- The parts of a turn, one after another.
use Rattle.std.proofs.Common.{◌≡◌, ◌≢◌, ℕ, List, [], ◌∷◌, ◌++◌, map, Bool, true, false, Option, Some, None, refl, sym, ap, subst, ◌∙◌}
use Rattle.std.proofs.Common.{append_assoc, inl, inr, ◌⊎◌, arith}
use Rattle.std.specs.Prelude.{◌||◌}
use Rattle.std.specs.List.{list_any}
use Rattle.std.proofs.lemmas.List.{append-nil}
use Rattle.bt_wire.specs.declared.message.Message.{Message}
use Rattle.bt_wire.specs.declared.message.Message.TheVariants as messages
use Rattle.bt_history.specs.declared.event.Action.{Action}
use Rattle.bt_history.specs.declared.call.Reply.TheVariants as replies
use Rattle.bt_peer.specs.declared.fault.SessionFault.{SessionFault}
use Rattle.bt_peer.specs.declared.fault.SessionFault.TheVariants as faults
use Rattle.bt_peer.specs.Acts.{Act, Called, News, is_refused_call}
use Rattle.bt_peer.specs.SessionTerms.{TermsState, pieces_of, most_next}
use Rattle.bt_peer.specs.Turns.{call_of, Opens, Attends, IsTurn, BeginsTurn, IsAcceptable, NoneRefused, IsLater}
use Rattle.bt_peer.specs.Outlets.{Outlet, PerformsUpTo, EndsCalls}
use Rattle.bt_peer.specs.Steps.{StopsOpening, StopsTurn}
use Rattle.bt_peer.specs.Parts.{AskingDone, AskingStops, MessageStops, NewsDone, NewsStops, OpeningDone, OpeningStops, TurnDone, TurnStops}
use Rattle.bt_peer.proofs.Stretches.{Performs-join, Performs-stops, WritesUpTo-none, Gains-none, up_to}
use Rattle.bt_peer.proofs.Asking.{asks_some, ends_cut}

or_false : (a b c : Bool) → (a || b) ≡ false → (b ≡ false → c ≡ false) → (a || c) ≡ false
or_false true b c p f = p
or_false false b c p f = f p

none_refused-append : (es fs : List Act) → NoneRefused es → NoneRefused fs → NoneRefused (es ++ fs)
none_refused-append [] fs p q = q
none_refused-append (e ∷ es) fs p q = or_false (is_refused_call e) (list_any is_refused_call es) (list_any is_refused_call (es ++ fs)) p
    (λ r. none_refused-append es fs r q)

none_refused-news : (news : List ℕ) → NoneRefused (map News news)
none_refused-news [] = refl
none_refused-news (piece ∷ news) = none_refused-news news

later_turn : (terms : TermsState) (m : Message) (es : List Act) → IsLater m → Attends terms m es → IsTurn terms m es
later_turn terms (messages.Hello hello) es later attends = absurd later
later_turn terms _ es later attends = attends

opens_some : (o : Option Action) → (rest : List Act) × Opens o rest
opens_some None = ([], refl)
opens_some (Some call) = (Called call replies.Idle ∷ [], (refl, refl))

stops_at_once : (fault : SessionFault) (a : Outlet) → fault ≢ faults.WriteFault → PerformsUpTo fault a [] a
stops_at_once fault a other =
    record { gains = up_to a.past a.past [] (Gains-none a.past); writes = WritesUpTo-none fault a.said other }

-- no call was made of the message
pub nothing_came : (pieces : ℕ) (m : Message) (fault : SessionFault) (a : Outlet) →
    ((fault ≡ faults.NoMemory) × IsAcceptable pieces m) ⊎ ((fault ≡ faults.BadBits) × (IsAcceptable pieces m → ⊥)) → MessageStops fault pieces m a a
nothing_came pieces m fault a cause =
    let rest = opens_some (call_of pieces m) in
    elim cause [
      | inl memory ↦ subst (λ (f : SessionFault). MessageStops f pieces m a a) (sym memory.0) (record {
        acts = [];
        stops = (memory.1, (rest.0, (rest.1, refl)));
        performs = stops_at_once faults.NoMemory a (λ is. cc);
      })
      | inr bad ↦ subst (λ (f : SessionFault). MessageStops f pieces m a a) (sym bad.0) (record {
        acts = [];
        stops = (bad.1, refl);
        performs = stops_at_once faults.BadBits a (λ is. cc);
      })
    ]

stops_opening : (fault : SessionFault) (pieces : ℕ) (m : Message) (es rest : List Act) → IsAcceptable pieces m →
    Opens (call_of pieces m) (es ++ rest) → EndsCalls fault es → StopsOpening fault pieces m es
stops_opening faults.BadBits pieces m es rest acceptable opens ends = absurd ends
stops_opening _ pieces m es rest acceptable opens ends = (acceptable, (rest, (opens, ends)))

-- a call's stop is a stop of the opening
pub opened_stops : (fault : SessionFault) (pieces : ℕ) (m : Message) (o : Option Action) (a b : Outlet) → call_of pieces m ≡ o → IsAcceptable pieces m →
    OpeningStops fault o a b → MessageStops fault pieces m a b
opened_stops fault pieces m o a b is acceptable h =
    let opens = subst (λ (call : Option Action). Opens call (h.acts ++ h.rest)) (sym is) h.opens in
    record { acts = h.acts; stops = stops_opening fault pieces m h.acts h.rest acceptable opens h.ends; performs = h.performs }

pub ends_after : (fault : SessionFault) (es fs : List Act) → NoneRefused es → EndsCalls fault fs → EndsCalls fault (es ++ fs)
ends_after (faults.Refused reason) es fs none h =
    let ends = h.1 in (
      h.0,
      record {
        before = es ++ ends.before;
        accepted = none_refused-append es ends.before none ends.accepted;
        refused = ends.refused;
        last = ap (λ (xs : List Act). es ++ xs) ends.last ∙ sym (append_assoc es ends.before (Called h.0 (replies.Refused reason) ∷ []));
      },
    )
ends_after faults.WriteFault es fs none h = none_refused-append es fs none h
ends_after faults.NoMemory es fs none h = none_refused-append es fs none h
ends_after _ es fs none h = absurd h

-- a whole turn
pub turn_done : (terms : TermsState) (m : Message) (a b c d : Outlet) → IsLater m → IsAcceptable (pieces_of terms) m →
    OpeningDone (call_of (pieces_of terms) m) a b → NewsDone (pieces_of terms) b c → AskingDone (most_next terms) c d → TurnDone terms m a d
turn_done terms m a b c d later acceptable opened told asked =
    let front = opened.acts ++ map News told.news in
    let does_front = Performs-join a b c opened.acts (map News told.news) opened.performs told.performs in
    let attends : Attends terms m (front ++ asked.acts) = record {
      acceptable = acceptable;
      opening = opened.acts;
      news = told.news;
      asking = asked.acts;
      opens = opened.opens;
      few = told.few;
      asks = asked.asks;
      parts = refl;
    } in
    record {
      acts = front ++ asked.acts;
      turn = later_turn terms m (front ++ asked.acts) later attends;
      accepted = none_refused-append front asked.acts
          (none_refused-append opened.acts (map News told.news) opened.accepted (none_refused-news told.news)) asked.accepted;
      news = record {
        opening = opened.acts;
        news = told.news;
        asking = asked.acts;
        parts = refl;
        mid = c.past;
        before = does_front.gains;
        after = asked.performs.gains;
        told = told.told;
      };
      performs = Performs-join a c d front asked.acts does_front asked.performs;
    }

stops_turn : (fault : SessionFault) (terms : TermsState) (m : Message) (es : List Act) → BeginsTurn terms m es → EndsCalls fault es →
    StopsTurn fault terms m es
stops_turn faults.BadBits terms m es begins ends = absurd ends
stops_turn _ terms m es begins ends = (begins, ends)

opening_begins : (terms : TermsState) (m : Message) (es rest : List Act) → IsLater m → IsAcceptable (pieces_of terms) m →
    Opens (call_of (pieces_of terms) m) (es ++ rest) →
    BeginsTurn terms m es
opening_begins terms m es rest later acceptable opens =
    let idle = asks_some (most_next terms) in
    let all = es ++ rest in
    let same : es ++ (rest ++ idle.0) ≡ all ++ [] ++ idle.0 =
    sym (append_assoc es rest idle.0) ∙ ap (λ (xs : List Act). xs ++ idle.0) (sym (append-nil all)) in
    let attends : Attends terms m (es ++ (rest ++ idle.0)) = record {
      acceptable = acceptable;
      opening = all;
      news = [];
      asking = idle.0;
      opens = opens;
      few = omega arith;
      asks = idle.1;
      parts = same;
    } in
    (rest ++ idle.0, later_turn terms m (es ++ (rest ++ idle.0)) later attends)

opening_stopped : (fault : SessionFault) (terms : TermsState) (m : Message) (es : List Act) → IsLater m →
    StopsOpening fault (pieces_of terms) m es →
    StopsTurn fault terms m es
opening_stopped faults.BadBits terms m es later stops = stops
opening_stopped _ terms m es later stops = (opening_begins terms m es stops.1.0 later stops.0 stops.1.1.0, stops.1.1.1)

-- the opening stopped
pub turn_stops_open : (fault : SessionFault) (terms : TermsState) (m : Message) (a b : Outlet) → IsLater m →
    MessageStops fault (pieces_of terms) m a b → TurnStops fault terms m a b
turn_stops_open fault terms m a b later h =
    record { acts = h.acts; stops = opening_stopped fault terms m h.acts later h.stops; performs = h.performs }

-- news were cut off
pub turn_stops_news : (fault : SessionFault) (terms : TermsState) (m : Message) (a b c : Outlet) → IsLater m → IsAcceptable (pieces_of terms) m →
    OpeningDone (call_of (pieces_of terms) m) a b → NewsStops fault (pieces_of terms) b c → TurnStops fault terms m a c
turn_stops_news fault terms m a b c later acceptable opened told =
    let idle = asks_some (most_next terms) in
    let front = opened.acts ++ map News told.news in
    let attends : Attends terms m (front ++ idle.0) = record {
      acceptable = acceptable;
      opening = opened.acts;
      news = told.news;
      asking = idle.0;
      opens = opened.opens;
      few = told.few;
      asks = idle.1;
      parts = refl;
    } in
    let none = none_refused-append opened.acts (map News told.news) opened.accepted (none_refused-news told.news) in
    record {
      acts = front;
      stops = stops_turn fault terms m front (idle.0, later_turn terms m (front ++ idle.0) later attends) (ends_cut fault front told.cut none);
      performs = Performs-stops fault a b c opened.acts (map News told.news) opened.performs told.performs;
    }

-- a Next call stopped
pub turn_stops_ask : (fault : SessionFault) (terms : TermsState) (m : Message) (a b c d : Outlet) → IsLater m → IsAcceptable (pieces_of terms) m →
    OpeningDone (call_of (pieces_of terms) m) a b → NewsDone (pieces_of terms) b c → AskingStops fault (most_next terms) c d → TurnStops fault terms m a d
turn_stops_ask fault terms m a b c d later acceptable opened told asked =
    let front = opened.acts ++ map News told.news in
    let does_front = Performs-join a b c opened.acts (map News told.news) opened.performs told.performs in
    let none = none_refused-append opened.acts (map News told.news) opened.accepted (none_refused-news told.news) in
    let acts = front ++ asked.acts in
    let attends : Attends terms m (acts ++ asked.rest) = record {
      acceptable = acceptable;
      opening = opened.acts;
      news = told.news;
      asking = asked.acts ++ asked.rest;
      opens = opened.opens;
      few = told.few;
      asks = asked.asks;
      parts = append_assoc front asked.acts asked.rest;
    } in
    record {
      acts = acts;
      stops = stops_turn fault terms m acts (asked.rest, later_turn terms m (acts ++ asked.rest) later attends)
          (ends_after fault front asked.acts none asked.ends);
      performs = Performs-stops fault a c d front asked.acts does_front asked.performs;
    }
