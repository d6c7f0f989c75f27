-- Rounds of several streams' sessions.
use Rattle.std.proofs.Common.{◌≡◌, ◌≢◌, ◌<◌, ◌+◌, ◌∙◌, ℕ, Bool, true, false, List, [], ◌∷◌, ◌++◌, length-append, length, map, Some, Result, get_or}
use Rattle.std.proofs.Common.{set, length-set, sum_by, refl, sym, ap, subst, ◌==◌, arith}
use Rattle.std.specs.Prelude.{◌||◌}
use Rattle.std.specs.List.{All, AllWithin, HoldsAt}
use Rattle.std.proofs.lemmas.Bool.Decides.{nat_tests}
use Rattle.std.proofs.lemmas.Grind.{get_or-set_at}
use Rattle.std.proofs.lemmas.List.{get_or-set_other, get_or_append_left, get_or_default, get_or_push, length-map}
use Rattle.std.proofs.lemmas.List.Elements.{All-set, AllWithin-more}
use Rattle.bt_meta.specs.Layout.{piece_count}
use Rattle.bt_history.specs.Setting.{Setting}
use Rattle.bt_picker.specs.Positions.{DeskState}
use Rattle.bt_peer.specs.declared.fault.End.{End}
use Rattle.bt_peer.specs.declared.fault.SessionFault.{SessionFault}
use Rattle.bt_peer.specs.declared.seat.Seat.{Seat}
use Rattle.bt_peer.specs.Conduct.{answers_of}
use Rattle.bt_peer.specs.Serial.{StreamRecord}
use Rattle.bt_peer.specs.Course.{Course, Keeps, LeavesOthers, HasEnded, IsNew, AreNew, MayTakeTurns, NotesPieces, TookTurns, left_of, course_of}
use Rattle.bt_peer.specs.SessionTerms.{TermsState}
use Rattle.bt_history.specs.Finished.{finished}
use Rattle.bt_peer.proofs.News.{told_later}
use Rattle.bt_peer.proofs.Course.{Keeps-join, Keeps-refl, others_keep}
use Rattle.bt_peer.specs.Places.{Extends}

Keeps-same : (worker : ℕ) (old old' new new' : Course) → old' ≡ old → new' ≡ new → Keeps worker old new → Keeps worker old' new'
Keeps-same worker old old' new new' same same' keeps =
    subst (λ (a : Course). Keeps worker a new') (sym same) (subst (λ (b : Course). Keeps worker old b) (sym same') keeps)

course-same : (desk : DeskState) (seat seat' : Seat) (stream stream' : StreamRecord) → seat ≡ seat' → stream ≡ stream' →
    course_of desk seat stream ≡ course_of desk seat' stream'
course-same desk seat seat' stream stream' same same' =
    subst (λ (s : Seat). course_of desk seat stream ≡ course_of desk s stream') same (ap (λ (s : StreamRecord). course_of desk seat s) same')

-- the stream whose turn it was, or another
each_at : {X : Type 0} (record_of : X → StreamRecord) (desk new : DeskState) (seats : List Seat) (streams : List X) (i : ℕ) (seat seat' : Seat)
    (stream stream' : X) →
    i < length seats → i < length streams →
    Keeps i (course_of desk (get_or seats i seat) (record_of (get_or streams i stream))) (course_of new seat' (record_of stream')) →
    LeavesOthers i desk new →
    (same : Bool) (j : ℕ) (s : Seat) (x : X) → (j == i) ≡ same →
    Keeps j (course_of desk (get_or seats j s) (record_of (get_or streams j x)))
    (course_of new (get_or (set seats i seat') j s) (record_of (get_or (set streams i stream') j x)))
each_at record_of desk new seats streams i seat seat' stream stream' within within' keeps others true j s x test =
    let here : j ≡ i = grind (arith, nat_tests) in
    let was = get_or_default seats i s seat within in
    let was' = get_or_default streams i x stream within' in
    let now = get_or-set_at seats i i seat' s refl within in
    let now' = get_or-set_at streams i i stream' x refl within' in
    subst (λ (k : ℕ). Keeps k (course_of desk (get_or seats k s) (record_of (get_or streams k x)))
    (course_of new (get_or (set seats i seat') k s) (record_of (get_or (set streams i stream') k x))))
    (sym here)
    (Keeps-same i _ _ _ _ (course-same desk _ _ _ _ was (ap record_of was')) (course-same new _ _ _ _ now (ap record_of now')) keeps)
each_at record_of desk new seats streams i seat seat' stream stream' within within' keeps others false j s x test =
    let apart : j ≢ i = grind (arith, nat_tests) in
    let kept = get_or-set_other seats i j seat' s apart in
    let kept' = get_or-set_other streams i j stream' x apart in
    let old = get_or seats j s in
    Keeps-same j _ _ _ _ refl (course-same new _ _ _ _ kept (ap record_of kept'))
    (others_keep i j desk new old.session old.told (record_of (get_or streams j x)) old.lacked (answers_of old.rng) others apart)

-- while others take their turns
notes_later : (desk new : DeskState) (seat : Seat) → new.setting ≡ desk.setting → Extends (finished desk.history) (finished new.history) →
    NotesPieces desk seat → NotesPieces new seat
notes_later desk new seat setting more notes = record {
  count = notes.count ∙ ap (λ (s : Setting). piece_count s.torrent) (sym setting);
  told = told_later seat.told seat.seen (finished desk.history) (finished new.history) more notes.told;
}

MayTakeTurns-next : {X : Type 0} (desk new : DeskState) (seats seats' : List Seat) (streams streams' : List X) → MayTakeTurns desk seats streams →
    length seats' ≡ length seats → length streams' ≡ length streams → new.setting ≡ desk.setting →
    All (NotesPieces new) seats' → MayTakeTurns new seats' streams'
MayTakeTurns-next desk new seats seats' streams streams' may same same' setting fit = record {
  seated = same ∙ may.seated ∙ sym same';
  workers = subst (λ (s : Setting). length streams' < s.workers) (sym setting) (omega (arith, may.workers));
  few = omega (arith, may.few);
  fit = fit;
}

-- after one stream's turn
pub played_turn : {X : Type 0} (record_of : X → StreamRecord) (desk new : DeskState) (seats : List Seat) (streams : List X) (i : ℕ)
    (seat seat' : Seat) (stream stream' : X) →
    MayTakeTurns desk seats streams → i < length streams →
    Keeps i (course_of desk (get_or seats i seat) (record_of (get_or streams i stream))) (course_of new seat' (record_of stream')) →
    LeavesOthers i desk new → NotesPieces new seat' →
    TookTurns record_of desk seats streams new (set seats i seat') (set streams i stream')
played_turn record_of desk new seats streams i seat seat' stream stream' may within keeps others notes =
    let seated : i < length seats = omega (arith, may.seated) in
    let later : All (NotesPieces new) seats =
    λ j. λ any. λ below. notes_later desk new (get_or seats j any) others.setting others.in_order (may.fit j any below) in
    let fit = All-set (NotesPieces new) seats i seat' notes later in
    record {
      count = length-set streams i stream';
      keeps = λ j. λ s. λ x. λ few.
          each_at record_of desk new seats streams i seat seat' stream stream' seated within keeps others (j == i) j s x refl;
      rest = record { setting = others.setting; calls = λ other. λ above. others.calls other (omega arith) };
      may = MayTakeTurns-next desk new seats (set seats i seat') streams (set streams i stream') may (length-set seats i seat')
          (length-set streams i stream') others.setting fit;
    }

pub TookTurns-refl : {X : Type 0} (record_of : X → StreamRecord) (desk : DeskState) (seats : List Seat) (streams : List X) →
    MayTakeTurns desk seats streams →
    TookTurns record_of desk seats streams desk seats streams
TookTurns-refl record_of desk seats streams may = record {
  count = refl;
  keeps = λ j. λ s. λ x. λ few. Keeps-refl j _;
  rest = record { setting = refl; calls = λ other. λ above. refl };
  may = may;
}

pub TookTurns-join : {X : Type 0} (record_of : X → StreamRecord) (a b c : DeskState) (seats seats' seats'' : List Seat)
    (streams streams' streams'' : List X) →
    TookTurns record_of a seats streams b seats' streams' → TookTurns record_of b seats' streams' c seats'' streams'' →
    TookTurns record_of a seats streams c seats'' streams''
TookTurns-join record_of a b c seats seats' seats'' streams streams' streams'' first then = record {
  count = then.count ∙ first.count;
  keeps = λ j. λ s. λ x. λ few. Keeps-join j _ _ _ (first.keeps j s x few) (then.keeps j s x (omega (arith, first.count)));
  rest = record {
    setting = then.rest.setting ∙ first.rest.setting;
    calls = λ other. λ above. then.rest.calls other (omega (arith, first.count)) ∙ first.rest.calls other above;
  };
  may = then.may;
}

-- how far a round has come: a turn was taken, or all sessions so far had ended
pub record Progress (turns : Bool) (i : ℕ) (first now : List Seat) : Type 0 where
  pub falls : turns ≡ true → sum_by left_of now < sum_by left_of first
  pub same : turns ≡ false → now ≡ first
  pub ended : turns ≡ false → AllWithin HasEnded now 0 i

not_more : (turns : Bool) {i : ℕ} (first now new : List Seat) → Progress turns i first now → sum_by left_of new < sum_by left_of now →
    sum_by left_of new < sum_by left_of first
not_more true first now new progress falls = let before = progress.falls refl in omega arith
not_more false first now new progress falls = subst (λ (seats : List Seat). sum_by left_of new < sum_by left_of seats) (progress.same refl) falls

or_true : (turns : Bool) → (turns || true) ≡ true
or_true true = refl
or_true false = refl

or_none : (turns : Bool) → (turns || false) ≡ turns
or_none true = refl
or_none false = refl

-- one stream more
pub progress_on : (took turns : Bool) (i : ℕ) (first now new : List Seat) → Progress turns i first now →
    (took ≡ true → sum_by left_of new < sum_by left_of now) → (took ≡ false → new ≡ now) → (took ≡ false → HoldsAt HasEnded new i) →
    Progress (turns || took) (i + 1) first new
progress_on true turns i first now new progress falls same ended =
    let on : (turns || true) ≡ true = or_true turns in
    record {
      falls = λ some. not_more turns first now new progress (falls refl);
      same = λ none. absurd cc;
      ended = λ none. absurd cc;
    }
progress_on false turns i first now new progress falls same ended =
    let is : (turns || false) ≡ turns = or_none turns in
    record {
      falls = λ some. subst (λ (seats : List Seat). sum_by left_of seats < sum_by left_of first) (sym (same refl)) (progress.falls (sym is ∙ some));
      same = λ none. same refl ∙ progress.same (sym is ∙ none);
      ended = λ none. AllWithin-more HasEnded new 0 i
          (subst (λ (seats : List Seat). AllWithin HasEnded seats 0 i) (sym (same refl)) (progress.ended (sym is ∙ none))) (ended refl);
    }

new_at : (terms : TermsState) (seed : ℕ) (seats : List Seat) (seat : Seat) → AreNew terms seed seats →
    IsNew terms seed (length seats) seat → (last : Bool) (i : ℕ) (any : Seat) → (i == length seats) ≡ last → i < length (seats ++ seat ∷ []) →
    IsNew terms seed i (get_or (seats ++ seat ∷ []) i any)
new_at terms seed seats seat each one true i any test within =
    let here : i ≡ length seats = grind (arith, nat_tests) in
    let is = get_or_push seats seat any i (sym here) in
    subst (IsNew terms seed i) (sym is) (subst (λ (k : ℕ). IsNew terms seed k seat) (sym here) one)
new_at terms seed seats seat each one false i any test within =
    let apart : i ≢ length seats = grind (arith, nat_tests) in
    let before : i < length seats = omega (arith, length-append seats (seat ∷ [])) in
    subst (IsNew terms seed i) (sym (get_or_append_left seats (seat ∷ []) any i before)) (each i any before)

-- one more seat
pub AreNew-push : (terms : TermsState) (seed : ℕ) (seats new : List Seat) (seat : Seat) (worker : ℕ) → length seats ≡ worker →
    new ≡ seats ++ seat ∷ [] → AreNew terms seed seats → IsNew terms seed worker seat → AreNew terms seed new
AreNew-push terms seed seats new seat worker count is each one =
    let last = subst (λ (k : ℕ). IsNew terms seed k seat) (sym count) one in
    subst (AreNew terms seed) (sym is) (λ i. λ any. λ within. new_at terms seed seats seat each last (i == length seats) i any refl within)

-- there is an end for each seat
pub ends_count : (ends : List (Result End SessionFault)) (seats : List Seat) → map Some ends ≡ map (λ seat. seat.session.outcome) seats →
    length ends ≡ length seats
ends_count ends seats told =
    let same : length (map Some ends) ≡ length (map (λ (seat : Seat). seat.session.outcome) seats) = ap length told in
    sym (length-map ends Some) ∙ same ∙ length-map seats (λ (seat : Seat). seat.session.outcome)
