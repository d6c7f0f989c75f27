-- Which pieces are chosen at the end of a run: those that its last worker told.
use Rattle.std.proofs.Common.{◌≡◌, ◌≢◌, ◌<◌, ℕ, zero, suc, List, [], ◌∷◌, ◌++◌, length, Bool, true, false, Option, Some, None, Result, Err, refl, sym, ap}
use Rattle.std.proofs.Common.{subst, ◌∙◌, ◌==◌, arith, eq-eqb}
use Rattle.std.specs.Prelude.{◌||◌, nat_lt}
use Rattle.std.proofs.lemmas.Bool.Decides.{nat_tests}
use Rattle.bt_history.specs.declared.call.Reply.{Reply}
use Rattle.bt_history.specs.declared.call.Reply.TheVariants as replies
use Rattle.bt_history.specs.declared.event.Action.{Action}
use Rattle.bt_history.specs.declared.event.Action.TheVariants as actions
use Rattle.bt_history.specs.declared.event.Event.{Event as Entry}
use Rattle.bt_history.specs.declared.rules.TheConstants.{USUAL_LEVEL}
use Rattle.bt_history.specs.History.{History, counted_call}
use Rattle.bt_history.specs.Peers.{flag}
use Rattle.bt_history.specs.Pieces.{level, level_after, level_if}
use Rattle.bt_picker.specs.Checks.{FinishedBelow, FinishesOne, settling, waits}
use Rattle.bt_picker.specs.Positions.{DeskState}
use Rattle.bt_peer.specs.Conduct.{Calls}
use Rattle.bt_peer.specs.Desks.{calls_in}
use Rattle.bt_peer.specs.Serial.{AreChosen, EachEnded, Finishes, StreamRecord, opening_of}
use Rattle.bt_peer.specs.SessionTerms.{TermsState}
use Rattle.bt_peer.specs.Course.{IsFresh, LeavesOthers, LeavesRest}
use Rattle.bt_peer.specs.declared.fault.End.{End}
use Rattle.bt_peer.specs.declared.fault.SessionFault.{SessionFault}
use Rattle.bt_peer.specs.declared.fault.SessionFault.TheVariants as faults
use Rattle.bt_peer.proofs.LastChecks.{finished_leaves, first_of}
use Rattle.bt_peer.proofs.Desks.{calls_in-own, calls_in-other}
use Rattle.bt_peer.proofs.Wishes.{WishNothing, ended_wish, is_wish, wish_nothing-front}

-- the call with its reply as an entry of the first worker
abbrev entry_of : Action × Reply → Entry
entry_of made = record { worker = 0; action = made.0; reply = made.1 }

-- the level of a piece after these calls, the oldest first, from what it was before
abbrev level_by : Calls → ℕ → ℕ → ℕ
level_by [] piece before = before
level_by (made ∷ calls) piece before = level_by calls piece (level_after (counted_call (entry_of made)) piece before)

level_by-last : (calls : Calls) (made : Action × Reply) (piece before : ℕ) →
    level_by (calls ++ made ∷ []) piece before ≡ level_after (counted_call (entry_of made)) piece (level_by calls piece before)
level_by-last [] made piece before = refl
level_by-last (first ∷ calls) made piece before = level_by-last calls made piece (level_after (counted_call (entry_of first)) piece before)

-- a call that is no wish leaves the levels
counted_level : (action : Action) (piece before : ℕ) → is_wish action ≡ false → level_after (Some action) piece before ≡ before
counted_level (actions.Want flags) piece before none = absurd (cc none)
counted_level (actions.Level p n) piece before none = absurd (cc none)
counted_level (actions.Levels levels) piece before none = absurd (cc none)
counted_level _ piece before none = refl

same_level : (e : Entry) (piece before : ℕ) → is_wish e.action ≡ false → level_after (counted_call e) piece before ≡ before
same_level e piece before none = by_reply e.reply where
  by_reply : (reply : Reply) → level_after (counted_call (record e { reply = reply })) piece before ≡ before
  by_reply (replies.Refused reason) = refl
  by_reply _ = counted_level e.action piece before none

-- no worker but this one told a wish
abbrev pub OthersWishNothing : ℕ → History → Type 0
OthersWishNothing worker h = (other : ℕ) → other ≢ worker → WishNothing (calls_in h other)

last_wish : (calls : Calls) (made : Action × Reply) → WishNothing (calls ++ made ∷ []) → is_wish made.0 ≡ false
last_wish [] made none = by_wish (is_wish made.0) none where
  by_wish : (b : Bool) → (b || false) ≡ false → b ≡ false
  by_wish true none = none
  by_wish false none = refl
last_wish (first ∷ calls) made none = last_wish calls made (behind (is_wish first.0) _ none) where
  behind : (a b : Bool) → (a || b) ≡ false → b ≡ false
  behind true b none = absurd (cc none)
  behind false b none = none

older_wish : (is : Bool) (h : History) (e : Entry) (other : ℕ) → (e.worker == other) ≡ is → WishNothing (calls_in (e ∷ h) other) →
    WishNothing (calls_in h other)
older_wish true h e other is none =
    wish_nothing-front (calls_in h other) ((e.action, e.reply) ∷ []) (subst WishNothing (calls_in-own h e other is) none)
older_wish false h e other is none = subst WishNothing (calls_in-other h e other is) none

level_more : (is : Bool) (h : History) (e : Entry) (worker piece : ℕ) → (e.worker == worker) ≡ is → OthersWishNothing worker (e ∷ h) →
    level h piece ≡ level_by (calls_in h worker) piece USUAL_LEVEL →
    level_after (counted_call e) piece (level h piece) ≡ level_by (calls_in (e ∷ h) worker) piece USUAL_LEVEL
level_more true h e worker piece is none older =
    ap (level_after (counted_call e) piece) older
    ∙ sym (level_by-last (calls_in h worker) (e.action, e.reply) piece USUAL_LEVEL)
    ∙ sym (ap (λ (calls : Calls). level_by calls piece USUAL_LEVEL) (calls_in-own h e worker is))
level_more false h e worker piece is none older =
    let apart : e.worker ≢ worker = λ same. absurd (cc (is, eq-eqb e.worker worker same)) in
    let own : (e.worker == e.worker) ≡ true = eq-eqb e.worker e.worker refl in
    let silent : is_wish e.action ≡ false =
    last_wish (calls_in h e.worker) (e.action, e.reply) (subst WishNothing (calls_in-own h e e.worker own) (none e.worker apart)) in
    same_level e piece (level h piece) silent ∙ older
    ∙ sym (ap (λ (calls : Calls). level_by calls piece USUAL_LEVEL) (calls_in-other h e worker is))

-- the levels are those that this worker's calls tell
level_is : (h : History) (worker piece : ℕ) → OthersWishNothing worker h → level h piece ≡ level_by (calls_in h worker) piece USUAL_LEVEL
unfolding level
level_is [] worker piece none = refl
level_is (e ∷ h) worker piece none =
    level_more (e.worker == worker) h e worker piece refl none
    (level_is h worker piece (λ other apart. older_wish (e.worker == other) h e other refl (none other apart)))

above_none : (is_chosen : Bool) → nat_lt 0 (level_if is_chosen) ≡ is_chosen
above_none true = refl
above_none false = refl

-- where the worker made no call but the opening, just the pieces that it told are chosen
pub chosen_by : (want : Option (List Bool)) (desk : DeskState) (worker : ℕ) → OthersWishNothing worker desk.history →
    calls_in desk.history worker ≡ opening_of want → AreChosen want desk
chosen_by None desk worker none opened = λ piece.
    ap (nat_lt 0) (level_is desk.history worker piece none ∙ ap (λ (calls : Calls). level_by calls piece USUAL_LEVEL) opened)
chosen_by (Some flags) desk worker none opened = λ piece.
    ap (nat_lt 0) (level_is desk.history worker piece none ∙ ap (λ (calls : Calls). level_by calls piece USUAL_LEVEL) opened)
    ∙ above_none (flag flags piece)

settled_level : (waiting : Bool) (desk : DeskState) (worker piece : ℕ) (new : DeskState) → FinishesOne waiting desk worker piece new →
    (at : ℕ) → level new.history at ≡ level desk.history at
unfolding level
settled_level true desk worker piece new settles at =
    let e = settling desk.setting desk.history worker piece settles.0 in
    ap (λ (h : History). level h at) settles.1.entered ∙ same_level e at (level desk.history at) refl
settled_level false desk worker piece new same at = ap (λ (d : DeskState). level d.history at) same

-- the last checks leave the levels
finished_level : (first : DeskState) (worker count : ℕ) (new : DeskState) → FinishedBelow first worker count new → (at : ℕ) →
    level new.history at ≡ level first.history at
finished_level first worker zero new same at = ap (λ (d : DeskState). level d.history at) same
finished_level first worker (suc count) new (mid, below, one) at =
    settled_level (waits first.setting first.history count) mid worker count new one at ∙ finished_level first worker count mid below at

same_chosen : (want : Option (List Bool)) (old new : DeskState) → ((piece : ℕ) → level new.history piece ≡ level old.history piece) →
    AreChosen want old → AreChosen want new
same_chosen None old new same are = λ piece. ap (nat_lt 0) (same piece) ∙ are piece
same_chosen (Some flags) old new same are = λ piece. ap (nat_lt 0) (same piece) ∙ are piece

-- and so the chosen pieces
pub chosen_after : (want : Option (List Bool)) (first : DeskState) (worker count : ℕ) (new : DeskState) → FinishedBelow first worker count new →
    AreChosen want first → AreChosen want new
chosen_after want first worker count new finished are =
    same_chosen want first new (finished_level first worker count new finished) are

-- ---- a run

-- after the sessions' turns and the last checks no worker behind the last one has called anything
pub rest_uncalled : (count worker : ℕ) (first mid last : DeskState) → worker ≡ count → IsFresh count first → LeavesRest count first mid →
    LeavesOthers worker mid last → (other : ℕ) → count < other → calls_in last.history other ≡ []
rest_uncalled count worker first mid last is fresh rest left other above =
    left.calls other (λ same. omega (arith, above, is, same)) ∙ rest.calls other (omega (arith, above))
    ∙ fresh.uncalled other (λ same. omega (arith, above, same))

-- a run whose sessions ended so chose what its last worker told
pub run_chosen : {X : Type 0} (record_of : X → StreamRecord) (terms : TermsState) (seed : ℕ) (want : Option (List Bool)) (streams streams' : List X)
    (unfinished : Bool) (desk : DeskState) (ends : List (Result End SessionFault)) (lacks : List Bool) →
    EachEnded record_of terms seed streams desk streams' ends lacks →
    ((other : ℕ) → length streams < other → calls_in desk.history other ≡ []) →
    Finishes (length streams) (opening_of want) unfinished desk → AreChosen want desk
run_chosen {X} record_of terms seed want streams streams' unfinished desk ends lacks each uncalled finishes =
    let last = length streams in
    let left = finished_leaves finishes.before last finishes.count desk finishes.finished in
    chosen_after want finishes.before last finishes.count desk finishes.finished
    (chosen_by want finishes.before last
    (λ other apart. subst WishNothing (left.calls other apart) (others_wish (nat_lt other last) other refl apart)) finishes.opened) where
      others_wish : (below : Bool) (other : ℕ) → nat_lt other (length streams) ≡ below → other ≢ length streams →
          WishNothing (calls_in desk.history other)
      others_wish true other is apart =
          let within : other < length streams = grind (arith, nat_tests) in
          let stream : X = first_of streams other within in
          let ended = each other stream (Err faults.NoMemory) false within in
          ended_wish _ terms other _ _ _ ended.ends refl
      others_wish false other is apart =
          let above : length streams < other = grind (arith, nat_tests) in
          subst WishNothing (sym (uncalled other above)) refl
