-- After each call, refused or not, what is kept is what is held.
use Rattle.std.proofs.Common.{◌≡◌, ◌≢◌, ◌<◌, ◌≤◌, ◌/◌, ℕ, Bool, true, false, ◌||◌, List, [], ◌∷◌, length, get_or, set, refl, ap, sym, ◌∙◌, subst, arith}
use Rattle.std.specs.Prelude.{if◌then◌else◌, nat_lt, replicate}
use Rattle.std.proofs.lemmas.Bool.{eq-eqb, false_from_ne_true, false≢true, le-ltb, lt-ltb}
use Rattle.std.specs.Cmp.Lexicographic.{same_text}
use Rattle.sha1.specs.Sha1.{sha1}
use Rattle.bt_meta.specs.Layout.{block_count, block_size, hash_of, piece_count}
use Rattle.bt_history.specs.declared.call.Reason.{Reason}
use Rattle.bt_history.specs.declared.call.Reason.TheVariants.{NotJoined}
use Rattle.bt_history.specs.declared.call.Reply.{Reply}
use Rattle.bt_history.specs.declared.call.Reply.TheVariants.{Failed, Had, Refused}
use Rattle.bt_history.specs.declared.event.Action.{Action}
use Rattle.bt_history.specs.declared.event.Action.TheVariants.{Arrived, Settle, Lose, Discard}
use Rattle.bt_history.specs.declared.event.Event.{Event}
use Rattle.bt_history.specs.History.{is_failed, is_had, stores}
use Rattle.bt_history.specs.Pieces.{content}
use Rattle.bt_history.specs.Setting.{Setting}
use Rattle.bt_history.proofs.Allowed.{failed_reply, no_cause, passed_hash}
use Rattle.bt_history.specs.Picks.{IsPicked}
use Rattle.bt_history.proofs.Arrivals.{ArrivalFacts, arrival_facts}
use Rattle.bt_history.proofs.Picks.{same_reply}
use Rattle.bt_picker.specs.Checks.{SettlesIf, arriving, settling, waits}
use Rattle.bt_picker.specs.Positions.{DeskState, Gains}
use Rattle.bt_picker.specs.Tables.{edit}
use Rattle.bt_picker.specs.Told.{Settles, SettlesAs, Tells, TellsIf, action_told, telling}
use Rattle.bt_picker.specs.declared.told.Told.{Told}
use Rattle.bt_picker.specs.declared.told.Told.TheVariants as kinds
use Rattle.bt_picker.proofs.Entered.{discard_facts, loss_piece}
use Rattle.bt_picker.proofs.Tabled.{edit_same}
use Rattle.bt_picker.specs.Stashes.{IsStash, Rows, restashed_by, roomed, with_room}
use Rattle.bt_picker.proofs.Stashing.{restash, storing_counts}

-- the entry of a call
abbrev entry : ℕ → Action → Reply → Event
entry w a reply = record { worker = w; action = a; reply = reply }

-- a refusal leaves the rows
unstashed : (s : Setting) (rows : Rows) (reason : Reason) (a : Action) → restashed_by s rows (Refused reason) a ≡ rows
unstashed s rows reason (Arrived p begin bytes) = refl
unstashed s rows reason (Settle p bytes) = refl
unstashed s rows reason (Lose p) = refl
unstashed s rows reason (Discard p begin) = refl
unstashed s rows reason a = refl

-- one more entry
gained_stash : (old new : DeskState) (rows : Rows) (w : ℕ) (a : Action) (reply : Reply) → IsStash old.setting old.history rows
    → Gains old new (entry w a reply) → IsStash new.setting new.history (restashed_by old.setting rows reply a)
gained_stash old new rows w a reply is gains =
    rw (gains.setting, gains.entered) (restash old.setting old.history rows w is a reply gains.allowed)

-- nothing changed
refused_stash : (old new : DeskState) (rows : Rows) (a : Action) (reply : Reply) (reason : Reason) → IsStash old.setting old.history rows
    → new ≡ old → reply ≡ Refused reason → IsStash new.setting new.history (restashed_by old.setting rows reply a)
refused_stash old new rows a reply reason is same refused =
    rw (same, refused, unstashed old.setting rows reason a) is

-- ---- what is told

pub told_stash : (old new : DeskState) (rows : Rows) (w : ℕ) (a : Action) (reply : Reply) → IsStash old.setting old.history rows
    → Tells old new (entry w a reply) → IsStash new.setting new.history (restashed_by old.setting rows reply a)
told_stash old new rows w a reply is tells = by_number (nat_lt w old.setting.workers) tells where
  by_number : (x : Bool) → TellsIf x old new (entry w a reply) → IsStash new.setting new.history (restashed_by old.setting rows reply a)
  by_number true gains = gained_stash old new rows w a reply is gains
  by_number false refused = refused_stash old new rows a reply NotJoined is refused.0 refused.1

-- the row, with room, and with these bytes in it
abbrev kept_by : Setting → ℕ → ℕ → List ℕ → List (List ℕ) → List (List ℕ)
kept_by s p begin came row = set (with_room (block_count s.torrent p) row) (begin / block_size) came

-- where no block is stored, and none is freed, the rows stay
pub plain_stash : (old new : DeskState) (rows : Rows) (w : ℕ) (told : Told) (reply : Reply)
    → ((piece begin : ℕ) (bytes : _) → told ≡ kinds.Arrived piece begin bytes → stores reply ≡ false)
    → ((piece : ℕ) → told ≢ kinds.Lose piece) → ((piece begin : ℕ) → told ≢ kinds.Discard piece begin) → IsStash old.setting old.history rows
    → Tells old new (telling w told reply) → IsStash new.setting new.history rows
plain_stash old new rows w told reply plain no_loss no_discard is tells =
    subst (IsStash new.setting new.history) (left told plain no_loss no_discard) (told_stash old new rows w (action_told told) reply is tells)
  where
    left : (t : Told) → ((piece begin : ℕ) (bytes : _) → t ≡ kinds.Arrived piece begin bytes → stores reply ≡ false)
        → ((piece : ℕ) → t ≢ kinds.Lose piece) → ((piece begin : ℕ) → t ≢ kinds.Discard piece begin)
        → restashed_by old.setting rows reply (action_told t) ≡ rows
    left (kinds.Arrived piece begin bytes) plain no_loss no_discard =
        ap (λ (x : Bool). if x then edit rows piece (kept_by old.setting piece begin bytes.now) else rows) (plain piece begin bytes refl)
    left (kinds.Lose piece) plain no_loss no_discard = absurd (no_loss piece refl)
    left (kinds.Discard piece begin) plain no_loss no_discard = absurd (no_discard piece begin refl)
    left t plain no_loss no_discard = refl

-- what is no refusal has an entry
told_gains : (old new : DeskState) (e : Event) → ((reason : Reason) → e.reply ≢ Refused reason) → Tells old new e → Gains old new e
told_gains old new e counts tells = by_number (nat_lt e.worker old.setting.workers) tells where
  by_number : (x : Bool) → TellsIf x old new e → Gains old new e
  by_number true gains = gains
  by_number false refused = absurd (counts NotJoined refused.1)

-- a number that is no worker's keeps nothing
pub stranger_keeps : (old new : DeskState) (e : Event) → old.setting.workers ≤ e.worker → Tells old new e → false ≡ stores e.reply
stranger_keeps old new e le tells =
    let refused = subst (λ (x : Bool). TellsIf x old new e) (le-ltb e.worker old.setting.workers le) tells in
    sym (ap (λ (r : Reply). stores r) refused.1)

-- a worker's call has one pick, so what it keeps is known before
pub known_keeps : (old new : DeskState) (w : ℕ) (a : Action) (one other : Reply) → w < old.setting.workers
    → IsPicked old.setting old.history (entry w a one) → Tells old new (entry w a other) → stores one ≡ stores other
known_keeps old new w a one other lt picked tells =
    let gains = subst (λ (x : Bool). TellsIf x old new (entry w a other)) (lt-ltb w old.setting.workers lt) tells in
    ap (λ (r : Reply). stores r)
    (same_reply old.setting old.history (entry w a one) (entry w a other) refl refl picked gains.picked)

-- what is lost is a piece, and what is discarded is of one
pub lost_within : (old new : DeskState) (w p : ℕ) (reply : Reply) → reply ≡ Failed → Tells old new (entry w (Lose p) reply)
    → p < piece_count old.setting.torrent
lost_within old new w p reply fails tells =
    let counted : (reason : Reason) → reply ≢ Refused reason = λ reason refused. absurd (cc (fails, refused)) in
    let gains = told_gains old new (entry w (Lose p) reply) counted tells in
    loss_piece old.setting old.history w p (no_cause old.setting old.history (entry w (Lose p) reply) counted gains.allowed)

pub discarded_within : (old new : DeskState) (w p begin : ℕ) (reply : Reply) → reply ≡ Failed → Tells old new (entry w (Discard p begin) reply)
    → p < piece_count old.setting.torrent
discarded_within old new w p begin reply fails tells =
    let counted : (reason : Reason) → reply ≢ Refused reason = λ reason refused. absurd (cc (fails, refused)) in
    let gains = told_gains old new (entry w (Discard p begin) reply) counted tells in
    (discard_facts old.setting old.history w p begin (no_cause old.setting old.history (entry w (Discard p begin) reply) counted gains.allowed)).0

pub not_failed : (reply : Reply) → reply ≢ Failed → is_failed reply ≡ false
not_failed reply other = false_from_ne_true (is_failed reply) (λ is. other (failed_reply reply is))

-- ---- a block that came

module _ (old new : DeskState) (rows : Rows) (w p begin : ℕ) (came : List ℕ) (reply : Reply) (room : List (List ℕ))
    (is : IsStash old.setting old.history rows) (tells : Tells old new (arriving w p begin came reply)) (storing : stores reply ≡ true)
    (makes : p < piece_count old.setting.torrent → get_or rows p [] ≡ [] → room ≡ replicate (block_count old.setting.torrent p) []) where
  facts : ArrivalFacts old.setting old.history w p begin came
  facts =
      let counts = storing_counts reply storing in
      arrival_facts old.setting old.history w p begin came
      (no_cause old.setting old.history (arriving w p begin came reply) counts
      (told_gains old new (arriving w p begin came reply) counts tells).allowed)

  -- its piece has a row
  pub arrived_piece : p < length rows
  arrived_piece = rw is.len facts.piece

  -- there is room in it
  roomed_is : roomed (get_or rows p []) room ≡ with_room (block_count old.setting.torrent p) (get_or rows p [])
  roomed_is = by_row (get_or rows p []) (makes facts.piece) where
    by_row : (row : List (List ℕ)) → (row ≡ [] → room ≡ replicate (block_count old.setting.torrent p) [])
        → roomed row room ≡ with_room (block_count old.setting.torrent p) row
    by_row [] made = made refl
    by_row (x ∷ xs) made = refl

  pub arrived_index : begin / block_size < length (roomed (get_or rows p []) room)
  arrived_index =
      let long : length (roomed (get_or rows p []) room) ≡ block_count old.setting.torrent p = ap length roomed_is ∙ is.wide p in
      let begins = facts.begins in
      let within = facts.within in
      omega (arith, long, begins, within)

  -- it is kept
  pub arrived_stash : IsStash new.setting new.history (edit rows p (λ row. set (roomed row room) (begin / block_size) came))
  arrived_stash =
      subst (IsStash new.setting new.history)
      (ap (λ (x : Bool). if x then edit rows p (kept_by old.setting p begin came) else rows) storing
      ∙ edit_same rows p (kept_by old.setting p begin came)
      (λ row. set (roomed row room) (begin / block_size) came) [] arrived_piece
      (ap (λ (row : List (List ℕ)). set row (begin / block_size) came) (sym roomed_is)))
      (told_stash old new rows w (Arrived p begin came) reply is tells)

-- it isn't
pub dropped_stash : (old new : DeskState) (rows : Rows) (w p begin : ℕ) (came : List ℕ) (reply : Reply) → IsStash old.setting old.history rows
    → Tells old new (arriving w p begin came reply) → stores reply ≡ false → IsStash new.setting new.history rows
dropped_stash old new rows w p begin came reply is tells dropping =
    subst (IsStash new.setting new.history)
    (ap (λ (x : Bool). if x then edit rows p (kept_by old.setting p begin came) else rows) dropping)
    (told_stash old new rows w (Arrived p begin came) reply is tells)

-- ---- a check

-- the reply tells what was found
abbrev pub tells_hash : Reply → Bool
tells_hash reply = is_had reply || is_failed reply

-- what is kept after a check is what is held
abbrev pub KeptAfter : DeskState → Rows → ℕ → Reply → Type 0
KeptAfter new rows p reply = IsStash new.setting new.history (if tells_hash reply then edit rows p (λ row. []) else rows)

pub settled_stash : (old new : DeskState) (rows : Rows) (w p : ℕ) (reply : Reply) → IsStash old.setting old.history rows → Settles old new w p reply
    → KeptAfter new rows p reply
settled_stash old new rows w p reply is settles = by_number (nat_lt w old.setting.workers) settles where
  by_state : (x : Bool) → SettlesIf x old new w p reply → KeptAfter new rows p reply
  by_state true gains = gained_stash old new rows w (Settle p (content old.setting old.history p)) reply is gains
  by_state false refused = refused_stash old new rows (Settle p []) reply _ is refused.0 refused.1

  by_number : (x : Bool) → SettlesAs x old new w p reply → KeptAfter new rows p reply
  by_number true now = by_state (waits old.setting old.history p) now
  by_number false refused = refused_stash old new rows (Settle p []) reply NotJoined is refused.0 refused.1

-- a piece whose hash was found waited
pub settled_waits : (old new : DeskState) (w p : ℕ) (reply : Reply) → Settles old new w p reply → tells_hash reply ≡ true
    → waits old.setting old.history p ≡ true
settled_waits old new w p reply settles told = by_number (nat_lt w old.setting.workers) settles where
  refused_none : (reason : Reason) → reply ≡ Refused reason → ⊥
  refused_none reason refused = false≢true (sym (ap tells_hash refused) ∙ told)

  by_state : (x : Bool) → waits old.setting old.history p ≡ x → SettlesIf x old new w p reply → waits old.setting old.history p ≡ true
  by_state true waiting gains = waiting
  by_state false waiting refused = absurd (refused_none _ refused.1)

  by_number : (x : Bool) → SettlesAs x old new w p reply → waits old.setting old.history p ≡ true
  by_number true now = by_state (waits old.setting old.history p) refl now
  by_number false refused = absurd (refused_none NotJoined refused.1)

-- another reply tells none
pub tells_none : (r : Reply) → r ≢ Had → r ≢ Failed → tells_hash r ≡ false
tells_none Had had failed = absurd (had refl)
tells_none Failed had failed = absurd (failed refl)
tells_none r had failed = refl

-- the content of a piece that came to be had has its hash
pub had_hash : (old new : DeskState) (w p : ℕ) → Settles old new w p Had
    → sha1 (content old.setting old.history p) ≡ hash_of old.setting.torrent p
had_hash old new w p settles = by_number (nat_lt w old.setting.workers) settles where
  by_state : (x : Bool) → SettlesIf x old new w p Had → sha1 (content old.setting old.history p) ≡ hash_of old.setting.torrent p
  by_state true gains =
      same_text _ _ (sym (passed_hash old.setting old.history (settling old.setting old.history w p Had) p gains.allowed refl (eq-eqb p p refl)))
  by_state false refused = absurd (cc refused.1)

  by_number : (x : Bool) → SettlesAs x old new w p Had → sha1 (content old.setting old.history p) ≡ hash_of old.setting.torrent p
  by_number true now = by_state (waits old.setting old.history p) now
  by_number false refused = absurd (cc refused.1)
