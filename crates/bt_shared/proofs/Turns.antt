-- A worker's turn at what is shared, from the lock to its release.
use Rattle.std.proofs.Common.{◌≡◌, ℕ, ◌<◌, Bool, true, false, None, List, [], ◌∷◌, refl, sym, ap, ◌∙◌, subst, inl, inr, lt-ltb, nat_lt}
use Rattle.atomic_table.specs.Seated.{TableId}
use Rattle.bt_history.specs.declared.call.Reply.{Reply}
use Rattle.bt_history.specs.declared.event.Event.{Event}
use Rattle.bt_history.specs.History.{History}
use Rattle.bt_history.specs.Setting.{Setting}
use Rattle.bt_picker.specs.Checks.{SettlesIf, SettlesNow, is_right, waits}
use Rattle.bt_picker.specs.Positions.{DeskState, Gains}
use Rattle.bt_picker.specs.Told.{Settles, SettlesAs, Tells, TellsIf}
use Rattle.bt_shared.specs.Guard.{Fits, MayGive, Sat, desk, part, seeing}
use Rattle.bt_shared.specs.Passes.{Adds, FreesAfter, FreesJudged, IsFreed, IsRightWhenDue, IsSame, IsSeatOf, IsTurnOf, Judges, PassState, picker_of}
use Rattle.bt_shared.specs.Seen.{Continues, GoesOn, Grows}
use Rattle.bt_shared.proofs.Marked.{knows_continue}

-- a pass's seat that takes the word
pub turn_begins : (w : ℕ) (m m' : Sat) (d : DeskState) → IsSeatOf w m → m.0.setting ≡ d.setting → m' ≡ (seeing true m.0 d.history, (0, None) ∷ [])
    → IsTurnOf w m' d
turn_begins w m m' d seat setting is =
    subst (λ (x : Sat). IsTurnOf w x d) (sym is) record {
      taken = refl;
      live = refl;
      away = refl;
      alone = seat.alone;
      setting = sym setting;
      goes = record { newer = []; theirs = tt; is = refl };
    }

-- two stretches of one worker's entries, one after the other
goes_further : (w : ℕ) (a b c : History) → GoesOn (w ∷ []) a b → Grows (w ∷ []) b c → GoesOn (w ∷ []) a c
goes_further w a b c before (inl same) = subst (GoesOn (w ∷ []) a) (sym same) before
goes_further w a b c before (inr more) = record {
  newer = more.0 ∷ before.newer;
  theirs = (more.1, before.theirs);
  is = more.2 ∙ ap (λ (h : History). more.0 ∷ h) before.is;
}

-- a turn in which the worker adds an entry, or none
pub turn_grows : (w : ℕ) (m : Sat) (d d' : DeskState) → IsTurnOf w m d → d'.setting ≡ d.setting → Grows (w ∷ []) d.history d'.history → IsTurnOf w m d'
turn_grows w m d d' turn same grows = record {
  taken = turn.taken;
  live = turn.live;
  away = turn.away;
  alone = turn.alone;
  setting = same ∙ turn.setting;
  goes = goes_further w m.0.part.seen d.history d'.history turn.goes grows;
}

pub grows_gains : (w : ℕ) (d d' : DeskState) (e : Event) → e.worker ≡ w → Gains d d' e → Grows (w ∷ []) d.history d'.history
grows_gains w d d' e is gains = inr (e, inl (sym is), gains.entered)

-- a turn may free the word
pub turn_gives : (w : ℕ) (m : Sat) (d : DeskState) → IsTurnOf w m d → MayGive m.0 d
turn_gives w m d turn = record {
  taken = turn.taken;
  same = turn.setting;
  goes = subst (λ (ws : List ℕ). GoesOn ws m.0.part.seen d.history) (sym turn.alone) turn.goes;
}

-- and its seat is then a pass's
pub turn_ends : (w : ℕ) (m m' : Sat) (h : History) → m.0.part.workers ≡ w ∷ [] → m' ≡ (seeing false m.0 h, []) → IsSeatOf w m'
turn_ends w m m' h alone is =
    subst (IsSeatOf w) (sym is) record {
      idle = record { live = refl; idle = refl; empty = refl };
      alone = alone;
      whole = ap (λ (ws : List ℕ). part ws h ∷ []) alone;
    }

same_desk : (d : DeskState) (s : Setting) (h : History) → d.setting ≡ s → d.history ≡ h → d ≡ desk s h
same_desk d s h a b = λ k. record { setting = a k; history = b k }

-- what a call under one lock makes of what a pass has seen, where the picker was found as d and left as d'
module _ (old new : PassState) (d d' : DeskState) (goes : Continues old.worker old.seen d.history) (same : IsSame old new)
    (setting : old.setting ≡ d.setting) (kept : d'.setting ≡ d.setting) (seen : new.seen ≡ d'.history) where
  was : d ≡ desk old.setting d.history
  was = same_desk d old.setting d.history (sym setting) refl

  is : d' ≡ picker_of new
  is = same_desk d' new.setting new.seen (kept ∙ sym setting ∙ sym same.setting) (sym seen)

  pub adds : (e : Event) → Gains d d' e → Adds e old new
  adds e gains =
      let P : DeskState → Type 0 = λ x. Gains x (picker_of new) e in
      let Q : DeskState → Type 0 = λ x. Gains d x e in
      (d.history, record { same = same; seen = goes }, subst P was (subst Q is gains))

  pub judges : (p : ℕ) (reply : Reply) → SettlesNow d d' old.worker p reply → Judges p reply old new
  judges p reply settles =
      let P : DeskState → Type 0 = λ x. SettlesNow x (picker_of new) old.worker p reply in
      let Q : DeskState → Type 0 = λ x. SettlesNow d x old.worker p reply in
      (d.history, record { same = same; seen = goes }, subst P was (subst Q is settles))

-- a verdict that is right whatever is found is so at the desk that was found
pub right_here : (pass : PassState) (p : ℕ) (passed : Bool) (d : DeskState) → IsRightWhenDue pass p passed → Continues pass.worker pass.seen d.history
    → pass.setting ≡ d.setting → waits d.setting d.history p ≡ true → passed ≡ is_right d.setting d.history p
right_here pass p passed d right goes setting =
    let P : Setting → Type 0 = λ s. waits s d.history p ≡ true → passed ≡ is_right s d.history p in
    subst P setting (right d.history goes)

-- a check of a piece adds an entry of the worker, or none
grows_if : (b : Bool) (d d' : DeskState) (w p : ℕ) (reply : Reply) → SettlesIf b d d' w p reply → Grows (w ∷ []) d.history d'.history
grows_if true d d' w p reply gains = inr (_, inl refl, gains.entered)
grows_if false d d' w p reply same = inl (ap (λ (x : DeskState). x.history) same.0)

kept_if : (b : Bool) (d d' : DeskState) (w p : ℕ) (reply : Reply) → SettlesIf b d d' w p reply → d'.setting ≡ d.setting
kept_if true d d' w p reply gains = gains.setting
kept_if false d d' w p reply same = ap (λ (x : DeskState). x.setting) same.0

pub grows_settles : (d d' : DeskState) (w p : ℕ) (reply : Reply) → SettlesNow d d' w p reply → Grows (w ∷ []) d.history d'.history
grows_settles d d' w p reply = grows_if (waits d.setting d.history p) d d' w p reply

pub kept_settles : (d d' : DeskState) (w p : ℕ) (reply : Reply) → SettlesNow d d' w p reply → d'.setting ≡ d.setting
kept_settles d d' w p reply = kept_if (waits d.setting d.history p) d d' w p reply

-- a worker's number is one of the picker's
pub told_gains : (d d' : DeskState) (e : Event) → e.worker < d.setting.workers → Tells d d' e → Gains d d' e
told_gains d d' e below tells =
    let is : nat_lt e.worker d.setting.workers ≡ true = lt-ltb e.worker d.setting.workers below in
    subst (λ (b : Bool). TellsIf b d d' e) is tells

pub judged_settles : (d d' : DeskState) (w p : ℕ) (reply : Reply) → w < d.setting.workers → Settles d d' w p reply → SettlesNow d d' w p reply
judged_settles d d' w p reply below settles =
    let is : nat_lt w d.setting.workers ≡ true = lt-ltb w d.setting.workers below in
    subst (λ (b : Bool). SettlesAs b d d' w p reply) is settles

-- a pass of a picker, by its seat
abbrev pub pass_of : TableId → ℕ → Sat → PassState
pass_of table w m = record { table = table; setting = m.0.setting; worker = w; seen = m.0.part.seen; log = [] }

-- a call by a pass, whose seat had the lock and found d
module _ (w : ℕ) (table table' : TableId) (m taken m' : Sat) (d : DeskState) (seat : IsSeatOf w m)
    (found : Fits d.setting d.history m.0 × (m.0.setting ≡ d.setting)) (is : taken ≡ (seeing true m.0 d.history, (0, None) ∷ [])) (old : PassState)
    (view : pass_of table w m ≡ old) (same : table' ≡ table) where
  stays : (d' : DeskState) → IsFreed d' taken m' → IsSame (pass_of table w m) (pass_of table' w m')
  stays d' freed = record {
    table = same;
    setting = ap (λ (x : Sat). x.0.setting) freed ∙ ap (λ (x : Sat). x.0.setting) is;
    worker = refl;
  }

  went : Continues w m.0.part.seen d.history
  went = knows_continue d.history m.0.part w seat.alone found.0.part

  pub pass_adds : (e : ℕ → Event) → FreesAfter (e w) d taken m' → Adds (e old.worker) old (pass_of table' w m')
  pass_adds e frees =
      let P : PassState → Type 0 = λ p. Adds (e p.worker) p (pass_of table' w m') in
      subst P view
      (adds (pass_of table w m) (pass_of table' w m') d frees.0 went (stays frees.0 frees.2) found.1 frees.1.setting
      (ap (λ (x : Sat). x.0.part.seen) frees.2) (e w) frees.1)

  pub pass_judges : (p : ℕ) (reply : Reply) → FreesJudged w p reply d taken m' → Judges p reply old (pass_of table' w m')
  pass_judges p reply frees =
      let P : PassState → Type 0 = λ b. Judges p reply b (pass_of table' w m') in
      subst P view
      (judges (pass_of table w m) (pass_of table' w m') d frees.0 went (stays frees.0 frees.2) found.1 (kept_settles d frees.0 w p reply frees.1)
      (ap (λ (x : Sat). x.0.part.seen) frees.2) p reply frees.1)

  -- a verdict that is right whatever is found is so here
  pub pass_right : (p : ℕ) (passed : Bool) → IsRightWhenDue old p passed → waits d.setting d.history p ≡ true →
      passed ≡ is_right d.setting d.history p
  pass_right p passed right =
      let P : PassState → Type 0 = λ b. IsRightWhenDue b p passed in
      right_here (pass_of table w m) p passed d (subst P (sym view) right) went found.1
