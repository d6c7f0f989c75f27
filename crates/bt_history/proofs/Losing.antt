-- Where no entry frees blocks with no check, what is held and had is what it was before there were such calls. No journal has one.
use Rattle.std.proofs.Common.{◌≡◌, ℕ, Bool, true, false, not, ◌&&◌, ◌||◌, List, [], ◌∷◌, ◌++◌, Option, None, Some, refl, ap, ◌∙◌}
use Rattle.std.specs.Prelude.{if◌then◌else◌, is_some}
use Rattle.std.proofs.lemmas.Bool.{and_from, and_parts, and_right, not-true, or_cases, or_left, or_right}
use Rattle.std.proofs.Common.{⊎_elim}
use Rattle.bt_meta.specs.declared.block.Block.{Block}
use Rattle.bt_history.specs.declared.call.Call.{Call}
use Rattle.bt_history.specs.declared.call.Call.TheVariants as calls
use Rattle.bt_history.specs.declared.call.Entry.{Entry}
use Rattle.bt_history.specs.declared.event.Action.{Action}
use Rattle.bt_history.specs.declared.event.Action.TheVariants.{Settle, Lose, Discard}
use Rattle.bt_history.specs.declared.event.Event.{Event}
use Rattle.bt_history.specs.Before.{failed, had_before, is_loss, kept_before, never_loses, sender_before}
use Rattle.bt_history.specs.Entries.{action_of, event_of, history_of}
use Rattle.bt_history.specs.History.{History, freed, frees, is_failed, lost, loses, passed, settles, stored}
use Rattle.bt_history.specs.Pieces.{had, kept, sender}
use Rattle.bt_history.proofs.Journals.{history_append}

-- ---- no journal loses anything

-- a call of a journal is none that frees blocks with no check
pub call_keeps : (call : Call) → is_loss (action_of call) ≡ false
call_keeps calls.Join = refl
call_keeps call = refl

-- entries behind others
never_append : (newer older : History) → never_loses newer ≡ true → never_loses older ≡ true → never_loses (newer ++ older) ≡ true
unfolding never_loses
never_append [] older new old = old
never_append (e ∷ newer) older new old =
    let parts = and_parts (not (is_loss e.action)) (never_loses newer) new in
    and_from (not (is_loss e.action)) (never_loses (newer ++ older)) parts.0 (never_append newer older parts.1 old)

pub journals_lose_nothing : (journal : List Entry) → never_loses (history_of journal) ≡ true
unfolding never_loses
journals_lose_nothing [] = refl
journals_lose_nothing (e ∷ journal) =
    ap never_loses (history_append (e ∷ []) journal)
    ∙ never_append (history_of journal) (event_of e ∷ []) (journals_lose_nothing journal)
    (and_from (not (is_loss (action_of e.call))) true (ap not (call_keeps e.call)) refl)

-- ---- what such an entry leaves

frees_as_checks : (call : Action) (b : Block) → is_loss call ≡ false → frees call b ≡ settles call b.piece
frees_as_checks (Settle p bytes) b is = refl
frees_as_checks (Lose p) b is = absurd (cc is)
frees_as_checks (Discard p begin) b is = absurd (cc is)
frees_as_checks call b is = refl

loses_none : (call : Action) (p : ℕ) → is_loss call ≡ false → loses call p ≡ false
loses_none (Lose r) p is = absurd (cc is)
loses_none call p is = refl

freed_as_before : (e : Event) (b : Block) → is_loss e.action ≡ false → freed e b ≡ failed e b.piece
freed_as_before e b is = ap (λ (x : Bool). is_failed e.reply && x) (frees_as_checks e.action b is)

-- the entry loses no piece
pub lost_none : (e : Event) (p : ℕ) → is_loss e.action ≡ false → lost e p ≡ false
lost_none e p is = and_right (is_failed e.reply) (loses e.action p) (loses_none e.action p is)

-- what never loses doesn't at its newest entry, nor before
pub never_parts : (e : Event) (h : History) → never_loses (e ∷ h) ≡ true → (is_loss e.action ≡ false) × (never_loses h ≡ true)
unfolding never_loses
never_parts e h never =
    let parts = and_parts (not (is_loss e.action)) (never_loses h) never in
    (not-true (is_loss e.action) parts.0, parts.1)

pub had_as_before : (h : History) (p : ℕ) → never_loses h ≡ true → had h p ≡ had_before h p
unfolding had had_before
had_as_before [] p never = refl
had_as_before (e ∷ h) p never =
    let parts = never_parts e h never in
    λ i. passed e p || (not (lost_none e p parts.0 i) && had_as_before h p parts.1 i)

pub kept_as_before : (h : History) (b : Block) → never_loses h ≡ true → kept h b ≡ kept_before h b
unfolding kept kept_before
kept_as_before [] b never = refl
kept_as_before (e ∷ h) b never =
    let parts = never_parts e h never in
    λ i. if freed_as_before e b parts.0 i then None else if is_some (stored e b) then stored e b else kept_as_before h b parts.1 i

pub sender_as_before : (h : History) (b : Block) → never_loses h ≡ true → sender h b ≡ sender_before h b
unfolding sender sender_before
sender_as_before [] b never = refl
sender_as_before (e ∷ h) b never =
    let parts = never_parts e h never in
    λ i. if freed_as_before e b parts.0 i then None else if is_some (stored e b) then Some e.worker else sender_as_before h b parts.1 i

-- a piece that is had was found to have its hash once
pub had_once : (h : History) (p : ℕ) → had h p ≡ true → had_before h p ≡ true
unfolding had had_before
had_once [] p is = is
had_once (e ∷ h) p is = ⊎_elim
    (λ (now : passed e p ≡ true). or_left (passed e p) (had_before h p) now)
    (λ (older : (not (lost e p) && had h p) ≡ true).
    or_right (passed e p) (had_before h p) (had_once h p (and_parts (not (lost e p)) (had h p) older).1))
    (or_cases (passed e p) (not (lost e p) && had h p) is)
