-- What a picker is told of zero bytes leaves its history one of zero bytes.
use Rattle.std.proofs.Common.{◌≡◌, ◌∙◌, ℕ, Bool, true, false, List, length, ap, subst, sym}
use Rattle.std.specs.Prelude.{nat_lt}
use Rattle.std.proofs.lemmas.List.{length-replicate}
use Rattle.bt_history.specs.declared.call.Reply.{Reply}
use Rattle.bt_history.specs.declared.event.Event.{Event}
use Rattle.bt_history.specs.Setting.{Setting}
use Rattle.bt_picker.specs.Checks.{SettlesIf, settling, waits}
use Rattle.bt_picker.specs.Positions.{DeskState, Gains}
use Rattle.bt_picker.specs.Told.{Settles, SettlesAs, Tells, TellsIf}
use Rattle.bench.specs.ZeroBytes.{AllZeros, BringsZeros, IsEven, zeros}

-- a download of even pieces, of which each block that came is of zeros
abbrev pub Keeps : DeskState → Type 0
Keeps d = IsEven d.setting.torrent × AllZeros d.history

same_keeps : (old new : DeskState) → new ≡ old → Keeps old → Keeps new
same_keeps old new is keeps = subst Keeps (sym is) keeps

gains_keeps : (old new : DeskState) (e : Event) → Gains old new e → Keeps old → BringsZeros e.action → Keeps new
gains_keeps old new e gained keeps brings = (
  subst (λ (s : Setting). IsEven s.torrent) (sym gained.setting) keeps.0,
  subst AllZeros (sym gained.entered) (brings, keeps.1),
)

pub tells_keeps : (old new : DeskState) (e : Event) → Tells old new e → Keeps old → BringsZeros e.action → Keeps new
tells_keeps old new e tells keeps brings = by_worker (nat_lt e.worker old.setting.workers) tells where
  by_worker : (x : Bool) → TellsIf x old new e → Keeps new
  by_worker true gained = gains_keeps old new e gained keeps brings
  by_worker false same = same_keeps old new same.0 keeps

pub settles_keeps : (old new : DeskState) (w p : ℕ) (reply : Reply) → Settles old new w p reply → Keeps old → Keeps new
settles_keeps old new w p reply settles keeps = by_worker (nat_lt w old.setting.workers) settles where
  by_wait : (x : Bool) → SettlesIf x old new w p reply → Keeps new
  by_wait true gained = gains_keeps old new (settling old.setting old.history w p reply) gained keeps tt
  by_wait false same = same_keeps old new same.0 keeps

  by_worker : (x : Bool) → SettlesAs x old new w p reply → Keeps new
  by_worker true settled = by_wait (waits old.setting old.history p) settled
  by_worker false same = same_keeps old new same.0 keeps

pub zeros_self : (bytes : List ℕ) (n : ℕ) → bytes ≡ zeros n → bytes ≡ zeros (length bytes)
zeros_self bytes n is = is ∙ ap zeros (sym (ap length is ∙ length-replicate n 0))
