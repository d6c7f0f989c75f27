-- What a call or a check that is entered, or isn't, makes of what a pass has seen.
use Rattle.std.proofs.Common.{◌≡◌, ℕ, Bool, true, false, [], ◌∷◌, ◌++◌, length, Result, Ok, Err, refl, sym, ap, ◌∙◌, subst, inl, inr}
use Rattle.std.specs.Prelude.{IfOk, OnErr}
use Rattle.bt_history.specs.declared.call.Call.{Call}
use Rattle.bt_history.specs.declared.call.Reply.{Reply}
use Rattle.bt_history.specs.Entries.{event}
use Rattle.bt_history.specs.Logs.{mark_of}
use Rattle.bt_history.specs.Setting.{Setting}
use Rattle.bt_picker.specs.Checks.{SettlesIf, SettlesNow, settling, waits}
use Rattle.bt_picker.specs.Positions.{DeskState, Gains}
use Rattle.bt_shared.specs.Passes.{Enters, EntersAt, IsSame, LogsIf, PassState, Rests, Settles}
use Rattle.bt_shared.specs.Seen.{Continues}

-- of the pass before, as it was read and as it is seen, and after, where the history was found so
module _ (view before after : PassState) (is : view ≡ before) (found : DeskState) (goes : Continues view.worker view.seen found.history)
    (same : IsSame view after) where
  pub rests : after.seen ≡ found.history → after.log ≡ view.log → Rests before after
  rests seen log =
      let P : PassState → Type 0 = λ b. Rests b after in
      subst P is record { same = same; seen = subst (Continues view.worker view.seen) (sym seen) goes; log = log }

  module _ (new : DeskState) (seen : after.seen ≡ new.history) where
    pub enters_ok : {E : Type 0} (result : Result Reply E) (call : Call) → IfOk result (λ reply. Gains found new (event view.worker call reply))
        → IfOk result (λ reply. after.log ≡ view.log ++ mark_of (length found.history) (event view.worker call reply) ∷ [])
        → IfOk result (λ reply. Enters (event before.worker call reply) before after)
    enters_ok (Ok reply) call gains log =
        let P : PassState → Type 0 = λ b. Enters (event b.worker call reply) b after in
        subst P is (found.history, record { same = same; seen = goes; entered = seen ∙ gains.entered; log = log })
    enters_ok (Err e) call gains log = tt

    pub rests_err : {E : Type 0} (result : Result Reply E) → OnErr result ((new ≡ found) × (after.log ≡ view.log)) → OnErr result (Rests before after)
    rests_err (Ok reply) same_log = tt
    rests_err (Err e) same_log = rests (seen ∙ ap (λ (d : DeskState). d.history) same_log.0) same_log.1

    settles : (b : Bool) (p : ℕ) (reply : Reply) → waits found.setting found.history p ≡ b → SettlesIf b found new view.worker p reply
        → LogsIf b (length found.history) view.log p reply after.log → after.setting ≡ found.setting → Settles p reply view after
    settles true p reply waiting made log setting =
        let P : Setting → Type 0 = λ s. (waits s found.history p ≡ true) ×
        EntersAt found.history (settling s found.history view.worker p reply) view after in
        let all = subst P (sym setting) (waiting, record { same = same; seen = goes; entered = seen ∙ made.entered; log = log }) in
        inl record { found = found.history; waiting = all.0; enters = all.1 }
    settles false p reply waiting made log setting =
        let still : after.seen ≡ found.history = seen ∙ ap (λ (d : DeskState). d.history) made.0 in
        inr record {
          unasked = rw (setting, still) waiting;
          told = rw setting made.1;
          rests = record { same = same; seen = subst (Continues view.worker view.seen) (sym still) goes; log = log };
        }

    pub settles_ok : {E : Type 0} (result : Result Reply E) (p : ℕ) → IfOk result (λ reply. SettlesNow found new view.worker p reply)
        → IfOk result (λ reply. LogsIf (waits found.setting found.history p) (length found.history) view.log p reply after.log) →
        after.setting ≡ found.setting
        → IfOk result (λ reply. Settles p reply before after)
    settles_ok (Ok reply) p made log setting =
        let P : PassState → Type 0 = λ b. Settles p reply b after in
        subst P is (settles (waits found.setting found.history p) p reply refl made log setting)
    settles_ok (Err e) p made log setting = tt
