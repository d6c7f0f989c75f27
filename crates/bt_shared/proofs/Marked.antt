-- The marks of a worker's entries in what its pass has seen.
use Rattle.std.proofs.Common.{◌≡◌, ℕ, ◌==◌, ◌+◌, Bool, true, false, Result, Ok, Err, inl, List, [], ◌∷◌, ◌++◌, cond, length, length-append}
use Rattle.std.proofs.Common.{append-nil, refl, sym, ap, ◌∙◌, subst, arith, eq-eqb}
use Rattle.std.proofs.lemmas.List.{nil_from_length}
use Rattle.std.specs.Prelude.{IfOk, OnErr}
use Rattle.bt_history.specs.declared.call.Call.{Call}
use Rattle.bt_history.specs.declared.call.Reply.{Reply}
use Rattle.bt_history.specs.declared.event.Event.{Event}
use Rattle.bt_history.specs.declared.mark.Mark.{Mark}
use Rattle.bt_history.specs.History.{History}
use Rattle.bt_history.specs.Entries.{event}
use Rattle.bt_history.specs.Logs.{Agrees, mark_of, marks_of}
use Rattle.bt_picker.specs.Checks.{SettlesIf, SettlesNow, settling, waits}
use Rattle.bt_picker.specs.Positions.{DeskState, Gains}
use Rattle.bt_shared.specs.declared.view.Part.{Part}
use Rattle.bt_shared.specs.declared.view.DeskView.{DeskView}
use Rattle.bt_shared.specs.Guard.{MayTake, Sat, Saw, meeting, part}
use Rattle.bt_shared.specs.Passes.{IsSeatOf, LogsIf}
use Rattle.bt_shared.specs.Seen.{Continues, Each, IsAmong, Knows, own}
use Rattle.bt_shared.proofs.Histories.{own_append}

-- entries of others leave no mark
marks_others : (w : ℕ) (newer seen : History) → own w newer ≡ [] → marks_of (newer ++ seen) w ≡ marks_of seen w
marks_others w [] seen none = refl
marks_others w (e ∷ newer) seen none = go (marks_others w newer seen) (e.worker == w) refl
  where
    go : (own w newer ≡ [] → marks_of (newer ++ seen) w ≡ marks_of seen w) → (b : Bool) → (e.worker == w) ≡ b →
        marks_of (e ∷ (newer ++ seen)) w ≡ marks_of seen w
    go before true is = let no : e ∷ own w newer ≡ [] = subst (λ (b : Bool). cond b (e ∷ own w newer) (own w newer) ≡ []) is none in absurd cc
    go before false is =
        let rest : own w newer ≡ [] = subst (λ (b : Bool). cond b (e ∷ own w newer) (own w newer) ≡ []) is none in
        rw is (append-nil (marks_of (newer ++ seen) w) ∙ before rest)

pub marks_continue : (w : ℕ) (seen h : History) → Continues w seen h → marks_of h w ≡ marks_of seen w
marks_continue w seen h c =
    let l : length (own w h) ≡ length (own w c.begins.newer) + length (own w seen) =
    ap length (ap (own w) c.begins.is ∙ own_append w c.begins.newer seen) ∙ length-append (own w c.begins.newer) (own w seen) in
    let m : length (own w h) ≡ length (own w seen) = ap length c.same in
    let none : own w c.begins.newer ≡ [] = nil_from_length (own w c.begins.newer) (omega arith) in
    ap (λ (x : History). marks_of x w) c.begins.is ∙ marks_others w c.begins.newer seen none

-- a seat that speaks for one worker
pub knows_continue : (h : History) (p : Part) (w : ℕ) → p.workers ≡ w ∷ [] → Knows h p.workers p.seen → Continues w p.seen h
knows_continue h p w alone k = record { begins = k.begins; same = k.complete w (subst (IsAmong w) (sym alone) (inl refl)) }

-- the same of the desk behind a reference, which is the one that was found
pub there_continue : (w : ℕ) (seen : History) (there found : DeskState) → there ≡ found → Continues w seen found.history →
    Continues w seen there.history
there_continue w seen there found is c = subst (λ (d : DeskState). Continues w seen d.history) (sym is) c

-- a pass's seat may take the word
pub seat_may : (w : ℕ) (m : Sat) → IsSeatOf w m → MayTake m
seat_may w m seat = record { idle = seat.idle; worker = w; speaks = subst (IsAmong w) (sym seat.alone) (inl refl) }

pub agrees_continue : (w : ℕ) (seen h after : History) (log : List Mark) → Continues w seen h → after ≡ h → Agrees seen w log → Agrees after w log
agrees_continue w seen h after log c is a = record {
  exact =
      a.exact ∙ (sym (marks_continue w seen h c) ∙ ap (λ (x : History). marks_of x w) (sym is));
}

agrees_gain : (h : History) (e : Event) (log : List Mark) → Agrees h e.worker log → Agrees (e ∷ h) e.worker (log ++ mark_of (length h) e ∷ [])
agrees_gain h e log a =
    let b : (e.worker == e.worker) ≡ true = eq-eqb e.worker e.worker refl in
    record { exact = rw b (ap (λ (l : List Mark). l ++ mark_of (length h) e ∷ []) a.exact) }

agrees_now : (old new : DeskState) (w : ℕ) (after : History) (log log' : List Mark) → new ≡ old → log' ≡ log → after ≡ new.history →
    Agrees old.history w log → Agrees after w log'
agrees_now old new w after log log' same same-log is a = record
    { exact = same-log ∙ (a.exact ∙ ap (λ (x : History). marks_of x w) (sym (is ∙ ap (λ (d : DeskState). d.history) same))) }

agrees_then : (old new : DeskState) (e : Event) (after : History) (log log' : List Mark) → Gains old new e →
    log' ≡ log ++ mark_of (length old.history) e ∷ [] → after ≡ new.history
    → Agrees old.history e.worker log → Agrees after e.worker log'
agrees_then old new e after log log' gains same-log is a =
    let grown = agrees_gain old.history e log a in
    record { exact = same-log ∙ (grown.exact ∙ ap (λ (x : History). marks_of x e.worker) (sym (is ∙ gains.entered))) }

-- after a call
pub agrees_call : {E : Type 0} (result : Result Reply E) (old new : DeskState) (w : ℕ) (seen after : History) (call : Call) (log log' : List Mark)
    → IfOk result (λ reply. Gains old new (event w call reply)) →
    IfOk result (λ reply. log' ≡ log ++ mark_of (length old.history) (event w call reply) ∷ [])
    → OnErr result ((new ≡ old) × (log' ≡ log)) → Continues w seen old.history → after ≡ new.history → Agrees seen w log → Agrees after w log'
agrees_call (Ok reply) old new w seen after call log log' gains noted err c is a =
    agrees_then old new (event w call reply) after log log' gains noted is (agrees_continue w seen old.history old.history log c refl a)
agrees_call (Err e) old new w seen after call log log' gains noted err c is a =
    agrees_now old new w after log log' err.0 err.1 is (agrees_continue w seen old.history old.history log c refl a)

agrees_settles : (b : Bool) (old new : DeskState) (w p : ℕ) (reply : Reply) (after : History) (log log' : List Mark)
    → SettlesIf b old new w p reply → LogsIf b (length old.history) log p reply log' → after ≡ new.history → Agrees old.history w log →
    Agrees after w log'
agrees_settles true old new w p reply after log log' made noted is a =
    agrees_then old new (settling old.setting old.history w p reply) after log log' made noted is a
agrees_settles false old new w p reply after log log' made noted is a = agrees_now old new w after log log' made.0 noted is a

-- after a check
pub agrees_check : {E : Type 0} (result : Result Reply E) (old new : DeskState) (w : ℕ) (seen after : History) (p : ℕ) (log log' : List Mark)
    → IfOk result (λ reply. SettlesNow old new w p reply) → IfOk result
    (λ reply. LogsIf (waits old.setting old.history p) (length old.history) log p reply log')
    → OnErr result ((new ≡ old) × (log' ≡ log)) → Continues w seen old.history → after ≡ new.history → Agrees seen w log → Agrees after w log'
agrees_check (Ok reply) old new w seen after p log log' made noted err c is a =
    agrees_settles (waits old.setting old.history p) old new w p reply after log log' made noted is
    (agrees_continue w seen old.history old.history log c refl a)
agrees_check (Err e) old new w seen after p log log' made noted err c is a =
    agrees_now old new w after log log' err.0 err.1 is (agrees_continue w seen old.history old.history log c refl a)

-- of the two that a join found, the first was a pass's, and has no more entries of its worker then
module _ (h : History) (old : Sat) (u after : DeskView) (w : ℕ) (seat : IsSeatOf w old) (is : after ≡ meeting old.0 u)
    (saw : Each (Saw h after.part.workers) after.parts) where
  both : Each (Saw h after.part.workers) (part (w ∷ []) old.0.part.seen ∷ u.parts)
  both = subst (Each (Saw h after.part.workers)) (ap (λ (v : DeskView). v.parts) is ∙ ap (λ (ps : List Part). ps ++ u.parts) seat.whole) saw

  pub met_continues : Continues w old.0.part.seen h
  met_continues = knows_continue h (part (w ∷ []) old.0.part.seen) w refl both.0.knows
