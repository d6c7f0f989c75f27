-- What a place at a shared desk gains by its pass's calls.
use Rattle.std.proofs.Common.{ℕ, Bool, true, false, List, [], ◌∷◌, ◌++◌, ◌==◌, length, ◌≡◌, Result, Ok, Err, refl, sym, ap, subst, ◌∙◌, eq-eqb}
use Rattle.std.proofs.Common.{if◌then◌else◌}
use Rattle.std.specs.Prelude.{IfOk, OnErr}
use Rattle.std.proofs.lemmas.List.{append-nil, map-append}
use Rattle.bt_history.specs.declared.call.Call.{Call}
use Rattle.bt_history.specs.declared.call.Reply.{Reply}
use Rattle.bt_history.specs.declared.event.Action.{Action}
use Rattle.bt_history.specs.declared.event.Event.{Event}
use Rattle.bt_history.specs.Entries.{action_of, event}
use Rattle.bt_history.specs.History.{History}
use Rattle.bt_history.specs.Logs.{call_mark, mark_of, marks_of}
use Rattle.bt_history.specs.declared.mark.CallMark.{CallMark}
use Rattle.bt_history.specs.declared.mark.Mark.{Mark}
use Rattle.bt_history.specs.Setting.{Setting}
use Rattle.bt_shared.specs.Passes.{Enters, Notes, PassState, Rests}
use Rattle.bt_shared.specs.Seen.{own}
use Rattle.bt_peer.proofs.Desks.{calls_in-own, calls_in-other}
use Rattle.bt_peer.specs.Conduct.{Calls}
use Rattle.bt_peer.specs.Desks.{calls_in}
use Rattle.bt_peer.specs.Acts.{Called}
use Rattle.bt_session.specs.PieceChecks.{IsQuiet}
use Rattle.bt_board.specs.Seats.{SeatState}
use Rattle.bt_session.specs.Passes.{KeepsCalls, pass_record, worker_record}
use Rattle.bt_session.specs.Swarms.{calls_of_marks, marked}
use Rattle.bt_session.specs.Workers.{WorkerState, knows, tells}
use Rattle.bt_peer.specs.Places.{Gains}

-- ---- a worker's calls, by its own entries

-- the calls of all entries, the oldest first
abbrev calls_by : History → Calls
calls_by [] = []
calls_by (e ∷ h) = calls_by h ++ (e.action, e.reply) ∷ []

one_own : (is : Bool) (e : Event) (h : History) (worker : ℕ) → (e.worker == worker) ≡ is → calls_in h worker ≡ calls_by (own worker h) →
    calls_in (e ∷ h) worker ≡ calls_by (own worker (e ∷ h))
one_own true e h worker is same =
    calls_in-own h e worker is ∙ ap (λ (calls : Calls). calls ++ (e.action, e.reply) ∷ []) same
    ∙ sym (ap (λ (b : Bool). calls_by (if b then e ∷ own worker h else own worker h)) is)
one_own false e h worker is same =
    calls_in-other h e worker is ∙ same ∙ sym (ap (λ (b : Bool). calls_by (if b then e ∷ own worker h else own worker h)) is)

calls_own : (h : History) (worker : ℕ) → calls_in h worker ≡ calls_by (own worker h)
calls_own [] worker = refl
calls_own (e ∷ h) worker = one_own (e.worker == worker) e h worker refl (calls_own h worker)

-- histories with the same entries of a worker have the same calls of it
pub same_calls : (worker : ℕ) (h k : History) → own worker h ≡ own worker k → calls_in h worker ≡ calls_in k worker
same_calls worker h k same = calls_own h worker ∙ ap calls_by same ∙ sym (calls_own k worker)

one_marked : (is : Bool) (h : History) (e : Event) (worker : ℕ) → (e.worker == worker) ≡ is →
    calls_of_marks (marks_of h worker) ≡ marked (calls_in h worker) → calls_of_marks (marks_of (e ∷ h) worker) ≡ marked (calls_in (e ∷ h) worker)
one_marked true h e worker is same =
    let nothing : List Mark = [] in
    let mark : CallMark × Reply = (call_mark e.action, e.reply) in
    ap (λ (b : Bool). calls_of_marks (marks_of h worker ++ (if b then mark_of (length h) e ∷ [] else nothing))) is
    ∙ map-append (λ (m : Mark). (m.call, m.reply)) (marks_of h worker) (mark_of (length h) e ∷ [])
    ∙ ap (λ (marks : List (CallMark × Reply)). marks ++ mark ∷ []) same
    ∙ sym (map-append (λ (made : Action × Reply). (call_mark made.0, made.1)) (calls_in h worker) ((e.action, e.reply) ∷ []))
    ∙ sym (ap marked (calls_in-own h e worker is))
one_marked false h e worker is same =
    let nothing : List Mark = [] in
    ap (λ (b : Bool). calls_of_marks (marks_of h worker ++ (if b then mark_of (length h) e ∷ [] else nothing))) is
    ∙ ap calls_of_marks (append-nil (marks_of h worker)) ∙ same ∙ sym (ap marked (calls_in-other h e worker is))

-- the marks of a worker's entries are those of its calls
pub marks_calls : (h : History) (worker : ℕ) → calls_of_marks (marks_of h worker) ≡ marked (calls_in h worker)
marks_calls [] worker = refl
marks_calls (e ∷ h) worker = one_marked (e.worker == worker) h e worker refl (marks_calls h worker)

-- ---- a pass's calls

-- an entry of the pass is one call more
entered_calls : (call : Call) (reply : Reply) (old new : PassState) → Enters (event old.worker call reply) old new →
    calls_in new.seen new.worker ≡ calls_in old.seen old.worker ++ (action_of call, reply) ∷ []
entered_calls call reply old new enters =
    let e = event old.worker call reply in
    let found = enters.0 in
    ap (λ (worker : ℕ). calls_in new.seen worker) enters.1.same.worker
    ∙ ap (λ (h : History). calls_in h old.worker) enters.1.entered
    ∙ calls_in-own found e old.worker (eq-eqb old.worker old.worker refl)
    ∙ ap (λ (calls : Calls). calls ++ (action_of call, reply) ∷ []) (same_calls old.worker found old.seen enters.1.seen.same)

module _ (setting : Setting) (old new : PassState) (had told : ℕ → Bool) (lacked : Bool) where
  entered : (call : Call) (reply : Reply) → Enters (event old.worker call reply) old new
      → Gains (pass_record setting old.worker (calls_in old.seen old.worker) had told lacked) (Called (action_of call) reply ∷ [])
      (pass_record setting new.worker (calls_in new.seen new.worker) had told lacked)
  entered call reply enters = record {
    up_to = record {
      lent = refl;
      worker = enters.1.same.worker;
      setting = refl;
      calls = entered_calls call reply old new enters;
      others = λ worker. refl;
      had = λ piece is. is;
      in_order = ([], refl);
      told = λ piece. refl;
      finished = tt;
    };
    lacked = refl;
  }

-- a worker made a call, and its seat is as it was
pub entered_call : (setting : Setting) (old new : WorkerState) (lacked : Bool) (call : Call) (reply : Reply) →
    Enters (event old.pass.worker call reply) old.pass new.pass → new.seat ≡ old.seat →
    Gains (worker_record setting old lacked) (Called (action_of call) reply ∷ []) (worker_record setting new lacked)
entered_call setting old new lacked call reply enters same =
    subst (λ (seat : SeatState). Gains (worker_record setting old lacked) (Called (action_of call) reply ∷ [])
    (pass_record setting new.pass.worker (calls_in new.pass.seen new.pass.worker) (knows setting seat) (tells seat) lacked)) (sym same)
    (entered setting old.pass new.pass (knows setting old.seat) (tells old.seat) lacked call reply enters)

-- a pass that made no entry made no call
pub kept_err : {A E : Type 0} (result : Result A E) (old new : PassState) → OnErr result (Rests old new) → OnErr result (KeepsCalls old new)
kept_err (Ok a) old new rests = tt
kept_err (Err e) old new rests = record {
  worker = rests.same.worker;
  calls = ap (λ (worker : ℕ). calls_in new.seen worker) rests.same.worker ∙ same_calls old.worker new.seen old.seen rests.seen.same;
}
