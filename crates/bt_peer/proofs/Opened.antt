-- The desk of a run before its first round.
use Rattle.std.proofs.Common.{◌≡◌, ◌<◌, ◌≤◌, ℕ, Bool, false, true, not, nat_lt, List, [], ◌∷◌, length, get_or, refl, sym, ap, subst, ◌==◌, ◌∙◌}
use Rattle.std.proofs.Common.{arith, eq-eqb}
use Rattle.std.proofs.lemmas.Bool.Decides.{nat_tests}
use Rattle.std.proofs.lemmas.List.{length-replicate}
use Rattle.bt_meta.specs.Layout.{piece_count}
use Rattle.bt_history.specs.declared.call.Reason.TheVariants.{WrongCount}
use Rattle.bt_history.specs.declared.call.Reply.{Reply}
use Rattle.bt_history.specs.declared.call.Reply.TheVariants.{Quiet}
use Rattle.bt_history.specs.declared.event.Action.TheVariants.{Want}
use Rattle.bt_history.specs.declared.event.Event.{Event as Entry}
use Rattle.bt_history.specs.History.{History}
use Rattle.bt_history.specs.Legal.{IsAllowed, Permits, answer, answer_unless, first_cause, refusal}
use Rattle.bt_history.specs.Next.{Exactly}
use Rattle.bt_history.specs.Finished.{finished}
use Rattle.bt_history.specs.Peers.{flag}
use Rattle.bt_history.specs.Pieces.{had, level, level_if}
use Rattle.bt_history.specs.Setting.{Setting}
use Rattle.bt_picker.specs.Positions.{DeskState, Gains as Enters}
use Rattle.bt_peer.specs.Desks.{calls_in}
use Rattle.bt_peer.specs.News.{AreTold}
use Rattle.bt_peer.specs.declared.seat.Seat.{Seat}
use Rattle.bt_peer.specs.declared.stream.TheConstants.{MOST_STREAMS}
use Rattle.bt_peer.specs.Course.{AreNew, IsFresh, HasOpened, MayTakeTurns}
use Rattle.bt_peer.specs.SessionTerms.{TermsState, pieces_of}
use Rattle.bt_peer.proofs.Desks.{calls_in-own, calls_in-other}
use Rattle.bt_peer.proofs.News.{told_none_yet}

-- the empty desk is fresh
pub fresh_empty : (count : ℕ) (desk : DeskState) → desk.history ≡ [] → IsFresh count desk
unfolding had
fresh_empty count desk empty = record {
  uncalled = λ worker. λ apart. ap (λ (h : History). calls_in h worker) empty;
  none_had = λ piece. ap (λ (h : History). had h piece) empty;
}

-- a Want of as many pieces as there are is not refused
want_quiet : (s : Setting) (h : History) (worker : ℕ) (flags : List Bool) (reply : Reply) → length flags ≡ piece_count s.torrent →
    IsAllowed s h (record { worker = worker; action = Want flags; reply = reply }) → reply ≡ Quiet
unfolding IsAllowed
want_quiet s h worker flags reply same allowed =
    subst (λ (b : Bool). Permits s.torrent (answer_unless (first_cause ((not b, WrongCount) ∷ [])) (Exactly Quiet)) reply)
    (eq-eqb (length flags) (piece_count s.torrent) same) allowed.1

-- a piece is chosen just where its level is that of a chosen one
above_none : (is_chosen : Bool) → nat_lt 0 (level_if is_chosen) ≡ is_chosen
above_none true = refl
above_none false = refl

-- a Want as the first call of all
first_want : (setting : Setting) (worker : ℕ) (flags : List Bool) →
    HasOpened worker flags (record { setting = setting; history = record { worker = worker; action = Want flags; reply = Quiet } ∷ [] })
unfolding had level
first_want setting worker flags =
    let e : Entry = record { worker = worker; action = Want flags; reply = Quiet } in
    record {
      fresh = record {
        uncalled = λ other. λ apart.
            let differs : (e.worker == other) ≡ false = grind (arith, nat_tests) in
            calls_in-other [] e other differs;
        none_had = λ piece. refl;
      };
      opened = calls_in-own [] e worker (eq-eqb worker worker refl);
      chosen = λ piece. above_none (flag flags piece);
    }

pub opened_by : (old new : DeskState) (worker : ℕ) (flags : List Bool) (reply : Reply) → old.history ≡ [] →
    length flags ≡ piece_count old.setting.torrent →
    Enters old new (record { worker = worker; action = Want flags; reply = reply }) → HasOpened worker flags new
opened_by old new worker flags reply empty same enters =
    let quiet = want_quiet old.setting old.history worker flags reply same enters.allowed in
    let entry : Reply → Entry = λ r. record { worker = worker; action = Want flags; reply = r } in
    let is : new ≡ record { setting = old.setting; history = entry Quiet ∷ [] } =
    ap (λ (setting : Setting). let desk : DeskState = record { setting = setting; history = new.history } in desk) enters.setting
    ∙ (ap (λ (h : History). let desk : DeskState = record { setting = old.setting; history = h } in desk) enters.entered
    ∙ (ap (λ (h : History). let desk : DeskState = record { setting = old.setting; history = entry reply ∷ h } in desk) empty
    ∙ ap (λ (r : Reply). let desk : DeskState = record { setting = old.setting; history = entry r ∷ [] } in desk) quiet)) in
    subst (HasOpened worker flags) (sym is) (first_want old.setting worker flags)

-- a run with new seats may take turns
pub AreNew-may : {X : Type 0} (terms : TermsState) (seed : ℕ) (desk : DeskState) (seats : List Seat) (streams : List X) →
    desk.setting.torrent ≡ terms.layout → length streams < desk.setting.workers → length streams ≤ MOST_STREAMS → length seats ≡ length streams →
    AreNew terms seed seats → MayTakeTurns desk seats streams
AreNew-may terms seed desk seats streams layout workers few seated new = record {
  seated = seated;
  workers = workers;
  few = few;
  fit = λ i. λ any. λ within.
      let seat = get_or seats i any in
      record {
        count = ap length (new i any within).told ∙ (length-replicate {A = Bool} (pieces_of terms) false ∙ ap piece_count (sym layout));
        told = subst (λ (n : ℕ). AreTold seat.told n (finished desk.history)) (sym (new i any within).seen)
            (told_none_yet seat.told (finished desk.history));
      };
}
