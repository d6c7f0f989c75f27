-- What a seat's news tells, and what the place of its worker gains by it.
use Rattle.std.proofs.Common.{◌≡◌, ◌⊎◌, ◌↔◌, ◌<◌, ◌+◌, ◌/◌, ℕ, Bool, true, false, List, [], ◌∷◌, length, Option, Some, None, refl, sym, ap, subst}
use Rattle.std.proofs.Common.{◌∙◌, arith}
use Rattle.std.proofs.lemmas.List.{append-nil}
use Rattle.std.specs.Prelude.{IfSome, IfNone}
use Rattle.bt_board.proofs.Knowing.{all_given, given_more, not_given, seen_decides, seen_found, seen_stays, seen_with_loads}
use Rattle.bt_board.specs.Knowing.{has_given}
use Rattle.bt_board.specs.Seats.{Given, SeatState, seat_with}
use Rattle.bt_board.specs.Story.{IsSet, Seen, with_loads, words_of}
use Rattle.bt_board.specs.declared.view.BoardView.{BoardView}
use Rattle.bt_history.specs.Setting.{Setting}
use Rattle.bt_meta.specs.Layout.{Layout, piece_count}
use Rattle.bt_peer.specs.Desks.{calls_in}
use Rattle.bt_peer.specs.Acts.{News}
use Rattle.bt_peer.specs.Places.{AllTold, Gains}
use Rattle.bt_check.specs.declared.ticket.Ticket.{Ticket}
use Rattle.bt_session.specs.PieceChecks.{PutsIf}
use Rattle.bt_session.specs.Passes.{worker_record}
use Rattle.bt_session.specs.Workers.{TellsNone, TellsOne, WorkerState}
use Rattle.bt_shared.specs.Passes.{PassState}

-- what follows from the value, and from there being none
pub if_some : {X : Type 0} {A B : X → Type 0} → ((x : X) → A x → B x) → (r : Option X) → IfSome r A → IfSome r B
if_some f (Some x) is = f x is
if_some f None is = tt

pub if_none : {X A B : Type 0} → (A → B) → (r : Option X) → IfNone r A → IfNone r B
if_none f (Some x) is = tt
if_none f None is = f is

-- ---- a seat's news, of a board of the setting's torrent

module _ (setting : Setting) (t : Layout) (same : t ≡ setting.torrent) (old new : SeatState) where
  stays : (found : List ℕ) → new.view ≡ with_loads old.view found → (p : ℕ) → Seen old.view p → Seen new.view p
  stays found is p was = subst (λ (v : BoardView). Seen v p) (sym is) (seen_with_loads old.view found p was)

  pub news_one : (r : Option ℕ) → IfSome r (λ p. p < piece_count t)
      → IfSome r (λ p. (found : List ℕ) × (length found ≡ p / 64 + 1) × (new.view ≡ with_loads old.view found)
      × IsSet found p × (¬ Given old p) × ((q : ℕ) → q < p → IsSet found q → Given old q))
      → IfSome r (λ p. (q : ℕ) → Given new q ↔ (Given old q ⊎ (q ≡ p))) → IfSome r (λ p. TellsOne setting old p new)
  news_one (Some p) below facts given =
      let found : List ℕ = facts.0 in
      let seen : Seen new.view p =
      subst (λ (v : BoardView). Seen v p) (sym facts.2) (seen_found old.view found p (omega (arith, facts.1)) facts.3) in
      let less : p < piece_count setting.torrent = subst (λ (l : Layout). p < piece_count l) same below in
      record {
        untold = not_given old.given p facts.4;
        adds = given_more old.given new.given p given;
        stays = seen_stays (piece_count setting.torrent) old.view new.view (stays found facts.2);
        finished = (seen_decides (piece_count setting.torrent) new.view p).1 (less, seen);
      }
  news_one None below facts given = tt

  pub news_none : (r : Option ℕ)
      → IfNone r ((found : List ℕ) × (length found ≡ words_of (piece_count t))
      × (new ≡ seat_with old (with_loads old.view found)) × ((q : ℕ) → IsSet found q → Given old q))
      → IfNone r ((p : ℕ) → p < piece_count t → Seen new.view p → Given new p) → IfNone r (TellsNone setting old new)
  news_none (Some p) facts complete = tt
  news_none None facts complete = record {
    same = λ p. ap (λ (s : SeatState). has_given s.given p) facts.2;
    stays = seen_stays (piece_count setting.torrent) old.view new.view (stays facts.0 (ap (λ (s : SeatState). s.view) facts.2));
    all = all_given (piece_count setting.torrent) new.view new.given
        (λ p below. complete p (subst (λ (l : Layout). p < piece_count l) (sym same) below));
  }

-- ---- what the worker's place gains

module _ (setting : Setting) (old new : WorkerState) (lacked : Bool) (same : new.pass ≡ old.pass) where
  pub told_one : (piece : ℕ) → TellsOne setting old.seat piece new.seat →
      Gains (worker_record setting old lacked) (News piece ∷ []) (worker_record setting new lacked)
  told_one piece one = record {
    up_to = record {
      lent = refl;
      worker = ap (λ (p : PassState). p.worker) same;
      setting = refl;
      calls = ap (λ (p : PassState). calls_in p.seen p.worker) same ∙ sym (append-nil (calls_in old.pass.seen old.pass.worker));
      others = λ worker. refl;
      had = one.stays;
      in_order = ([], refl);
      told = (one.untold, one.adds);
      finished = (one.finished, tt);
    };
    lacked = refl;
  }

  pub told_none : TellsNone setting old.seat new.seat →
      Gains (worker_record setting old lacked) [] (worker_record setting new lacked) × AllTold (worker_record setting new lacked)
  told_none nothing = (
    record {
      up_to = record {
        lent = refl;
        worker = ap (λ (p : PassState). p.worker) same;
        setting = refl;
        calls = ap (λ (p : PassState). calls_in p.seen p.worker) same ∙ sym (append-nil (calls_in old.pass.seen old.pass.worker));
        others = λ worker. refl;
        had = nothing.stays;
        in_order = ([], refl);
        told = nothing.same;
        finished = tt;
      };
      lacked = refl;
    },
    nothing.all,
  )

-- a ticket doesn't show at the place
gains_none : (setting : Setting) (worker : WorkerState) (lacked : Bool) →
    Gains (worker_record setting worker lacked) [] (worker_record setting worker lacked)
gains_none setting worker lacked = record {
  up_to = record {
    lent = refl;
    worker = refl;
    setting = refl;
    calls = sym (append-nil (calls_in worker.pass.seen worker.pass.worker));
    others = λ worker. refl;
    had = λ piece is. is;
    in_order = ([], refl);
    told = λ piece. refl;
    finished = tt;
  };
  lacked = refl;
}

pub puts_gains : (setting : Setting) (old new : WorkerState) (lacked told : Bool) (ticket : Ticket) → PutsIf told ticket old new →
    Gains (worker_record setting old lacked) [] (worker_record setting new lacked)
puts_gains setting old new lacked true ticket puts =
    subst (λ (w : WorkerState). Gains (worker_record setting old lacked) [] (worker_record setting w lacked)) (sym puts)
    (gains_none setting old lacked)
puts_gains setting old new lacked false ticket puts =
    subst (λ (w : WorkerState). Gains (worker_record setting old lacked) [] (worker_record setting w lacked)) (sym puts)
    (gains_none setting old lacked)
