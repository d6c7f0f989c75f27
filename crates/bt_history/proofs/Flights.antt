-- What an entry that tells of a request in flight changes and leaves.
use Rattle.std.proofs.Common.{◌≡◌, ℕ, ◌==◌, Bool, true, false, not, ◌&&◌, ◌||◌, [], ◌∷◌, ◌++◌, List, ap, refl, sym, ◌∙◌}
use Rattle.std.proofs.lemmas.Bool.{false≢true}
use Rattle.std.proofs.Math.Bool.{or-false}
use Rattle.std.specs.Prelude.{if◌then◌else◌}
use Rattle.std.specs.List.{filter, list_any}
use Rattle.bt_meta.specs.declared.block.Block.{Block}
use Rattle.bt_history.specs.declared.call.Call.{Call}
use Rattle.bt_history.specs.declared.call.Call.TheVariants as calls
use Rattle.bt_history.specs.declared.call.Reply.{Reply}
use Rattle.bt_history.specs.declared.call.Reply.TheVariants.{InFlight}
use Rattle.bt_history.specs.declared.event.Action.TheVariants.{Requested}
use Rattle.bt_history.specs.declared.event.Event.{Event}
use Rattle.bt_history.specs.Before.{requested_before, tells_flight}
use Rattle.bt_history.specs.Entries.{action_of, counting}
use Rattle.bt_history.specs.Flights.{CountsOne}
use Rattle.bt_history.specs.History.{History, requested_by, same_begin}
use Rattle.bt_history.specs.Legal.{IsAllowed}
use Rattle.bt_history.specs.Setting.{Setting}
use Rattle.bt_history.specs.Peers.{alone, alone_after, asked, delays, due, is_open, is_open_after, joined, joined_after, late, late_after, outstanding}
use Rattle.bt_history.specs.Peers.{overdue, reach, reach_after, releases, resets, shows, shows_after, told_after, told_depth}
use Rattle.bt_history.specs.Pieces.{had, kept, level, order_from, sender}
use Rattle.bt_history.proofs.Allowed.{flight_facts}
use Rattle.bt_history.proofs.TakingBack.{filter_all, if_own}

module _ (h : History) (w : ℕ) (a : Block) (q : ℕ) (b : Block) where
  asked_one : (x : Bool) → (not (resets (if_own x (Requested a.piece a.begin)))
      && ((not (releases (if_own x (Requested a.piece a.begin)) b) && asked h q b) || list_any (λ c. same_begin c b) (if x then a ∷ [] else [])))
      ≡ (asked h q b || (x && same_begin a b))
  asked_one true = ap (λ (y : Bool). asked h q b || y) (or-false (same_begin a b))
  asked_one false = refl

  line_one : (x : Bool) → (if resets (if_own x (Requested a.piece a.begin)) then []
      else filter (λ c. not (releases (if_own x (Requested a.piece a.begin)) c)) (outstanding h q) ++ (if x then a ∷ [] else []))
      ≡ outstanding h q ++ (if x then a ∷ [] else [])
  line_one true = ap (λ (bs : List Block). bs ++ a ∷ []) (filter_all (outstanding h q))
  line_one false = ap (λ (bs : List Block). bs ++ []) (filter_all (outstanding h q))

  late_one : (x : Bool) → (not (resets (if_own x (Requested a.piece a.begin))) && (not (releases (if_own x (Requested a.piece a.begin)) b)
      && ((delays (if_own x (Requested a.piece a.begin)) b && asked h q b) || overdue h q b))) ≡ overdue h q b
  late_one true = refl
  late_one false = refl

  due_one : (x : Bool) → (not (resets (if_own x (Requested a.piece a.begin))) && (not (x && false) && (due h q b || false))) ≡ due h q b
  due_one true = or-false _
  due_one false = or-false _

  -- what was told of the peer
  record Told (x : Bool) : Type 0 where
    pub members : joined_after (if_own x (Requested a.piece a.begin)) (joined h q) ≡ joined h q
    pub pieces_shown : shows_after (if_own x (Requested a.piece a.begin)) b.piece (shows h q b.piece) ≡ shows h q b.piece
    pub told : late_after (if_own x (Requested a.piece a.begin)) (late h q) ≡ late h q
    pub opened : is_open_after (if_own x (Requested a.piece a.begin)) (is_open h q) ≡ is_open h q
    pub depth : told_after (if_own x (Requested a.piece a.begin)) (told_depth h q) ≡ told_depth h q
    pub highest : reach_after (if_own x (Requested a.piece a.begin)) (reach h q) ≡ reach h q
    pub apart : alone_after (if_own x (Requested a.piece a.begin)) (alone h q) ≡ alone h q

  told : (x : Bool) → Told x
  told true = record { members = refl; pieces_shown = refl; told = refl; opened = refl; depth = refl; highest = refl; apart = refl }
  told false = record { members = refl; pieces_shown = refl; told = refl; opened = refl; depth = refl; highest = refl; apart = refl }

  pub counts_one : CountsOne (counting w a) a h q b
  unfolding alone asked due is_open joined late level order_from outstanding overdue reach shows told_depth kept sender had
  counts_one =
      let on = told (w == q) in
      record {
        requests = asked_one (w == q);
        line = line_one (w == q);
        late_requests = late_one (w == q);
        cancels = due_one (w == q);
        members = on.members;
        pieces_shown = on.pieces_shown;
        told = on.told;
        opened = on.opened;
        depth = on.depth;
        highest = on.highest;
        apart = on.apart;
        bytes = refl;
        brought = refl;
        complete = refl;
        levels = refl;
        order = refl;
      }

-- ---- without such entries

-- an entry that tells of no request in flight asks for what it asked for before there were such calls
pub asks_as_before : (s : Setting) (h : History) (e : Event) → IsAllowed s h e → tells_flight e.action ≡ false
    → requested_by e.reply ≡ requested_before e.reply
asks_as_before s h e allowed untold = by_reply e.reply refl where
  by_reply : (r : Reply) → e.reply ≡ r → requested_by r ≡ requested_before r
  by_reply (InFlight b) is = absurd (false≢true (sym untold ∙ ap tells_flight (flight_facts s h e b allowed is).call))
  by_reply r is = refl

-- no call of a journal tells of one
pub journal_untold : (call : Call) → tells_flight (action_of call) ≡ false
journal_untold calls.Join = refl
journal_untold call = refl
