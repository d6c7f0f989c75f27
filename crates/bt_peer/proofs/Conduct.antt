-- Stretches of a worker's calls, one after another: their numbers, and the checks of the pieces that they complete.
use Rattle.std.proofs.Common.{◌≡◌, ℕ, Bool, true, false, ◌&&◌, List, [], ◌∷◌, ◌++◌, map, Option, Some, None, refl, sym, ap, subst, ◌∙◌, ◌⊎◌}
use Rattle.std.proofs.Common.{append_assoc, inl, inr}
use Rattle.std.proofs.lemmas.List.{append-nil}
use Rattle.std.proofs.lemmas.Bool.{and_parts}
use Rattle.rand_core.specs.Stream.{Stream, next_u64}
use Rattle.bt_history.specs.declared.call.Reply.{Reply}
use Rattle.bt_history.specs.declared.event.Action.{Action}
use Rattle.bt_history.specs.declared.event.Action.TheVariants as actions
use Rattle.bt_history.specs.declared.call.Reply.TheVariants as replies
use Rattle.bt_wire.specs.declared.message.Message.{Message}
use Rattle.bt_wire.specs.declared.message.Message.TheVariants as messages
use Rattle.bt_peer.specs.declared.fault.SessionFault.{SessionFault}
use Rattle.bt_peer.specs.Acts.{Act, Called, News, calls_of}
use Rattle.bt_peer.specs.Outlets.{StopsCall, Outlet}
use Rattle.bt_peer.specs.Places.{PlaceRecord, Gains, GainsUpTo}
use Rattle.bt_peer.specs.Steps.{Leaves, Departs}
use Rattle.bt_peer.specs.Turns.{call_of, arrived_piece, if_completed}
use Rattle.bt_peer.specs.Parts.{CallStops}
use Rattle.bt_peer.proofs.Asking.{stops_ways}
use Rattle.bt_peer.specs.Conduct.{Calls, Draws, given_number, numbers_of, completed_by, checks_first, all_checked, Conducts, DrawsNumbers}
use Rattle.bt_peer.proofs.CallKinds.{of_message}

pub numbers_of-append : (xs ys : Calls) → numbers_of (xs ++ ys) ≡ numbers_of xs ++ numbers_of ys
numbers_of-append [] ys = refl
numbers_of-append (made ∷ xs) ys =
    ap (λ (numbers : List ℕ). given_number made.0 ++ numbers) (numbers_of-append xs ys)
    ∙ sym (append_assoc (given_number made.0) (numbers_of xs) (numbers_of ys))

pub Draws-join : (a b c : Stream) (xs ys : List ℕ) → Draws a xs b → Draws b ys c → Draws a (xs ++ ys) c
Draws-join a b c [] ys first second = subst (λ (s : Stream). Draws s ys c) first second
Draws-join a b c (number ∷ xs) ys first second = (first.0, Draws-join (next_u64 a).1 b c xs ys first.1 second)

both : (a b : Bool) → a ≡ true → b ≡ true → (a && b) ≡ true
both true b first second = second
both false b first second = absurd (cc first)

checks_first-append : (piece : Option ℕ) (xs ys : Calls) → checks_first piece xs ≡ true → checks_first piece (xs ++ ys) ≡ true
checks_first-append None xs ys is = refl
checks_first-append (Some piece) [] ys is = absurd (cc is)
checks_first-append (Some piece) (made ∷ xs) ys is = is

pub all_checked-append : (xs ys : Calls) → all_checked xs ≡ true → all_checked ys ≡ true → all_checked (xs ++ ys) ≡ true
all_checked-append [] ys first second = second
all_checked-append (made ∷ xs) ys first second =
    let parts = and_parts (checks_first (completed_by made) xs) (all_checked xs) first in
    both (checks_first (completed_by made) (xs ++ ys)) (all_checked (xs ++ ys)) (checks_first-append (completed_by made) xs ys parts.0)
    (all_checked-append xs ys parts.1 second)

pub Conducts-none : (settles : Bool) (generator : Stream) (calls : Calls) → Conducts settles generator calls calls generator
Conducts-none settles generator calls =
    record { gained = []; calls = sym (append-nil calls); drawn = refl; checked = λ own. refl }

pub Conducts-join : {settles : Bool} {s t u : Stream} {a b c : Calls} → Conducts settles s a b t → Conducts settles t b c u → Conducts settles s a c u
Conducts-join {s = s} {t = t} {u = u} {a = a} first second = record {
  gained = first.gained ++ second.gained;
  calls = second.calls ∙ ap (λ (calls : Calls). calls ++ second.gained) first.calls ∙ append_assoc a first.gained second.gained;
  drawn = subst (λ (numbers : List ℕ). Draws s numbers u) (sym (numbers_of-append first.gained second.gained))
      (Draws-join s t u (numbers_of first.gained) (numbers_of second.gained) first.drawn second.drawn);
  checked = λ own. all_checked-append first.gained second.gained (first.checked own) (second.checked own);
}

pub Conducts-draws : {settles : Bool} {s t : Stream} {a b : Calls} → Conducts settles s a b t → DrawsNumbers s a b
Conducts-draws {t = t} conducts =
    record { gained = conducts.gained; calls = conducts.calls; left = t; drawn = conducts.drawn }

pub DrawsNumbers-none : (s : Stream) (calls : Calls) → DrawsNumbers s calls calls
DrawsNumbers-none s calls = record { gained = []; calls = sym (append-nil calls); left = s; drawn = refl }

-- a stretch, then one that may have been cut off
pub DrawsNumbers-join : {settles : Bool} {s t : Stream} {a b c : Calls} → Conducts settles s a b t → DrawsNumbers t b c → DrawsNumbers s a c
DrawsNumbers-join {s = s} {t = t} {a = a} first second = record {
  gained = first.gained ++ second.gained;
  calls = second.calls ∙ ap (λ (calls : Calls). calls ++ second.gained) first.calls ∙ append_assoc a first.gained second.gained;
  left = second.left;
  drawn = subst (λ (numbers : List ℕ). Draws s numbers second.left) (sym (numbers_of-append first.gained second.gained))
      (Draws-join s t second.left (numbers_of first.gained) (numbers_of second.gained) first.drawn second.drawn);
}

-- calls that draw no number leave the generator as it is
pub DrawsNumbers-silent : (s : Stream) (a b c gained : Calls) → DrawsNumbers s a b → c ≡ b ++ gained → numbers_of gained ≡ [] → DrawsNumbers s a c
DrawsNumbers-silent s a b c gained draws is silent = record {
  gained = draws.gained ++ gained;
  calls = is ∙ ap (λ (calls : Calls). calls ++ gained) draws.calls ∙ append_assoc a draws.gained gained;
  left = draws.left;
  drawn = subst (λ (numbers : List ℕ). Draws s numbers draws.left)
      (sym (numbers_of-append draws.gained gained ∙ ap (λ (numbers : List ℕ). numbers_of draws.gained ++ numbers) silent
      ∙ append-nil (numbers_of draws.gained))) draws.drawn;
}

pub silent_draws : (s : Stream) (old new gained : Calls) → new ≡ old ++ gained → numbers_of gained ≡ [] → DrawsNumbers s old new
silent_draws s old new gained is silent = DrawsNumbers-silent s old old new gained (DrawsNumbers-none s old) is silent

-- the calls of some acts that draw no number
abbrev pub AreSilent : List Act → Type 0
AreSilent acts = numbers_of (calls_of acts) ≡ []

pub news_calls : (news : List ℕ) → calls_of (map News news) ≡ []
news_calls [] = refl
news_calls (piece ∷ news) = news_calls news

-- news are no calls
pub told_conducts : (settles : Bool) (s : Stream) (old new : PlaceRecord) (news : List ℕ) → GainsUpTo old (map News news) new →
    Conducts settles s old.calls new.calls s
told_conducts settles s old new news gains =
    subst (λ (calls : Calls). Conducts settles s old.calls calls s)
    (sym (gains.calls ∙ ap (λ (calls : Calls). old.calls ++ calls) (news_calls news) ∙ append-nil old.calls))
    (Conducts-none settles s old.calls)

none_completed : (reply : Reply) → if_completed None reply ≡ None
none_completed replies.Completed = refl
none_completed _ = refl

-- a call that completed no piece
one_checked : (call : Action) (reply : Reply) → if_completed (arrived_piece call) reply ≡ None → all_checked ((call, reply) ∷ []) ≡ true
one_checked call reply none = ap (λ (piece : Option ℕ). checks_first piece [] && true) none

-- one Next, with the generator's next number
pub asked_one : (settles : Bool) (a b : Stream) (word : ℕ) (reply : Reply) (old new : PlaceRecord) → (word, b) ≡ next_u64 a →
    Gains old (Called (actions.Next word) reply ∷ []) new → Conducts settles a old.calls new.calls b
asked_one settles a b word reply old new drawn gains = record {
  gained = (actions.Next word, reply) ∷ [];
  calls = gains.up_to.calls;
  drawn = (ap (λ (next : ℕ × Stream). next.0) drawn, ap (λ (next : ℕ × Stream). next.1) drawn);
  checked = λ own. one_checked (actions.Next word) reply (none_completed reply);
}

drew_one : (a b : Stream) (word : ℕ) (reply : Reply) (old new : Calls) → (word, b) ≡ next_u64 a → new ≡ old ++ (actions.Next word, reply) ∷ [] →
    DrawsNumbers a old new
drew_one a b word reply old new drawn is = record {
  gained = (actions.Next word, reply) ∷ [];
  calls = is;
  left = b;
  drawn = (ap (λ (next : ℕ × Stream). next.0) drawn, ap (λ (next : ℕ × Stream). next.1) drawn);
}

-- the calls that a stopped call left: none, or itself
stopped_calls : (call : Action) (fault : SessionFault) (acts : List Act) → StopsCall call fault acts →
    (calls_of acts ≡ []) ⊎ ((reply : Reply) × (calls_of acts ≡ (call, reply) ∷ []))
stopped_calls call fault acts stops =
    elim (stops_ways call fault acts stops) [
      | inl refused ↦ inr (_, ap calls_of refused.1.1)
      | inr cut ↦ elim cut.1 [ inl none ↦ inl (ap calls_of none) | inr some ↦ inr (some.0, ap calls_of some.1.1) ]
    ]

-- a Next that stopped
pub asked_cut : (a b : Stream) (word : ℕ) (fault : SessionFault) (old new : Outlet) → (word, b) ≡ next_u64 a →
    CallStops fault (actions.Next word) old new → DrawsNumbers a old.past.calls new.past.calls
asked_cut a b word fault old new drawn cut =
    let old_calls = old.past.calls in
    let gains = cut.performs.gains.calls in
    elim (stopped_calls (actions.Next word) fault cut.acts cut.stops) [
      | inl none ↦ silent_draws a old_calls new.past.calls (calls_of cut.acts) gains (ap numbers_of none)
      | inr one ↦ drew_one a b word one.0 old_calls new.past.calls drawn (gains ∙ ap (λ (calls : Calls). old_calls ++ calls) one.1)
    ]

-- another call that stopped
pub other_cut : (s : Stream) (call : Action) (fault : SessionFault) (old new : Outlet) → given_number call ≡ [] →
    CallStops fault call old new → DrawsNumbers s old.past.calls new.past.calls
other_cut s call fault old new silent cut =
    let draws = silent_draws s old.past.calls new.past.calls (calls_of cut.acts) cut.performs.gains.calls in
    elim (stopped_calls call fault cut.acts cut.stops) [
      | inl none ↦ draws (ap numbers_of none)
      | inr one ↦ draws (ap numbers_of one.1 ∙ ap (λ (numbers : List ℕ). numbers ++ []) silent)
    ]

-- a call of a message is no Next
pub own_number : (pieces : ℕ) (m : Message) (call : Action) → call_of pieces m ≡ Some call → given_number call ≡ []
own_number = of_message given_number [] refl refl refl (λ piece. refl) (λ flags. refl) (λ piece begin bytes. refl)

departs_silently : (is_in lacked : Bool) (leave : List Act) → Departs is_in lacked leave → AreSilent leave
departs_silently is_in lacked [] departs = refl
departs_silently is_in lacked (Called actions.Leave reply ∷ []) departs = refl
departs_silently is_in lacked _ departs = absurd departs

-- the departure draws no number
pub left_draws : (s : Stream) (a b c : PlaceRecord) → DrawsNumbers s a.calls b.calls → Leaves b c → DrawsNumbers s a.calls c.calls
left_draws s a b c draws leaves =
    DrawsNumbers-silent s a.calls b.calls c.calls (calls_of leaves.leave) draws leaves.gains.calls
    (departs_silently true c.lacked leaves.leave leaves.departs)
