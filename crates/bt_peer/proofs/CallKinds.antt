-- Kinds of calls that no message makes, no check and no Next: none of a turn's acts is one.
use Rattle.std.proofs.Common.{◌≡◌, ℕ, zero, suc, List, [], ◌∷◌, ◌++◌, map, Bool, true, false, Option, Some, None, refl, ap, ◌∙◌, inl, inr}
use Rattle.std.specs.Prelude.{◌||◌, MatchBool, MatchOption}
use Rattle.std.specs.List.{list_any}
use Rattle.bt_meta.specs.WireBits.{flags_of}
use Rattle.bt_wire.specs.declared.message.Message.{Message}
use Rattle.bt_wire.specs.declared.message.Message.TheVariants as messages
use Rattle.bt_history.specs.declared.event.Action.{Action}
use Rattle.bt_history.specs.declared.event.Action.TheVariants as actions
use Rattle.bt_peer.specs.Acts.{Act, Called, News}
use Rattle.bt_peer.specs.SessionTerms.{TermsState, most_next, pieces_of}
use Rattle.bt_peer.specs.Turns.{call_of, Opens, ChecksAtMost, if_completed, arrived_piece, Asks, has_more, Attends, BeginsTurn, IsTurn}

-- the act is a call of the kind
abbrev pub is_of : (Action → Bool) → Act → Bool
is_of kind (Called call reply) = kind call
is_of kind (News piece) = false

-- none of the acts is
abbrev pub Lacks : (Action → Bool) → List Act → Type 0
Lacks kind acts = list_any (is_of kind) acts ≡ false

pub both_false : (a b c : Bool) → (a || b) ≡ false → (b ≡ false → c ≡ false) → (a || c) ≡ false
both_false true b c first later = first
both_false false b c first later = later first

pub Lacks-append : (kind : Action → Bool) (es fs : List Act) → Lacks kind es → Lacks kind fs → Lacks kind (es ++ fs)
Lacks-append kind [] fs first second = second
Lacks-append kind (e ∷ es) fs first second =
    both_false (is_of kind e) (list_any (is_of kind) es) (list_any (is_of kind) (es ++ fs)) first
    (λ rest. Lacks-append kind es fs rest second)

pub Lacks-front : (kind : Action → Bool) (es fs : List Act) → Lacks kind (es ++ fs) → Lacks kind es
Lacks-front kind [] fs lacks = refl
Lacks-front kind (e ∷ es) fs lacks =
    both_false (is_of kind e) (list_any (is_of kind) (es ++ fs)) (list_any (is_of kind) es) lacks (λ rest. Lacks-front kind es fs rest)

-- what all calls that messages make have in common is so of each
pub of_message : {A : Type 0} (f : Action → A) (a : A) → f actions.Join ≡ a → f actions.Choke ≡ a → f actions.Unchoke ≡ a
    → ((piece : ℕ) → f (actions.Have piece) ≡ a) → ((flags : List Bool) → f (actions.Bits flags) ≡ a)
    → ((piece begin : ℕ) (bytes : List ℕ) → f (actions.Arrived piece begin bytes) ≡ a)
    → (pieces : ℕ) (m : Message) (call : Action) → call_of pieces m ≡ Some call → f call ≡ a
of_message f a join choke unchoke have bits arrived pieces (messages.Hello h) call is = cc (join, is)
of_message f a join choke unchoke have bits arrived pieces messages.Choke call is = cc (choke, is)
of_message f a join choke unchoke have bits arrived pieces messages.Unchoke call is = cc (unchoke, is)
of_message f a join choke unchoke have bits arrived pieces (messages.Have piece) call is = cc (have piece, is)
of_message f a join choke unchoke have bits arrived pieces (messages.Bits flags) call is = cc (bits (flags_of pieces flags), is)
of_message f a join choke unchoke have bits arrived pieces (messages.Piece piece begin bytes) call is = cc (arrived piece begin bytes, is)
of_message f a join choke unchoke have bits arrived pieces _ call is = absurd (cc is)

-- the kind is of no call that a turn makes
pub record IsOutside (kind : Action → Bool) : Type 0 where
  pub message : (pieces : ℕ) (m : Message) (call : Action) → call_of pieces m ≡ Some call → kind call ≡ false
  pub check : (piece : ℕ) (hashed : List ℕ) → kind (actions.Settle piece hashed) ≡ false
  pub next : (word : ℕ) → kind (actions.Next word) ≡ false

module _ (kind : Action → Bool) (outside : IsOutside kind) where
  check_lacks : (o : Option ℕ) (acts : List Act) → MatchOption o (acts ≡ []) (λ piece. ChecksAtMost piece acts) → Lacks kind acts
  check_lacks None acts none = ap (list_any (is_of kind)) none
  check_lacks (Some piece) acts checks =
      elim checks [
        | inl none ↦ ap (list_any (is_of kind)) none
        | inr check ↦ ap (list_any (is_of kind)) check.1.1.1 ∙ ap (λ b. b || false) (outside.check piece check.0)
      ]

  opening_lacks : (call : Option Action) (acts : List Act) → ((made : Action) → call ≡ Some made → kind made ≡ false) → Opens call acts →
      Lacks kind acts
  opening_lacks None acts own opens = ap (list_any (is_of kind)) opens
  opening_lacks (Some call) [] own opens = absurd opens
  opening_lacks (Some call) (News piece ∷ acts) own opens = absurd opens
  opening_lacks (Some call) (Called made reply ∷ acts) own opens =
      let first : kind made ≡ false = ap kind opens.0 ∙ own call refl in
      both_false (kind made) false (list_any (is_of kind) acts) (ap (λ b. b || false) first)
      (λ nothing. check_lacks (if_completed (arrived_piece call) reply) acts opens.1)

  news_lack : (news : List ℕ) → Lacks kind (map News news)
  news_lack [] = refl
  news_lack (piece ∷ news) = news_lack news

  more_lacks : (most : ℕ) (more : Bool) (acts : List Act) → (Asks most acts → Lacks kind acts) →
      MatchBool more (Asks most acts) (acts ≡ []) → Lacks kind acts
  more_lacks most true acts later asks = later asks
  more_lacks most false acts later none = ap (list_any (is_of kind)) none

  asking_lacks : (most : ℕ) (acts : List Act) → Asks most acts → Lacks kind acts
  asking_lacks zero acts none = ap (list_any (is_of kind)) none
  asking_lacks (suc most) (Called (actions.Next word) reply ∷ acts) asks =
      ap (λ b. b || list_any (is_of kind) acts) (outside.next word)
      ∙ more_lacks most (has_more reply) acts (asking_lacks most acts) asks
  asking_lacks (suc most) _ asks = absurd asks

  attended_lacks : (terms : TermsState) (m : Message) (acts : List Act) → Attends terms m acts → Lacks kind acts
  attended_lacks terms m acts turn =
      let front = turn.opening ++ map News turn.news in
      let opening = opening_lacks (call_of (pieces_of terms) m) turn.opening (outside.message (pieces_of terms) m) turn.opens in
      ap (list_any (is_of kind)) turn.parts
      ∙ Lacks-append kind front turn.asking (Lacks-append kind turn.opening (map News turn.news) opening (news_lack turn.news))
      (asking_lacks (most_next terms) turn.asking turn.asks)

  -- no act of a turn is of the kind
  pub turn_lacks : (terms : TermsState) (m : Message) (acts : List Act) → IsTurn terms m acts → Lacks kind acts
  turn_lacks terms (messages.Hello hello) acts turn =
      opening_lacks (Some actions.Join) acts (outside.message 0 (messages.Hello hello)) turn
  turn_lacks terms m acts turn = attended_lacks terms m acts turn

  -- nor of a turn that began
  pub begun_lacks : (terms : TermsState) (m : Message) (acts : List Act) → BeginsTurn terms m acts → Lacks kind acts
  begun_lacks terms m acts begins = Lacks-front kind acts begins.0 (turn_lacks terms m (acts ++ begins.0) begins.1)
