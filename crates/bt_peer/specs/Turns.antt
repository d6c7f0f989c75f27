-- The acts of a turn: what a session calls for a message, and what it asks for then.
use Rattle.std.specs.Prelude.{◌≡◌, ℕ, zero, suc, ◌≤◌, ◌⊎◌, Bool, true, false, IsTrue, MatchBool, MatchOption}
use Rattle.std.specs.Prelude.{List, [], ◌∷◌, ◌++◌, length, map, Option, Some, None}
use Rattle.std.specs.List.{list_any}
use Rattle.bt_meta.specs.WireBits.{flags_of, wire_len, HasSpareBit}
use Rattle.bt_wire.specs.declared.message.Message.{Message}
use Rattle.bt_wire.specs.declared.message.Message.TheVariants as messages
use Rattle.bt_history.specs.declared.event.Action.{Action}
use Rattle.bt_history.specs.declared.event.Action.TheVariants as actions
use Rattle.bt_history.specs.declared.call.Reply.{Reply}
use Rattle.bt_history.specs.declared.call.Reply.TheVariants as replies
use Rattle.bt_history.specs.Logs.{answers}
use Rattle.bt_history.specs.declared.mark.CallMark.TheVariants as marks
use Rattle.bt_peer.specs.SessionTerms.{TermsState, pieces_of, most_next}
use Rattle.bt_peer.specs.Acts.{Act, Called, News, is_refused_call}

-- the call that a message makes, of a peer of so many pieces: it tells the flags that the message spells, and the bytes that it brings
abbrev pub call_of : ℕ → Message → Option Action
call_of pieces (messages.Hello hello) = Some actions.Join
call_of pieces messages.Choke = Some actions.Choke
call_of pieces messages.Unchoke = Some actions.Unchoke
call_of pieces (messages.Have piece) = Some (actions.Have piece)
call_of pieces (messages.Bits bits) = Some (actions.Bits (flags_of pieces bits))
call_of pieces (messages.Piece piece begin bytes) = Some (actions.Arrived piece begin bytes)
call_of pieces _ = None

-- a message after the handshake
abbrev pub IsLater : Message → Type 0
IsLater (messages.Hello hello) = ⊥
IsLater _ = Unit {0}

-- these bytes are a bitfield of so many pieces
pub record IsBitfield (pieces : ℕ) (bytes : List ℕ) : Type 0 where
  pub count : length bytes ≡ wire_len pieces
  pub no_spare_bit : HasSpareBit bytes pieces → ⊥

-- a message that a peer of so many pieces may send: its bitfield, if it is one, is one of so many pieces
abbrev pub IsAcceptable : ℕ → Message → Type 0
IsAcceptable pieces (messages.Bits bits) = IsBitfield pieces bits
IsAcceptable pieces _ = Unit {0}

-- at most a check of that piece
abbrev pub ChecksAtMost : ℕ → List Act → Type 0
ChecksAtMost piece acts =
    (acts ≡ []) ⊎ ((hashed : List ℕ) × ((reply : Reply) ×
    (IsTrue (answers (marks.Settle piece) reply) × (acts ≡ Called (actions.Settle piece hashed) reply ∷ []))))

-- the piece of a block that arrived
abbrev pub arrived_piece : Action → Option ℕ
arrived_piece (actions.Arrived piece begin bytes) = Some piece
arrived_piece _ = None

-- that piece, where the reply completes it
abbrev pub if_completed : Option ℕ → Reply → Option ℕ
if_completed piece replies.Completed = piece
if_completed piece _ = None

-- what follows the reply to a message's call: after a piece was completed, at most its check
abbrev pub Checks : Action → Reply → List Act → Type 0
Checks call reply acts =
    MatchOption (if_completed (arrived_piece call) reply) (acts ≡ []) (λ piece. ChecksAtMost piece acts)

-- the message's call with its reply, if it makes one, and a check that follows
abbrev pub Opens : Option Action → List Act → Type 0
Opens None acts = acts ≡ []
Opens (Some call) [] = ⊥
Opens (Some call) (Called made reply ∷ acts) = (made ≡ call) × Checks call reply acts
Opens (Some call) (News piece ∷ acts) = ⊥

-- there is more to ask for
abbrev pub has_more : Reply → Bool
has_more (replies.Cancel block) = true
has_more (replies.Request block) = true
has_more _ = false

-- Next calls of which only the last is replied that there is no more, or as many as there may be
abbrev pub Asks : ℕ → List Act → Type 0
Asks zero acts = acts ≡ []
Asks (suc most) (Called (actions.Next word) reply ∷ acts) = MatchBool (has_more reply) (Asks most acts) (acts ≡ [])
Asks (suc most) _ = ⊥

-- the acts of a message after the handshake: its call, then news, then Next calls
pub record Attends (terms : TermsState) (m : Message) (acts : List Act) : Type 0 where
  pub acceptable : IsAcceptable (pieces_of terms) m
  pub opening : List Act
  pub news : List ℕ
  pub asking : List Act
  pub opens : Opens (call_of (pieces_of terms) m) opening
  pub few : length news ≤ pieces_of terms
  pub asks : Asks (most_next terms) asking
  pub parts : acts ≡ opening ++ map News news ++ asking

-- the acts of one turn
abbrev pub IsTurn : TermsState → Message → List Act → Type 0
IsTurn terms (messages.Hello hello) acts = Opens (Some actions.Join) acts
IsTurn terms m acts = Attends terms m acts

-- a turn may begin so
abbrev pub BeginsTurn : TermsState → Message → List Act → Type 0
BeginsTurn terms m acts = (rest : List Act) × IsTurn terms m (acts ++ rest)

-- no call but a check was refused
abbrev pub NoneRefused : List Act → Type 0
NoneRefused acts = list_any is_refused_call acts ≡ false

-- a turn for each message, in order
abbrev pub TurnsOf : TermsState → List Message → List Act → Type 0
TurnsOf terms [] acts = acts ≡ []
TurnsOf terms (m ∷ ms) acts = (first : List Act) × ((others : List Act) ×
    (IsTurn terms m first × NoneRefused first × TurnsOf terms ms others × (acts ≡ first ++ others)))

-- a turn for each message, in order, then Leave
abbrev pub AreTurns : TermsState → List Message → List Act → Type 0
AreTurns terms [] acts = acts ≡ Called actions.Leave replies.Quiet ∷ []
AreTurns terms (m ∷ ms) acts = (first : List Act) × ((others : List Act) ×
    (IsTurn terms m first × NoneRefused first × AreTurns terms ms others × (acts ≡ first ++ others)))
