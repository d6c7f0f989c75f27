-- What happens at a place: calls with their replies, and news of finished pieces.
use Rattle.std.specs.Prelude.{ℕ, Bool, true, false, List, [], ◌∷◌}
use Rattle.bt_history.specs.declared.call.Reply.{Reply}
use Rattle.bt_history.specs.declared.call.Reply.TheVariants as replies
use Rattle.bt_history.specs.declared.event.Action.{Action}
use Rattle.bt_history.specs.declared.event.Action.TheVariants as actions

-- what a session does at its place
pub data Act : Type 0 where
  -- a call, with all that it tells, and its reply
  Called : Action → Reply → Act
  -- a finished piece
  News : ℕ → Act

-- the calls alone, with their replies: what the record of a place gains by these acts
abbrev pub calls_of : List Act → List (Action × Reply)
calls_of [] = []
calls_of (Called call reply ∷ acts) = (call, reply) ∷ calls_of acts
calls_of (News piece ∷ acts) = calls_of acts

-- the news alone: the pieces of which a have is written
abbrev pub news_of : List Act → List ℕ
news_of [] = []
news_of (Called call reply ∷ acts) = news_of acts
news_of (News piece ∷ acts) = piece ∷ news_of acts

-- the reply is a refusal
abbrev pub is_refusal : Reply → Bool
is_refusal (replies.Refused reason) = true
is_refusal _ = false

-- the check of a piece
abbrev pub is_check : Action → Bool
is_check (actions.Settle piece hashed) = true
is_check _ = false

-- a refused call that isn't a check
abbrev pub is_refused_call : Act → Bool
is_refused_call (Called (actions.Settle piece hashed) reply) = false
is_refused_call (Called _ reply) = is_refusal reply
is_refused_call (News piece) = false

-- whether the peer is in, after these acts: it has joined, and Leave was not called since
abbrev pub is_in : Bool → List Act → Bool
is_in joined [] = joined
is_in joined (Called actions.Join replies.Joined ∷ acts) = is_in true acts
is_in joined (Called actions.Leave reply ∷ acts) = is_in false acts
is_in joined (act ∷ acts) = is_in joined acts
