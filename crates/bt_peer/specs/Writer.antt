-- What a session writes: its handshake, and the bytes of replies and of news.
use Rattle.std.specs.Prelude.{ℕ, zero, suc, ◌+◌, ◌/◌, ◌%◌, ◌^◌, Bool, true, false, if◌then◌else◌, List, [], ◌∷◌, ◌++◌, replicate, codes}
use Rattle.bt_wire.specs.declared.message.Message.TheVariants as messages
use Rattle.bt_wire.specs.Messages.{handshake, spelling}
use Rattle.bt_history.specs.declared.call.Reply.{Reply}
use Rattle.bt_history.specs.declared.call.Reply.TheVariants as replies
use Rattle.bt_peer.specs.Acts.{Act, Called, News}

-- the last so many decimal digits of n
abbrev pub digits : ℕ → ℕ → List ℕ
digits zero n = []
digits (suc count) n = (48 + n / 10 ^ count % 10) ∷ digits count n

-- the peer id of a worker's session
abbrev pub peer_id : ℕ → List ℕ
peer_id worker = codes "-PP0001-" ++ digits 12 worker

-- what a worker's session writes first
unfoldable pub greeting : List ℕ → ℕ → List ℕ
greeting infohash worker =
    handshake (record { reserved = replicate 8 0; infohash = infohash; peer_id = peer_id worker })

-- whether the session is interested after a reply
abbrev pub interest_by : Bool → Reply → Bool
interest_by interested (replies.Noted true) = true
interest_by interested replies.NothingLeft = false
interest_by interested reply = interested

-- what is written for a reply
abbrev pub written_for : Bool → Reply → List ℕ
written_for interested (replies.Noted true) = if interested then [] else spelling messages.Interested
written_for interested replies.NothingLeft = if interested then spelling messages.NotInterested else []
written_for interested (replies.Request block) = spelling (messages.Request block.piece block.begin block.len)
written_for interested (replies.Cancel block) = spelling (messages.Cancel block.piece block.begin block.len)
written_for interested reply = []

-- whether the session is interested after these acts, from what it was before them
abbrev pub interest_after : Bool → List Act → Bool
interest_after interested [] = interested
interest_after interested (Called call reply ∷ acts) = interest_after (interest_by interested reply) acts
interest_after interested (News piece ∷ acts) = interest_after interested acts

-- what is written for these acts, from the interest that was told before them
abbrev pub says : Bool → List Act → List ℕ
says interested [] = []
says interested (Called call reply ∷ acts) = written_for interested reply ++ says (interest_by interested reply) acts
says interested (News piece ∷ acts) = spelling (messages.Have piece) ++ says interested acts
