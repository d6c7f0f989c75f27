-- Which reply is allowed after a history, and which histories are legal.
use Rattle.std.specs.Prelude.{ℕ, ◌+◌, ◌/◌, ◌<◌, ◌≡◌, IsTrue, ◌==◌, nat_le, nat_lt, Bool, not, ◌&&◌, ◌||◌, List, [], ◌∷◌, Option, Some, None, length}
use Rattle.std.specs.Prelude.{if◌then◌else◌}
use Rattle.std.specs.List.{list_any}
use lib.Pointwise.{pointwise}
use Rattle.sha1.specs.Sha1.{sha1}
use Rattle.bt_meta.specs.declared.block.Block.{Block}
use Rattle.bt_meta.specs.Layout.{Layout, block, block_size, piece_count, hash_of}
use Rattle.bt_history.specs.declared.call.Reason.{Reason}
use Rattle.bt_history.specs.declared.call.Reason.TheVariants.{NotJoined, AlreadyJoined, LateBits, WrongCount, NoSuchPiece, NoSuchBlock, WrongLength}
use Rattle.bt_history.specs.declared.call.Reason.TheVariants.{NotWaiting, Stale, NotAsked, WrongDepth, WrongLevel}
use Rattle.bt_history.specs.declared.call.Reply.{Reply}
use Rattle.bt_history.specs.declared.call.Reply.TheVariants.{Joined, Noted, Quiet, Cancel, Request, InFlight, Stored, Completed, Dropped, Had, Failed, Refused}
use Rattle.bt_history.specs.declared.event.Action.{Action}
use Rattle.bt_history.specs.declared.event.Action.TheVariants.{Join, Bits, Have, Next, Arrived, Settle, Want, Haves, Depth, Release, Level, Levels}
use Rattle.bt_history.specs.declared.event.Action.TheVariants.{InOrder, Reach, InOrderFrom, Lack, Late, Lose, Discard, Requested}
use Rattle.bt_history.specs.declared.rules.TheConstants.{MOST_LEVEL}
use Rattle.bt_history.specs.declared.event.Event.{Event}
use Rattle.bt_history.specs.Setting.{Setting, deepest_told, some_block_of, each_block_of, is_block}
use Rattle.bt_history.specs.History.{History}
use Rattle.bt_history.specs.Peers.{joined, late, shows, shows_after, asked}
use Rattle.bt_history.specs.Pieces.{held, full, content, had, lacks}
use Rattle.bt_history.specs.Next.{Answer, Exactly, CancelOf, RequestOf, may_count, next_answer}

-- the same bytes
abbrev pub same_bytes : List ℕ → List ℕ → Bool
same_bytes xs ys = pointwise ◌==◌ xs ys

-- ---- refusals

-- the number of a reason, by which it is told: its place in the order of tests
abbrev pub reason_number : Reason → ℕ
reason_number NotJoined = 1
reason_number AlreadyJoined = 2
reason_number LateBits = 3
reason_number WrongCount = 4
reason_number NoSuchPiece = 5
reason_number NoSuchBlock = 6
reason_number WrongLength = 7
reason_number NotWaiting = 8
reason_number Stale = 9
reason_number NotAsked = 10
reason_number WrongDepth = 11
reason_number WrongLevel = 12

-- the first cause that holds
abbrev pub first_cause : List (Bool × Reason) → Option Reason
first_cause [] = None
first_cause (cause ∷ causes) = if cause.0 then Some cause.1 else first_cause causes

-- the worker has no peer
abbrev pub no_peer : History → ℕ → Bool × Reason
no_peer h w = (not (joined h w), NotJoined)

-- the flags, or levels, are more or fewer than the pieces
abbrev pub no_count : {A : Type 0} → Setting → List A → Bool × Reason
no_count s flags = (not (length flags == piece_count s.torrent), WrongCount)

-- there is no such piece
abbrev pub no_piece : Setting → ℕ → Bool × Reason
no_piece s p = (nat_le (piece_count s.torrent) p, NoSuchPiece)

-- no block of the piece begins there
abbrev pub no_block : Setting → ℕ → ℕ → Bool × Reason
no_block s p begin = (not (some_block_of s.torrent p (λ b. b.begin == begin)), NoSuchBlock)

-- a level is higher than there are
abbrev pub no_level : ℕ → Bool × Reason
no_level n = (nat_lt MOST_LEVEL n, WrongLevel)

-- one of the levels is
abbrev pub no_levels : List ℕ → Bool × Reason
no_levels levels = (list_any (λ n. nat_lt MOST_LEVEL n) levels, WrongLevel)

-- the block that begins there, of no length: what is asked for goes by where it begins
abbrev pub place_at : ℕ → ℕ → Block
place_at p begin = record { piece = p; begin = begin; len = 0 }

-- the block of the torrent that begins there
abbrev pub block_from : Layout → ℕ → ℕ → Block
block_from t p begin = block t p (begin / block_size)

-- what may speak against the call, in the order in which it is told
abbrev pub causes : Setting → History → ℕ → Action → List (Bool × Reason)
causes s h w Join = (joined h w, AlreadyJoined) ∷ []
causes s h w (Bits flags) = no_peer h w ∷ (late h w, LateBits) ∷ no_count s flags ∷ []
causes s h w (Have p) = no_peer h w ∷ no_piece s p ∷ []
causes s h w (Lack p) = no_peer h w ∷ no_piece s p ∷ []
causes s h w (Arrived p begin bytes) =
    no_peer h w ∷ no_piece s p
    ∷ no_block s p begin
    ∷ (not (some_block_of s.torrent p (λ b. (b.begin == begin) && (b.len == length bytes))), WrongLength) ∷ []
causes s h w (Settle p bytes) =
    no_piece s p ∷ (not (full s h p) || had h p, NotWaiting) ∷ (not (same_bytes bytes (content s h p)), Stale) ∷ []
causes s h w (Want flags) = no_count s flags ∷ []
causes s h w (Haves flags) = no_peer h w ∷ no_count s flags ∷ []
causes s h w (Depth n) = no_peer h w ∷ (nat_lt n 1 || nat_lt (deepest_told s) n, WrongDepth) ∷ []
causes s h w (Release p begin) = no_peer h w ∷ (not (asked h w (place_at p begin)), NotAsked) ∷ []
causes s h w (Late p begin) = no_peer h w ∷ (not (asked h w (place_at p begin)), NotAsked) ∷ []
causes s h w (Level p n) = no_piece s p ∷ no_level n ∷ []
causes s h w (Levels levels) = no_count s levels ∷ no_levels levels ∷ []
causes s h w (InOrder rising) = []
causes s h w (Reach n) = no_peer h w ∷ no_level n ∷ []
causes s h w (InOrderFrom n) = (nat_lt (MOST_LEVEL + 1) n, WrongLevel) ∷ []
causes s h w (Lose p) = no_piece s p ∷ []
causes s h w (Discard p begin) = no_piece s p ∷ no_block s p begin ∷ (had h p, NotWaiting) ∷ []
causes s h w (Requested p begin) =
    no_peer h w ∷ no_piece s p ∷ no_block s p begin ∷ (not (may_count s h w (block_from s.torrent p begin)), NotWaiting) ∷ []
causes s h w call = no_peer h w ∷ []

-- why the call is refused, if it is
abbrev pub refusal : Setting → History → ℕ → Action → Option Reason
refusal s h w call = first_cause (causes s h w call)

-- ---- answers

-- w has something for us once it made this call
abbrev pub interesting_after : Setting → History → ℕ → Action → Bool
interesting_after s h w call = lacks s h (λ p. shows_after (Some call) p (shows h w p))

-- the answer to an arrival: the block is held already, or was the last one lacking of its piece, or neither
unfoldable pub arrived_answer : Setting → History → ℕ → ℕ → Answer
arrived_answer s h p begin =
    if some_block_of s.torrent p (λ b. (b.begin == begin) && held h b) then Exactly Dropped
    else if each_block_of s.torrent p (λ b. (b.begin == begin) || held h b) then Exactly Completed
    else Exactly Stored

-- the answer to a check of piece p: its bytes have its hash, or another
unfoldable pub settled_answer : Setting → History → ℕ → Answer
settled_answer s h p =
    Exactly (if same_bytes (sha1 (content s h p)) (hash_of s.torrent p) then Had else Failed)

-- the answer to a call that isn't refused
abbrev pub answer : Setting → History → ℕ → Action → Answer
answer s h w Join = Exactly Joined
answer s h w (Bits flags) = Exactly (Noted (interesting_after s h w (Bits flags)))
answer s h w (Have p) = Exactly (Noted (interesting_after s h w (Have p)))
answer s h w (Lack p) = Exactly (Noted (interesting_after s h w (Lack p)))
answer s h w (Haves flags) = Exactly (Noted (interesting_after s h w (Haves flags)))
answer s h w (Next word) = next_answer s h w
answer s h w (Arrived p begin bytes) = arrived_answer s h p begin
answer s h w (Settle p bytes) = settled_answer s h p
answer s h w (Lose p) = Exactly Failed
answer s h w (Discard p begin) = Exactly Failed
answer s h w (Requested p begin) = Exactly (InFlight (block_from s.torrent p begin))
answer s h w call = Exactly Quiet

-- a refusal for this reason, if there is one, else the answer
abbrev pub answer_unless : Option Reason → Answer → Answer
answer_unless (Some reason) a = Exactly (Refused reason)
answer_unless None a = a

-- the reply is one that the answer has
abbrev pub Permits : Layout → Answer → Reply → Type 0
Permits t (Exactly r) reply = reply ≡ r
Permits t (CancelOf test) reply = (b : Block) × (reply ≡ Cancel b) × IsTrue (is_block t b) × IsTrue (test b)
Permits t (RequestOf test) reply = (b : Block) × (reply ≡ Request b) × IsTrue (is_block t b) × IsTrue (test b)

-- ---- histories

-- the entry may come after the history: its worker is one of the desk's, and its reply is the first refusal or a reply of the answer
unfoldable pub IsAllowed : Setting → History → Event → Type 0
IsAllowed s h e =
    (e.worker < s.workers)
    × Permits s.torrent (answer_unless (refusal s h e.worker e.action) (answer s h e.worker e.action)) e.reply

-- each entry is allowed after those before it
abbrev pub IsLegal : Setting → History → Type 0
IsLegal s [] = Unit {0}
IsLegal s (e ∷ h) = IsLegal s h × IsAllowed s h e
