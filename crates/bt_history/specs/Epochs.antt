-- When a peer that had nothing to be asked for is worth another question.
use Rattle.std.specs.Prelude.{ℕ, ◌+◌, ◌==◌, Bool, true, false, not, ◌&&◌, ◌||◌, List, [], ◌∷◌, if◌then◌else◌}
use Rattle.bt_history.specs.declared.call.Reply.{Reply}
use Rattle.bt_history.specs.declared.call.Reply.TheVariants.{Request, InFlight, Idle, NothingLeft}
use Rattle.bt_history.specs.declared.event.Action.{Action}
use Rattle.bt_history.specs.declared.event.Action.TheVariants.{Join, Choke, Arrived, Settle, Leave, Want, Release, Level, Levels, Lack, Late, Alone, Lose, Discard}
use Rattle.bt_history.specs.declared.event.Event.{Event}
use Rattle.bt_history.specs.Setting.{Setting}
use Rattle.bt_history.specs.History.{History, counts, stores}
use Rattle.bt_history.specs.Legal.{place_at}
use Rattle.bt_history.specs.Peers.{expected}
use Rattle.bt_history.specs.Pieces.{asker_count, endgame, is_late_at_some}

-- the reply asks for a block, or counts one as asked
abbrev pub is_request : Reply → Bool
is_request (Request b) = true
is_request (InFlight b) = true
is_request reply = false

-- the entry asks for the last block that nobody was asked for, so that an endgame begins
abbrev pub begins_endgame : Setting → History → Event → Bool
begins_endgame s h e = is_request e.reply && (not (endgame s h) && endgame s (e ∷ h))

-- the block that begins there is asked of w, which isn't late with it, and of nobody else
abbrev pub asked_alone : Setting → History → ℕ → ℕ → ℕ → Bool
asked_alone s h w p begin =
    expected h w (place_at p begin)
    && ((asker_count s h (place_at p begin) == 1) && not (is_late_at_some s h (place_at p begin)))

-- the call frees blocks or pieces, changes what is wanted, or settles a piece
abbrev pub unsettles : Action → Bool
unsettles Join = true
unsettles Choke = true
unsettles Leave = true
unsettles (Release p begin) = true
unsettles (Want flags) = true
unsettles (Level p n) = true
unsettles (Levels levels) = true
unsettles (Settle p bytes) = true
unsettles (Lack p) = true
unsettles (Late p begin) = true
unsettles (Alone alone) = true
unsettles (Lose p) = true
unsettles (Discard p begin) = true
unsettles call = false

-- the call stores a block that its own peer wasn't asked for, or not alone
abbrev pub stores_beyond : Setting → History → Event → Action → Bool
stores_beyond s h e (Arrived p begin bytes) = stores e.reply && not (asked_alone s h e.worker p begin)
stores_beyond s h e call = false

-- the entry may change what is answered to a peer that had nothing to be asked for
abbrev pub stirs : Setting → History → Event → Bool
stirs s h e =
    counts e.reply && (unsettles e.action || (begins_endgame s h e || stores_beyond s h e e.action))

-- a number that rises with each such entry
unfoldable pub epoch : Setting → History → ℕ
epoch s [] = 0
epoch s (e ∷ h) = epoch s h + (if stirs s h e then 1 else 0)

-- the reply says that there is nothing to ask
abbrev pub is_idle : Reply → Bool
is_idle Idle = true
is_idle NothingLeft = true
is_idle reply = false

-- the entry tells nothing of q: it was refused, is another worker's, or is a Next of its own that gave nothing
abbrev pub passes_by : ℕ → Event → Bool
passes_by q e = not (counts e.reply) || (not (e.worker == q) || is_idle e.reply)

-- none of these entries tells of q
unfoldable pub pass_by : ℕ → List Event → Bool
pass_by q [] = true
pass_by q (e ∷ es) = passes_by q e && pass_by q es
