-- The bytes that are kept of pieces that aren't had yet, beside a history. No public clause cites this module.
use Rattle.std.specs.Prelude.{ℕ, ◌≡◌, ◌<◌, ◌/◌, ◌||◌, false, List, [], ◌∷◌, length, replicate, slice_index_or, slice_set, if◌then◌else◌}
use Rattle.bt_meta.specs.Layout.{block, block_count, block_size, piece_count}
use Rattle.bt_history.specs.declared.call.Reply.{Reply}
use Rattle.bt_history.specs.declared.event.Action.{Action}
use Rattle.bt_history.specs.declared.event.Action.TheVariants.{Arrived, Settle, Lose, Discard}
use Rattle.bt_history.specs.declared.event.Event.{Event}
use Rattle.bt_history.specs.History.{History, is_failed, is_had, stores}
use Rattle.bt_history.specs.Pieces.{content_of_block, had}
use Rattle.bt_history.specs.Setting.{Setting}
use Rattle.bt_picker.specs.Tables.{edit}

-- for each piece the bytes of its blocks, or no list where none is kept
abbrev pub Rows : Type 0
Rows = List (List (List ℕ))

-- what is kept of block k of piece p
abbrev pub stashed : Rows → ℕ → ℕ → List ℕ
stashed rows p k = slice_index_or (slice_index_or rows p []) k []

-- the row, or this room where it is empty
abbrev pub roomed : List (List ℕ) → List (List ℕ) → List (List ℕ)
roomed [] room = room
roomed (x ∷ xs) room = x ∷ xs

-- the row, with room for n blocks
abbrev pub with_room : ℕ → List (List ℕ) → List (List ℕ)
with_room n row = roomed row (replicate n [])

-- what is kept is what is held, of each piece that isn't had
pub record IsStash (s : Setting) (h : History) (rows : Rows) : Type 0 where
  pub len : length rows ≡ piece_count s.torrent
  pub wide : (p : ℕ) → length (with_room (block_count s.torrent p) (slice_index_or rows p [])) ≡ block_count s.torrent p
  pub bytes : (p k : ℕ) → p < piece_count s.torrent → k < block_count s.torrent p → had h p ≡ false
      → stashed rows p k ≡ content_of_block h (block s.torrent p k)

-- what the reply to a call makes of the rows
abbrev pub restashed_by : Setting → Rows → Reply → Action → Rows
restashed_by s rows reply (Arrived p begin bytes) =
    if stores reply then edit rows p (λ row. slice_set (with_room (block_count s.torrent p) row) (begin / block_size) bytes) else rows
restashed_by s rows reply (Settle p bytes) = if is_had reply || is_failed reply then edit rows p (λ row. []) else rows
restashed_by s rows reply (Lose p) = if is_failed reply then edit rows p (λ row. []) else rows
restashed_by s rows reply (Discard p begin) = if is_failed reply then edit rows p (λ row. slice_set row (begin / block_size) []) else rows
restashed_by s rows reply action = rows

-- the rows after one more entry
abbrev pub restashed : Setting → Rows → Event → Rows
restashed s rows e = restashed_by s rows e.reply e.action
