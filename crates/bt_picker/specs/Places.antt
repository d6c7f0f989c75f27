-- Where in a journal the bytes of held blocks stand. No public clause cites this module.
use Rattle.std.specs.Prelude.{ℕ, ◌+◌, ◌*◌, ◌/◌, ◌<◌, ◌≤◌, ◌≡◌, List, [], ◌∷◌, Option, None, Some, is_some, length, replicate, slice_index_or}
use Rattle.std.specs.Prelude.{slice_set, if◌then◌else◌}
use Rattle.bt_meta.specs.declared.block.Block.{Block}
use Rattle.bt_meta.specs.Layout.{Layout, block, block_count, block_size, piece_count}
use Rattle.bt_history.specs.declared.call.Reply.{Reply}
use Rattle.bt_history.specs.declared.event.Action.{Action}
use Rattle.bt_history.specs.declared.event.Action.TheVariants.{Arrived}
use Rattle.bt_history.specs.History.{History, freed, stored, stores}
use Rattle.bt_history.specs.Setting.{Setting}

-- the place of the entry that stored block b, if it is held: the oldest entry is at 0
unfoldable pub stored_place : History → Block → Option ℕ
stored_place [] b = None
stored_place (e ∷ h) b = if freed e b then None else if is_some (stored e b) then Some (length h) else stored_place h b

-- a number for each block, so many for each piece
pub record PlacesState : Type 0 where
  pub width : ℕ
  pub places : List ℕ

-- which number is that of block k of piece p
abbrev pub slot : ℕ → ℕ → ℕ → ℕ
slot width p k = p * width + k

-- the number of block k of piece p
abbrev pub place_noted : PlacesState → ℕ → ℕ → ℕ
place_noted x p k = slice_index_or x.places (slot x.width p k) 0

-- the numbers of a journal in which no block was stored
abbrev pub fresh_places : Layout → PlacesState
fresh_places t = record { width = block_count t 0; places = replicate (piece_count t * block_count t 0) 0 }

-- the numbers once the entry at place n made this call with this reply
abbrev pub placed : PlacesState → Action → Reply → ℕ → PlacesState
placed x (Arrived p begin bytes) reply n =
    if stores reply then record x { places = slice_set x.places (slot x.width p (begin / block_size)) n } else x
placed x call reply n = x

-- the number of each held block is the place of the entry that stored it
pub record ArePlaces (s : Setting) (h : History) (x : PlacesState) : Type 0 where
  pub wide : (p : ℕ) → p < piece_count s.torrent → block_count s.torrent p ≤ x.width
  pub long : length x.places ≡ piece_count s.torrent * x.width
  pub are : (p k i : ℕ) → p < piece_count s.torrent → k < block_count s.torrent p →
      stored_place h (block s.torrent p k) ≡ Some i → place_noted x p k ≡ i
