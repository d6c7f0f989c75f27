-- What a history says of blocks and pieces.
use Rattle.std.specs.Prelude.{ℕ, zero, suc, ◌+◌, Bool, false, not, ◌&&◌, ◌||◌, List, [], ◌∷◌, ◌++◌, Option, None, Some, is_some, unwrap_or, nat_lt}
use Rattle.std.specs.Prelude.{if◌then◌else◌, ◌==◌, nat_le, slice_index_or}
use Rattle.bt_meta.specs.declared.block.Block.{Block}
use Rattle.bt_meta.specs.Layout.{piece_count, block_count, block}
use Rattle.bt_history.specs.declared.event.Action.{Action}
use Rattle.bt_history.specs.declared.event.Action.TheVariants.{Want, Level, Levels, InOrder, InOrderFrom}
use Rattle.bt_history.specs.declared.rules.TheConstants.{MOST_LEVEL, USUAL_LEVEL}
use Rattle.bt_history.specs.Counting.{all_below, any_below, count_below}
use Rattle.bt_history.specs.Setting.{Setting, some_block_of, each_block_of, some_block, each_block}
use Rattle.bt_history.specs.History.{History, counted_call, stored, freed, lost, passed}
use Rattle.bt_history.specs.Peers.{flag, joined, shows, is_open, expected, overdue, reach, alone}

-- the bytes of block b, if it is held: stored, and not freed since
unfoldable pub kept : History → Block → Option (List ℕ)
kept [] b = None
kept (e ∷ h) b =
    if freed e b then None else if is_some (stored e b) then stored e b else kept h b

-- block b is held
abbrev pub held : History → Block → Bool
held h b = is_some (kept h b)

-- the worker whose peer brought block b, if it is held
unfoldable pub sender : History → Block → Option ℕ
sender [] b = None
sender (e ∷ h) b =
    if freed e b then None else if is_some (stored e b) then Some e.worker else sender h b

-- the bytes of block b, or none
abbrev pub content_of_block : History → Block → List ℕ
content_of_block h b = unwrap_or (kept h b) []

-- each block of piece p is held
abbrev pub full : Setting → History → ℕ → Bool
full s h p = each_block_of s.torrent p (held h)

-- the first n lists, joined
abbrev pub joined_below : ℕ → (ℕ → List ℕ) → List ℕ
joined_below zero bytes = []
joined_below (suc n) bytes = joined_below n bytes ++ bytes n

-- the blocks of piece p, joined in order
abbrev pub content : Setting → History → ℕ → List ℕ
content s h p = joined_below (block_count s.torrent p) (λ k. content_of_block h (block s.torrent p k))

-- piece p was checked, had its hash, and was not lost since
unfoldable pub had : History → ℕ → Bool
had [] p = false
had (e ∷ h) p = passed e p || (not (lost e p) && had h p)

-- block b is asked of some peer that isn't late with it
abbrev pub asked_of_some : Setting → History → Block → Bool
asked_of_some s h b = any_below s.workers (λ q. expected h q b)

-- of how many peers block b is asked that aren't late with it
abbrev pub asker_count : Setting → History → Block → ℕ
asker_count s h b = count_below s.workers (λ q. expected h q b)

-- some peer is late with block b
abbrev pub is_late_at_some : Setting → History → Block → Bool
is_late_at_some s h b = any_below s.workers (λ q. overdue h q b)

-- block b is held, or asked of some peer that isn't late with it
abbrev pub held_or_asked : Setting → History → Block → Bool
held_or_asked s h b = held h b || asked_of_some s h b

-- block b is lacking, and no peer is asked for it but such as are late with it
abbrev pub unasked : Setting → History → Block → Bool
unasked s h b = not (held_or_asked s h b)

-- piece p is under way: of its blocks one or more are held or asked, but it isn't had yet
abbrev pub begun : Setting → History → ℕ → Bool
begun s h p = not (had h p) && some_block_of s.torrent p (held_or_asked s h)

-- piece p is yet to be started: it isn't had, and none of its blocks is held or asked
abbrev pub unbegun : Setting → History → ℕ → Bool
unbegun s h p = not (had h p) && not (some_block_of s.torrent p (held_or_asked s h))

-- how many joined peers show piece p
abbrev pub availability : Setting → History → ℕ → ℕ
availability s h p = count_below s.workers (λ q. joined h q && shows h q p)

-- the level of a piece that is chosen, or isn't
abbrev pub level_if : Bool → ℕ
level_if chosen = if chosen then USUAL_LEVEL else 0

-- the level of piece p after the newest call, from what it was before
abbrev pub level_after : Option Action → ℕ → ℕ → ℕ
level_after (Some (Want flags)) p before = level_if (flag flags p)
level_after (Some (Levels levels)) p before = slice_index_or levels p 0
level_after (Some (Level piece n)) p before = if piece == p then n else before
level_after call p before = before

-- the level of piece p: the newest that was told of it, whoever told it; until there is one, the usual
unfoldable pub level : History → ℕ → ℕ
level [] p = USUAL_LEVEL
level (e ∷ h) p = level_after (counted_call e) p (level h p)

-- piece p is chosen: its level isn't 0
abbrev pub chosen : History → ℕ → Bool
chosen h p = nat_lt 0 (level h p)

-- piece p is to be downloaded: a chosen piece of the torrent
abbrev pub wanted : Setting → History → ℕ → Bool
wanted s h p = nat_lt p (piece_count s.torrent) && chosen h p

-- piece p is open: it is wanted and under way, and one of its blocks is unasked
abbrev pub is_open_piece : Setting → History → ℕ → Bool
is_open_piece s h p = wanted s h p && (begun s h p && some_block_of s.torrent p (unasked s h))

-- how many pieces are open
abbrev pub open_count : Setting → History → ℕ
open_count s h = count_below (piece_count s.torrent) (is_open_piece s h)

-- from which level on pieces come in order after the newest call, from what it was before
abbrev pub order_after : Option Action → ℕ → ℕ
order_after (Some (InOrder rising)) before = if rising then 0 else MOST_LEVEL + 1
order_after (Some (InOrderFrom n)) before = n
order_after call before = before

-- pieces of this level and of higher ones come in rising order: the newest that was told, whoever told it; until there is one, none do
unfoldable pub order_from : History → ℕ
order_from [] = MOST_LEVEL + 1
order_from (e ∷ h) = order_after (counted_call e) (order_from h)

-- all pieces that are downloaded come in order
abbrev pub in_order : History → Bool
in_order h = nat_le (order_from h) 1

-- piece p is of a level whose pieces come in order
abbrev pub comes_in_order : History → ℕ → Bool
comes_in_order h p = nat_le (order_from h) (level h p)

-- q may be asked for blocks of piece p: it shows the piece, and the level of that isn't beyond its reach
abbrev pub gives : History → ℕ → ℕ → Bool
gives h q p = shows h q p && nat_le (level h p) (reach h q)

-- q is late with a block of piece p, and no other one is left to ask of it
abbrev pub is_spent : Setting → History → ℕ → ℕ → Bool
is_spent s h q p =
    some_block_of s.torrent p (overdue h q) && each_block_of s.torrent p (λ b. held_or_asked s h b || overdue h q b)

-- q shows piece p, and isn't late with all that is left to ask of it
abbrev pub offers : Setting → History → ℕ → ℕ → Bool
offers s h q p = shows h q p && not (is_spent s h q p)

-- the peer is q's
abbrev pub is_peer : Option ℕ → ℕ → Bool
is_peer None q = false
is_peer (Some w) q = w == q

-- nobody but q has to do with block b: its peer brought the block, or no other is expected to
abbrev pub is_of : Setting → History → ℕ → Block → Bool
is_of s h q b = if held h b then is_peer (sender h b) q else all_below s.workers (λ w. not (expected h w b) || (w == q))

-- all that is held and expected of piece p is q's
abbrev pub is_sole : Setting → History → ℕ → ℕ → Bool
is_sole s h q p = each_block_of s.torrent p (is_of s h q)

-- piece p is q's own: q works alone and lets itself be asked, and all that is held and expected of the begun piece is q's
abbrev pub is_own : Setting → History → ℕ → ℕ → Bool
is_own s h q p = alone h q && (is_open h q && (begun s h p && is_sole s h q p))

-- piece p belongs to a peer that works alone
abbrev pub belongs : Setting → History → ℕ → Bool
belongs s h p = any_below s.workers (λ q. is_own s h q p)

-- q may take part in piece p: one that works alone where nobody else does, and any other where the piece belongs to nobody
abbrev pub is_free_for : Setting → History → ℕ → ℕ → Bool
is_free_for s h q p = if alone h q then is_sole s h q p else not (belongs s h p)

-- endgame waits for piece p: it is wanted and, where the rules say so, a joined peer shows it
abbrev pub awaited : Setting → History → ℕ → Bool
awaited s h p = wanted s h p && (not s.shown || nat_lt 0 (availability s h p))

-- endgame: every block that is awaited and lacking is asked of somebody, and there is a wanted one that is lacking
abbrev pub endgame : Setting → History → Bool
endgame s h =
    each_block s.torrent (λ b. not (awaited s h b.piece) || held_or_asked s h b)
    && some_block s.torrent (λ b. wanted s h b.piece && not (held h b))

-- some point before the newest entry was endgame
unfoldable pub was_endgame : Setting → History → Bool
was_endgame s [] = false
was_endgame s (e ∷ h) = endgame s h || was_endgame s h

-- some piece that is shown is wanted and isn't had
abbrev pub lacks : Setting → History → (ℕ → Bool) → Bool
lacks s h shown = any_below (piece_count s.torrent) (λ p. wanted s h p && (shown p && not (had h p)))

-- q has something for us: it shows a piece that we want and haven't got
abbrev pub interesting : Setting → History → ℕ → Bool
interesting s h q = lacks s h (shows h q)

-- how many pieces are had
abbrev pub had_count : Setting → History → ℕ
had_count s h = count_below (piece_count s.torrent) (had h)
