-- What a history says of a peer. It goes by the number q of its worker.
use Rattle.std.specs.Prelude.{◌≡◌, ℕ, ◌==◌, Bool, true, false, not, ◌&&◌, ◌||◌, List, [], ◌∷◌, ◌++◌, All, length, if◌then◌else◌}
use Rattle.std.specs.Prelude.{Option, None, Some, is_some, is_none, slice_index_or, unwrap_or, max}
use Rattle.std.specs.List.{filter, list_any}
use Rattle.bt_meta.specs.declared.block.Block.{Block}
use Rattle.bt_history.specs.declared.event.Action.{Action}
use Rattle.bt_history.specs.declared.event.Action.TheVariants.{Join, Bits, Have, Choke, Unchoke, Arrived, Leave, Haves, Depth, Release, Reach, Lack, Late, Alone}
use Rattle.bt_history.specs.declared.event.Event.{Event}
use Rattle.bt_history.specs.declared.rules.TheConstants.{MOST_LEVEL}
use Rattle.bt_history.specs.History.{History, own_call, same_begin, stored, requested, cancelled}
use Rattle.bt_history.specs.Setting.{Setting, count_blocks, is_block}

-- whether a peer is in after its own newest call, from what it was before
abbrev pub joined_after : Option Action → Bool → Bool
joined_after (Some Join) before = true
joined_after (Some Leave) before = false
joined_after call before = before

-- q has joined, and has not left since
unfoldable pub joined : History → ℕ → Bool
joined [] q = false
joined (e ∷ h) q = joined_after (own_call q e) (joined h q)

-- whether a bitfield of it would come too late then
abbrev pub late_after : Option Action → Bool → Bool
late_after (Some Join) before = false
late_after (Some (Bits flags)) before = true
late_after (Some (Have p)) before = true
late_after (Some (Haves flags)) before = true
late_after (Some (Lack p)) before = true
late_after (Some Choke) before = true
late_after (Some Unchoke) before = true
late_after (Some (Arrived piece begin bytes)) before = true
late_after call before = before

-- since it joined q has sent a bitfield, or a message behind which none may come: another bitfield would be too late
unfoldable pub late : History → ℕ → Bool
late [] q = false
late (e ∷ h) q = late_after (own_call q e) (late h q)

-- the flag of piece p
abbrev pub flag : List Bool → ℕ → Bool
flag flags p = slice_index_or flags p false

-- whether it shows piece p then
abbrev pub shows_after : Option Action → ℕ → Bool → Bool
shows_after (Some Join) p before = false
shows_after (Some Leave) p before = false
shows_after (Some (Bits flags)) p before = flag flags p
shows_after (Some (Have piece)) p before = (piece == p) || before
shows_after (Some (Haves flags)) p before = flag flags p || before
shows_after (Some (Lack piece)) p before = not (piece == p) && before
shows_after call p before = before

-- q told that it has piece p, and has not told since that it hasn't
unfoldable pub shows : History → ℕ → ℕ → Bool
shows [] q p = false
shows (e ∷ h) q p = shows_after (own_call q e) p (shows h q p)

-- whether it lets itself be asked then
abbrev pub is_open_after : Option Action → Bool → Bool
is_open_after (Some Unchoke) before = true
is_open_after (Some Choke) before = false
is_open_after (Some Join) before = false
is_open_after (Some Leave) before = false
is_open_after call before = before

-- q lets us ask: it unchoked us, and has not choked us since
unfoldable pub is_open : History → ℕ → Bool
is_open [] q = false
is_open (e ∷ h) q = is_open_after (own_call q e) (is_open h q)

-- the call takes back all that was asked of the peer, and with it the cancels that it is owed
abbrev pub resets : Option Action → Bool
resets (Some Choke) = true
resets (Some Join) = true
resets (Some Leave) = true
resets call = false

-- the call gives up block b at its peer, or its peer has the piece no more
abbrev pub releases : Option Action → Block → Bool
releases (Some (Release piece begin)) b = (piece == b.piece) && (begin == b.begin)
releases (Some (Lack piece)) b = piece == b.piece
releases call b = false

-- block b stays asked of q, if it was: the entry neither stored it, from anybody, nor gave it up at q
abbrev pub lasts : ℕ → Event → Block → Bool
lasts q e b = is_none (stored e b) && not (releases (own_call q e) b)

-- the entry asked block b of q
abbrev pub asks : ℕ → Event → Block → Bool
asks q e b = list_any (λ a. same_begin a b) (requested q e)

-- block b is asked of q: requested, and since then neither stored from anybody, nor freed, nor given up at q
unfoldable pub asked : History → ℕ → Block → Bool
asked [] q b = false
asked (e ∷ h) q b =
    not (resets (own_call q e)) && ((lasts q e b && asked h q b) || asks q e b)

-- the call tells that its own peer is late with block b
abbrev pub delays : Option Action → Block → Bool
delays (Some (Late piece begin)) b = (piece == b.piece) && (begin == b.begin)
delays call b = false

-- q is late with block b: it was told to be while the block was asked of it, and the block is asked of it since
unfoldable pub overdue : History → ℕ → Block → Bool
overdue [] q b = false
overdue (e ∷ h) q b =
    not (resets (own_call q e)) && (lasts q e b && ((delays (own_call q e) b && asked h q b) || overdue h q b))

-- block b is expected from q: asked of it, and it isn't late with it
abbrev pub expected : History → ℕ → Block → Bool
expected h q b = asked h q b && not (overdue h q b)

-- how many blocks are asked of q
abbrev pub asked_count : Setting → History → ℕ → ℕ
asked_count s h q = count_blocks s.torrent (asked h q)

-- the blocks asked of q, the oldest request first
unfoldable pub outstanding : History → ℕ → List Block
outstanding [] q = []
outstanding (e ∷ h) q =
    if resets (own_call q e) then []
    else filter (lasts q e) (outstanding h q) ++ requested q e

-- a block of the list begins where b does
abbrev pub has_place : Block → List Block → Bool
has_place b = list_any (λ a. same_begin a b)

-- no two blocks of the list begin at one place
unfoldable pub AreApart : List Block → Type 0
AreApart [] = Unit {0}
AreApart (b ∷ bs) = (has_place b bs ≡ false) × AreApart bs

-- the line of outstanding blocks of q lists exactly the blocks that are asked of it
pub record ListsAsked (s : Setting) (h : History) (q : ℕ) : Type 0 where
  -- each listed block is one of the torrent, and is asked
  pub listed : All (λ b. (is_block s.torrent b ≡ true) × (asked h q b ≡ true)) (outstanding h q)
  -- a block is asked exactly where one is listed that begins at its place
  pub places : (b : Block) → asked h q b ≡ has_place b (outstanding h q)
  -- none is listed twice
  pub apart : AreApart (outstanding h q)
  -- as many are listed as are asked
  pub count : length (outstanding h q) ≡ asked_count s h q

-- a cancel of block b is due at q: it was stored from another peer while it was asked of q, and was not cancelled or freed since
unfoldable pub due : History → ℕ → Block → Bool
due [] q b = false
due (e ∷ h) q b =
    not (resets (own_call q e)) && (not (cancelled q e b)
    && (due h q b || (is_some (stored e b) && (not (e.worker == q) && asked h q b))))

-- the blocks whose cancel is due at q, the one that came due first in front
unfoldable pub dues : History → ℕ → List Block
dues [] q = []
dues (e ∷ h) q =
    if resets (own_call q e) then []
    else filter (λ b. not (cancelled q e b)) (dues h q)
    ++ (if e.worker == q then [] else filter (λ b. is_some (stored e b)) (outstanding h q))

-- how many cancels are due at q
abbrev pub due_count : Setting → History → ℕ → ℕ
due_count s h q = count_blocks s.torrent (due h q)

-- ---- how deep the pipe of a peer is

-- the depth that was told of a peer then, if one was: a peer that joins begins with none
abbrev pub told_after : Option Action → Option ℕ → Option ℕ
told_after (Some (Depth n)) before = Some n
told_after (Some Join) before = None
told_after call before = before

-- the depth that was told of q since it joined, if one was
unfoldable pub told_depth : History → ℕ → Option ℕ
told_depth [] q = None
told_depth (e ∷ h) q = told_after (own_call q e) (told_depth h q)

-- so many blocks may be asked of q at a time: as many as were told, or else as the rules say
abbrev pub depth_of : Setting → History → ℕ → ℕ
depth_of s h q = unwrap_or (told_depth h q) s.depth

-- the greatest depth of q since nothing was asked of it: of its peer, since that joined or choked us
unfoldable pub depth_so_far : Setting → History → ℕ → ℕ
depth_so_far s [] q = s.depth
depth_so_far s (e ∷ h) q =
    if resets (own_call q e) then depth_of s (e ∷ h) q else max (depth_of s (e ∷ h) q) (depth_so_far s h q)

-- ---- how high the levels are that may be asked of a peer

-- the reach that was told of the peer then: a peer that joins has a full one
abbrev pub reach_after : Option Action → ℕ → ℕ
reach_after (Some (Reach n)) before = n
reach_after (Some Join) before = MOST_LEVEL
reach_after call before = before

-- the highest level of which blocks are requested of q
unfoldable pub reach : History → ℕ → ℕ
reach [] q = MOST_LEVEL
reach (e ∷ h) q = reach_after (own_call q e) (reach h q)

-- ---- which peers work alone

-- whether the peer works alone then: one that joins doesn't
abbrev pub alone_after : Option Action → Bool → Bool
alone_after (Some (Alone alone)) before = alone
alone_after (Some Join) before = false
alone_after call before = before

-- q works alone: the newest that was told of it since it joined
unfoldable pub alone : History → ℕ → Bool
alone [] q = false
alone (e ∷ h) q = alone_after (own_call q e) (alone h q)
