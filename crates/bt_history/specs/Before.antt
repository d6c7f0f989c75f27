-- The rules as they were before there were later calls: what the laws compare them with. The later calls release a block, bound its
-- askers, tell the depth of a peer, add to what it shows and take from it, give pieces levels and an order, bound a peer's reach, let a part of the levels
-- come in order, tell that a request is late, let a peer work alone, and free blocks with no check.
use Rattle.std.specs.Prelude.{ℕ, Bool, true, false, not, ◌==◌, ◌&&◌, ◌||◌, List, [], ◌∷◌, ◌++◌, Option, None, Some, is_none, is_some, nat_lt, nat_le, if◌then◌else◌}
use Rattle.std.specs.List.{filter}
use Rattle.bt_meta.specs.declared.block.Block.{Block}
use Rattle.bt_meta.specs.Layout.{piece_count}
use Rattle.bt_history.specs.declared.call.Reply.{Reply}
use Rattle.bt_history.specs.declared.call.Reply.TheVariants.{Choked, PipeFull, Idle, NothingLeft, Request}
use Rattle.bt_history.specs.declared.event.Action.{Action}
use Rattle.bt_history.specs.declared.event.Action.TheVariants.{Join, Bits, Have, Choke, Unchoke, Arrived, Leave, Want, Haves, Depth, Release}
use Rattle.bt_history.specs.declared.event.Action.TheVariants.{Level, Levels, InOrder, Reach, InOrderFrom, Lack, Late, Alone, Lose, Discard, Requested}
use Rattle.bt_history.specs.declared.event.Event.{Event}
use Rattle.bt_history.specs.Counting.{all_below, any_below, count_below}
use Rattle.bt_history.specs.Setting.{Setting, some_block, each_block}
use Rattle.bt_history.specs.History.{History, counted_call, is_failed, own_call, passed, requested, settles, stored}
use Rattle.bt_history.specs.Peers.{flag, shows, is_open, asks, asked, asked_count, due, depth_of, overdue, resets}
use Rattle.bt_history.specs.Pieces.{gives, is_free_for, is_open_piece, offers, asker_count, held, held_or_asked, wanted, begun, unbegun, availability, endgame, interesting, had_count, unasked}
use Rattle.bt_history.specs.Legal.{place_at}
use Rattle.bt_history.specs.Next.{Answer, Exactly, CancelOf, RequestOf, usable, tops, is_candidate, is_strict, resumes, rises, starts, doubles}
use Rattle.bt_history.specs.Next.{continues, rushes, tops_in_order}

-- block b is asked of q: requested, and since then neither stored from anybody nor freed
unfoldable pub asked_before : History → ℕ → Block → Bool
asked_before [] q b = false
asked_before (e ∷ h) q b =
    not (resets (own_call q e)) && ((is_none (stored e b) && asked_before h q b) || asks q e b)

-- the blocks asked of q, the oldest request first
unfoldable pub outstanding_before : History → ℕ → List Block
outstanding_before [] q = []
outstanding_before (e ∷ h) q =
    if resets (own_call q e) then []
    else filter (λ b. is_none (stored e b)) (outstanding_before h q) ++ requested q e

-- the call gives up blocks
abbrev pub is_release : Action → Bool
is_release (Release p begin) = true
is_release (Lack p) = true
is_release call = false

-- no entry gives up a block
unfoldable pub never_releases : History → Bool
never_releases [] = true
never_releases (e ∷ h) = not (is_release e.action) && never_releases h

-- a wanted block that is lacking, which q could give and isn't asked for, with no bound on askers
abbrev pub doubles_before : Setting → History → ℕ → Block → Bool
doubles_before s h q b = wanted s h b.piece && (gives h q b.piece && (not (held h b) && not (asked h q b)))

-- the call tells a depth
abbrev pub is_depth : Action → Bool
is_depth (Depth n) = true
is_depth call = false

-- no entry tells a depth
unfoldable pub never_deepens : History → Bool
never_deepens [] = true
never_deepens (e ∷ h) = not (is_depth e.action) && never_deepens h

-- whether a peer shows piece p then
abbrev pub shows_then : Option Action → ℕ → Bool → Bool
shows_then (Some Join) p before = false
shows_then (Some Leave) p before = false
shows_then (Some (Bits flags)) p before = flag flags p
shows_then (Some (Have piece)) p before = (piece == p) || before
shows_then call p before = before

-- q told that it has piece p
unfoldable pub shows_before : History → ℕ → ℕ → Bool
shows_before [] q p = false
shows_before (e ∷ h) q p = shows_then (own_call q e) p (shows_before h q p)

-- whether a bitfield of it would come too late then
abbrev pub late_then : Option Action → Bool → Bool
late_then (Some Join) before = false
late_then (Some (Bits flags)) before = true
late_then (Some (Have p)) before = true
late_then (Some Choke) before = true
late_then (Some Unchoke) before = true
late_then (Some (Arrived piece begin bytes)) before = true
late_then call before = before

-- another bitfield of q would be too late
unfoldable pub late_before : History → ℕ → Bool
late_before [] q = false
late_before (e ∷ h) q = late_then (own_call q e) (late_before h q)

-- the call adds to the pieces that a peer shows, or takes one from them
abbrev pub is_haves : Action → Bool
is_haves (Haves flags) = true
is_haves (Lack p) = true
is_haves call = false

-- no entry adds to them, or takes from them
unfoldable pub never_adds : History → Bool
never_adds [] = true
never_adds (e ∷ h) = not (is_haves e.action) && never_adds h

-- whether piece p is chosen then
abbrev pub chosen_then : Option Action → ℕ → Bool → Bool
chosen_then (Some (Want flags)) p before = flag flags p
chosen_then call p before = before

-- the newest Want, whoever made it, has piece p; until there is one, each piece is chosen
unfoldable pub chosen_before : History → ℕ → Bool
chosen_before [] p = true
chosen_before (e ∷ h) p = chosen_then (counted_call e) p (chosen_before h p)

-- no piece that passes the test is shown by fewer peers than p
abbrev pub none_rarer_before : Setting → History → (ℕ → Bool) → ℕ → Bool
none_rarer_before s h test p = all_below (piece_count s.torrent) (λ r. not (test r) || nat_le (availability s h p) (availability s h r))

-- rarest first: no candidate has less availability than p
abbrev pub is_rarest_before : Setting → History → ℕ → ℕ → Bool
is_rarest_before s h q p = none_rarer_before s h (is_candidate s h q) p

-- which begun pieces may go on: with a bound of 0 all, else the rarest open ones, and unless begun ones come first only where no candidate is rarer
abbrev pub goes_first_before : Setting → History → ℕ → ℕ → Bool
goes_first_before s h q p =
    (s.most_open == 0) || (none_rarer_before s h (resumes s h q) p && (is_strict s h || is_rarest_before s h q p))

-- a usable block whose piece has begun and may go on
abbrev pub continues_before : Setting → History → ℕ → Block → Bool
continues_before s h q b = usable s h q b && (begun s h b.piece && goes_first_before s h q b.piece)

-- a usable block that begins a piece: a rarest one, but the first pieces may be any
abbrev pub starts_before : Setting → History → ℕ → Block → Bool
starts_before s h q b =
    usable s h q b && (unbegun s h b.piece
    && (nat_lt (had_count s h) s.random || is_rarest_before s h q b.piece))

-- the answer to Next of q: the first case that applies
unfoldable pub next_before : Setting → History → ℕ → Answer
next_before s h q =
    if some_block s.torrent (due h q) then CancelOf (due h q)
    else if not (is_open h q) then Exactly Choked
    else if nat_le (depth_of s h q) (asked_count s h q) then Exactly PipeFull
    else if some_block s.torrent (continues_before s h q) then RequestOf (continues_before s h q)
    else if some_block s.torrent (usable s h q) then RequestOf (starts_before s h q)
    else if rushes s h q && (endgame s h && some_block s.torrent (doubles s h q)) then RequestOf (doubles s h q)
    else if interesting s h q then Exactly Idle
    else Exactly NothingLeft

-- strict priority without exception: a usable block of the highest level whose piece has begun
abbrev pub continues_strictly : Setting → History → ℕ → Block → Bool
continues_strictly s h q b = tops s h q b && begun s h b.piece

-- the answer to Next of q before a number of open pieces could be set: the first case that applies
unfoldable pub next_strict : Setting → History → ℕ → Answer
next_strict s h q =
    if some_block s.torrent (due h q) then CancelOf (due h q)
    else if not (is_open h q) then Exactly Choked
    else if nat_le (depth_of s h q) (asked_count s h q) then Exactly PipeFull
    else if some_block s.torrent (tops_in_order s h q) then RequestOf (rises s h q)
    else if some_block s.torrent (continues_strictly s h q) then RequestOf (continues_strictly s h q)
    else if some_block s.torrent (usable s h q) then RequestOf (starts s h q)
    else if rushes s h q && (endgame s h && some_block s.torrent (doubles s h q)) then RequestOf (doubles s h q)
    else if interesting s h q then Exactly Idle
    else Exactly NothingLeft

-- the answer to Next of q before endgame could be kept from a peer that is asked for many blocks: the first case that applies
unfoldable pub next_unrushed : Setting → History → ℕ → Answer
next_unrushed s h q =
    if some_block s.torrent (due h q) then CancelOf (due h q)
    else if not (is_open h q) then Exactly Choked
    else if nat_le (depth_of s h q) (asked_count s h q) then Exactly PipeFull
    else if some_block s.torrent (tops_in_order s h q) then RequestOf (rises s h q)
    else if some_block s.torrent (continues s h q) then RequestOf (continues s h q)
    else if some_block s.torrent (usable s h q) then RequestOf (starts s h q)
    else if endgame s h && some_block s.torrent (doubles s h q) then RequestOf (doubles s h q)
    else if interesting s h q then Exactly Idle
    else Exactly NothingLeft

-- endgame as it was: every wanted block that is lacking is asked of somebody, and there is one that is lacking
abbrev pub endgame_of_all : Setting → History → Bool
endgame_of_all s h =
    each_block s.torrent (λ b. not (wanted s h b.piece) || held_or_asked s h b)
    && some_block s.torrent (λ b. wanted s h b.piece && not (held h b))

-- the call gives pieces a level or an order
abbrev pub is_levelling : Action → Bool
is_levelling (Level p n) = true
is_levelling (Levels levels) = true
is_levelling (InOrder rising) = true
is_levelling (InOrderFrom n) = true
is_levelling call = false

-- no entry gives pieces a level or an order
unfoldable pub never_levels : History → Bool
never_levels [] = true
never_levels (e ∷ h) = not (is_levelling e.action) && never_levels h

-- the call tells a reach
abbrev pub is_reach : Action → Bool
is_reach (Reach n) = true
is_reach call = false

-- no entry tells a reach
unfoldable pub never_reaches : History → Bool
never_reaches [] = true
never_reaches (e ∷ h) = not (is_reach e.action) && never_reaches h

-- a request of block b to q was of use before there was a reach: the block is unasked, and q shows its piece, which is wanted, isn't late with
-- it and may take part
abbrev pub usable_unreached : Setting → History → ℕ → Block → Bool
usable_unreached s h q b =
    unasked s h b && (wanted s h b.piece && (shows h q b.piece && (not (overdue h q b) && is_free_for s h q b.piece)))

-- and of a lacking one in endgame: q shows its piece, which is wanted, and isn't asked for it, nor are as many others as may be
abbrev pub doubles_unreached : Setting → History → ℕ → Block → Bool
doubles_unreached s h q b =
    wanted s h b.piece && (shows h q b.piece
    && (not (held h b) && (nat_lt (asker_count s h b) s.askers && not (asked h q b))))

-- the call tells that a request is late
abbrev pub is_delay : Action → Bool
is_delay (Late p begin) = true
is_delay call = false

-- no entry tells that a request is late
unfoldable pub never_delays : History → Bool
never_delays [] = true
never_delays (e ∷ h) = not (is_delay e.action) && never_delays h

-- block b was asked of some peer before a peer could be late with it
abbrev pub asked_of_any : Setting → History → Block → Bool
asked_of_any s h b = any_below s.workers (λ q. asked h q b)

-- of how many peers it was
abbrev pub any_asker_count : Setting → History → Block → ℕ
any_asker_count s h b = count_below s.workers (λ q. asked h q b)

-- a request of block b to q was of use then: the block is unasked, its piece is wanted, and q may be asked for it and may take part
abbrev pub usable_undelayed : Setting → History → ℕ → Block → Bool
usable_undelayed s h q b = unasked s h b && (wanted s h b.piece && (gives h q b.piece && is_free_for s h q b.piece))

-- an open piece that q shows and may take part in
abbrev pub resumes_undelayed : Setting → History → ℕ → ℕ → Bool
resumes_undelayed s h q p = is_open_piece s h p && (shows h q p && is_free_for s h q p)

-- a wanted unbegun piece that q shows
abbrev pub is_candidate_undelayed : Setting → History → ℕ → ℕ → Bool
is_candidate_undelayed s h q p = wanted s h p && (shows h q p && unbegun s h p)

-- the block that begins there was asked of w, and of nobody else
abbrev pub asked_alone_undelayed : Setting → History → ℕ → ℕ → ℕ → Bool
asked_alone_undelayed s h w p begin = asked h w (place_at p begin) && (any_asker_count s h (place_at p begin) == 1)

-- the call tells whether a peer works alone
abbrev pub tells_alone : Action → Bool
tells_alone (Alone alone) = true
tells_alone call = false

-- no entry tells it
unfoldable pub never_alone : History → Bool
never_alone [] = true
never_alone (e ∷ h) = not (tells_alone e.action) && never_alone h

-- a request of block b to q was of use before a peer could work alone: the block is unasked, its piece is wanted, and q may be asked for it and
-- isn't late with it
abbrev pub usable_unowned : Setting → History → ℕ → Block → Bool
usable_unowned s h q b = unasked s h b && (wanted s h b.piece && (gives h q b.piece && not (overdue h q b)))

-- an open piece that q offers
abbrev pub resumes_unowned : Setting → History → ℕ → ℕ → Bool
resumes_unowned s h q p = is_open_piece s h p && offers s h q p

-- the call frees blocks with no check
abbrev pub is_loss : Action → Bool
is_loss (Lose p) = true
is_loss (Discard p begin) = true
is_loss call = false

-- no entry does
unfoldable pub never_loses : History → Bool
never_loses [] = true
never_loses (e ∷ h) = not (is_loss e.action) && never_loses h

-- the call tells of a request in flight
abbrev pub tells_flight : Action → Bool
tells_flight (Requested p begin) = true
tells_flight call = false

-- the block that the reply asked for before there was such a call, if it did
abbrev pub requested_before : Reply → List Block
requested_before (Request b) = b ∷ []
requested_before reply = []

-- the entry is a check of piece p that failed
abbrev pub failed : Event → ℕ → Bool
failed e p = is_failed e.reply && settles e.action p

-- the bytes of block b, if it is held: stored, and its piece has not failed a check since
unfoldable pub kept_before : History → Block → Option (List ℕ)
kept_before [] b = None
kept_before (e ∷ h) b =
    if failed e b.piece then None else if is_some (stored e b) then stored e b else kept_before h b

-- the worker whose peer brought block b, if it is held
unfoldable pub sender_before : History → Block → Option ℕ
sender_before [] b = None
sender_before (e ∷ h) b =
    if failed e b.piece then None else if is_some (stored e b) then Some e.worker else sender_before h b

-- piece p was checked, and had its hash
unfoldable pub had_before : History → ℕ → Bool
had_before [] p = false
had_before (e ∷ h) p = passed e p || had_before h p

-- the call tells from which level on pieces come in order
abbrev pub is_window : Action → Bool
is_window (InOrderFrom n) = true
is_window call = false

-- no entry tells it
unfoldable pub never_windows : History → Bool
never_windows [] = true
never_windows (e ∷ h) = not (is_window e.action) && never_windows h

-- whether pieces come in order after the newest call, from what it was before
abbrev pub in_order_after : Option Action → Bool → Bool
in_order_after (Some (InOrder rising)) before = rising
in_order_after call before = before

-- the newest InOrder, whoever made it, has pieces in rising order; until there is one, the rarest come first
unfoldable pub in_order_before : History → Bool
in_order_before [] = false
in_order_before (e ∷ h) = in_order_after (counted_call e) (in_order_before h)

-- the answer to Next of q before a part of the levels could come in order: the first case that applies
unfoldable pub next_unwindowed : Setting → History → ℕ → Answer
next_unwindowed s h q =
    if some_block s.torrent (due h q) then CancelOf (due h q)
    else if not (is_open h q) then Exactly Choked
    else if nat_le (depth_of s h q) (asked_count s h q) then Exactly PipeFull
    else if in_order_before h && some_block s.torrent (usable s h q) then RequestOf (rises s h q)
    else if some_block s.torrent (continues s h q) then RequestOf (continues s h q)
    else if some_block s.torrent (usable s h q) then RequestOf (starts s h q)
    else if rushes s h q && (endgame s h && some_block s.torrent (doubles s h q)) then RequestOf (doubles s h q)
    else if interesting s h q then Exactly Idle
    else Exactly NothingLeft
