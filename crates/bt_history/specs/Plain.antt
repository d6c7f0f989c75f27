-- Legality as it was before there were later calls, whole. The law `plain_is_as_before` alone cites it. A plain history has no later call,
-- each depth is that of the rules, all wanted pieces are alike, and endgame has no bound on askers.
use Rattle.std.specs.Prelude.{ℕ, ◌<◌, IsTrue, Bool, false, not, ◌&&◌, ◌||◌, ◌==◌, nat_lt, nat_le, [], ◌∷◌, Option, Some, is_some, if◌then◌else◌}
use Rattle.bt_meta.specs.declared.block.Block.{Block}
use Rattle.bt_meta.specs.Layout.{piece_count}
use Rattle.bt_history.specs.declared.call.Reason.{Reason}
use Rattle.bt_history.specs.declared.call.Reason.TheVariants.{LateBits}
use Rattle.bt_history.specs.declared.call.Reply.TheVariants.{Noted, Choked, PipeFull, Idle, NothingLeft}
use Rattle.bt_history.specs.declared.event.Action.{Action}
use Rattle.bt_history.specs.declared.event.Action.TheVariants.{Bits, Have, Next}
use Rattle.bt_history.specs.declared.event.Event.{Event}
use Rattle.bt_history.specs.Counting.{any_below, all_below, count_below}
use Rattle.bt_history.specs.Setting.{Setting, some_block_of, some_block, each_block, count_blocks}
use Rattle.bt_history.specs.History.{History, own_call, stored, cancelled}
use Rattle.bt_history.specs.Peers.{joined, is_open, resets}
use Rattle.bt_history.specs.Pieces.{held, had, had_count}
use Rattle.bt_history.specs.Next.{Answer, Exactly, CancelOf, RequestOf}
use Rattle.bt_history.specs.Legal.{first_cause, no_peer, no_count, refusal, answer, answer_unless, Permits}
use Rattle.bt_history.specs.Before.{asked_before, shows_before, shows_then, late_before, chosen_before, is_release, is_depth, is_haves, is_levelling}
use Rattle.bt_history.specs.Before.{is_delay, is_loss, is_reach, tells_alone}

-- ---- peers, blocks and pieces

-- how many blocks are asked of q
abbrev pub plain_asked_count : Setting → History → ℕ → ℕ
plain_asked_count s h q = count_blocks s.torrent (asked_before h q)

-- a cancel of block b is due at q: it was stored from another peer while it was asked of q, and was not cancelled or freed since
unfoldable pub plain_due : History → ℕ → Block → Bool
plain_due [] q b = false
plain_due (e ∷ h) q b =
    not (resets (own_call q e)) && (not (cancelled q e b)
    && (plain_due h q b || (is_some (stored e b) && (not (e.worker == q) && asked_before h q b))))

-- block b is held, or asked of some peer
abbrev pub plain_held_or_asked : Setting → History → Block → Bool
plain_held_or_asked s h b = held h b || any_below s.workers (λ q. asked_before h q b)

-- piece p is under way: of its blocks one or more are held or asked, but it isn't had yet
abbrev pub plain_begun : Setting → History → ℕ → Bool
plain_begun s h p = not (had h p) && some_block_of s.torrent p (plain_held_or_asked s h)

-- piece p is yet to be started: it isn't had, and none of its blocks is held or asked
abbrev pub plain_unbegun : Setting → History → ℕ → Bool
plain_unbegun s h p = not (had h p) && not (some_block_of s.torrent p (plain_held_or_asked s h))

-- how many joined peers show piece p
abbrev pub plain_availability : Setting → History → ℕ → ℕ
plain_availability s h p = count_below s.workers (λ q. joined h q && shows_before h q p)

-- piece p is to be downloaded: a chosen piece of the torrent
abbrev pub plain_wanted : Setting → History → ℕ → Bool
plain_wanted s h p = nat_lt p (piece_count s.torrent) && chosen_before h p

-- endgame: every wanted block that is lacking is asked of somebody, and there is one that is lacking
abbrev pub plain_endgame : Setting → History → Bool
plain_endgame s h =
    each_block s.torrent (λ b. not (plain_wanted s h b.piece) || plain_held_or_asked s h b)
    && some_block s.torrent (λ b. plain_wanted s h b.piece && not (held h b))

-- some piece that is shown is wanted and isn't had
abbrev pub plain_lacks : Setting → History → (ℕ → Bool) → Bool
plain_lacks s h shown = any_below (piece_count s.torrent) (λ p. plain_wanted s h p && (shown p && not (had h p)))

-- ---- what may be asked of a peer next

-- a request of block b to q is of use: the block is unasked, and q shows its piece, which is wanted
abbrev pub plain_usable : Setting → History → ℕ → Block → Bool
plain_usable s h q b = not (plain_held_or_asked s h b) && (plain_wanted s h b.piece && shows_before h q b.piece)

-- strict priority: a usable block whose piece has begun
abbrev pub plain_continues : Setting → History → ℕ → Block → Bool
plain_continues s h q b = plain_usable s h q b && plain_begun s h b.piece

-- a wanted unbegun piece that q shows
abbrev pub plain_candidate : Setting → History → ℕ → ℕ → Bool
plain_candidate s h q p = plain_wanted s h p && (shows_before h q p && plain_unbegun s h p)

-- rarest first: no candidate has less availability than p
abbrev pub plain_rarest : Setting → History → ℕ → ℕ → Bool
plain_rarest s h q p = all_below (piece_count s.torrent) (λ r.
    not (plain_candidate s h q r) || nat_le (plain_availability s h p) (plain_availability s h r))

-- a usable block that begins a piece: a rarest one, but the first pieces may be any
abbrev pub plain_starts : Setting → History → ℕ → Block → Bool
plain_starts s h q b =
    plain_usable s h q b && (plain_unbegun s h b.piece
    && (nat_lt (had_count s h) s.random || plain_rarest s h q b.piece))

-- a wanted block that is lacking, which q could give and isn't asked for
abbrev pub plain_doubles : Setting → History → ℕ → Block → Bool
plain_doubles s h q b =
    plain_wanted s h b.piece && (shows_before h q b.piece && (not (held h b) && not (asked_before h q b)))

-- the answer to Next of q: the first case that applies
unfoldable pub plain_next : Setting → History → ℕ → Answer
plain_next s h q =
    if some_block s.torrent (plain_due h q) then CancelOf (plain_due h q)
    else if not (is_open h q) then Exactly Choked
    else if nat_le s.depth (plain_asked_count s h q) then Exactly PipeFull
    else if some_block s.torrent (plain_continues s h q) then RequestOf (plain_continues s h q)
    else if some_block s.torrent (plain_usable s h q) then RequestOf (plain_starts s h q)
    else if plain_endgame s h && some_block s.torrent (plain_doubles s h q) then RequestOf (plain_doubles s h q)
    else if plain_lacks s h (shows_before h q) then Exactly Idle
    else Exactly NothingLeft

-- ---- legality

-- why the call is refused: a bitfield where it came too late then, and each other call as now
unfoldable pub plain_refusal : Setting → History → ℕ → Action → Option Reason
plain_refusal s h w (Bits flags) = first_cause (no_peer h w ∷ (late_before h w, LateBits) ∷ no_count s flags ∷ [])
plain_refusal s h w call = refusal s h w call

-- w has something for us once it made this call
abbrev pub plain_interesting_after : Setting → History → ℕ → Action → Bool
plain_interesting_after s h w call = plain_lacks s h (λ p. shows_then (Some call) p (shows_before h w p))

-- the answer to a call that isn't refused: of what a peer shows and of Next by the plain rules, and to each other call as now
unfoldable pub plain_answer : Setting → History → ℕ → Action → Answer
plain_answer s h w (Bits flags) = Exactly (Noted (plain_interesting_after s h w (Bits flags)))
plain_answer s h w (Have p) = Exactly (Noted (plain_interesting_after s h w (Have p)))
plain_answer s h w (Next word) = plain_next s h w
plain_answer s h w call = answer s h w call

-- the call is none of the later ones
abbrev pub is_plain : Action → Bool
is_plain call =
    not (is_release call)
    && (not (is_depth call)
    && (not (is_haves call) && (not (is_levelling call) && (not (is_reach call) && (not (is_delay call)
    && (not (tells_alone call) && not (is_loss call)))))))

-- the entry might come after the history: a plain call of one of the desk's workers, and its reply is the refusal or one of the answer
unfoldable pub IsAllowedBefore : Setting → History → Event → Type 0
IsAllowedBefore s h e =
    IsTrue (is_plain e.action)
    × (e.worker < s.workers)
    × Permits s.torrent (answer_unless (plain_refusal s h e.worker e.action) (plain_answer s h e.worker e.action)) e.reply

-- each entry was allowed after those before it
abbrev pub IsLegalBefore : Setting → History → Type 0
IsLegalBefore s [] = Unit {0}
IsLegalBefore s (e ∷ h) = IsLegalBefore s h × IsAllowedBefore s h e
