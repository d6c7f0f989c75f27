-- What may be asked of a peer next (Cohen 2003, "Piece selection"; BEP 3 on the end game).
use Rattle.std.specs.Prelude.{ℕ, Bool, not, ◌&&◌, ◌||◌, ◌==◌, nat_lt, nat_le, if◌then◌else◌}
use Rattle.bt_meta.specs.declared.block.Block.{Block}
use Rattle.bt_meta.specs.Layout.{piece_count}
use Rattle.bt_history.specs.declared.call.Reply.{Reply}
use Rattle.bt_history.specs.declared.call.Reply.TheVariants.{Choked, PipeFull, Idle, NothingLeft}
use Rattle.bt_history.specs.Counting.{all_below}
use Rattle.bt_history.specs.Setting.{Setting, each_block, some_block}
use Rattle.bt_history.specs.History.{History}
use Rattle.bt_history.specs.Peers.{is_open, asked, asked_count, due, depth_of, overdue}
use Rattle.bt_history.specs.Pieces.{held, asker_count, unasked, begun, unbegun, availability, wanted, endgame, interesting, had_count}
use Rattle.bt_history.specs.Pieces.{comes_in_order, gives, is_free_for, is_open_piece, level, offers, open_count}

-- just this reply, or a Cancel or a Request of any block that passes the test
pub data Answer : Type 0 where
  Exactly : (reply : Reply) → Answer
  CancelOf : (test : Block → Bool) → Answer
  RequestOf : (test : Block → Bool) → Answer

-- a request of block b to q is of use: the block is unasked, its piece is wanted, and q may be asked for it, isn't late with it and may take part
abbrev pub usable : Setting → History → ℕ → Block → Bool
usable s h q b = unasked s h b && (wanted s h b.piece && (gives h q b.piece && (not (overdue h q b) && is_free_for s h q b.piece)))

-- levels: a usable block of a level that no usable block is above
abbrev pub tops : Setting → History → ℕ → Block → Bool
tops s h q b = usable s h q b && each_block s.torrent (λ c. not (usable s h q c) || nat_le (level h c.piece) (level h b.piece))

-- no piece of p's level that passes the test is shown by fewer peers than p
abbrev pub none_rarer : Setting → History → (ℕ → Bool) → ℕ → Bool
none_rarer s h test p = all_below (piece_count s.torrent) (λ r.
    not (test r && (level h r == level h p)) || nat_le (availability s h p) (availability s h r))

-- an open piece that q offers and may take part in
abbrev pub resumes : Setting → History → ℕ → ℕ → Bool
resumes s h q p = is_open_piece s h p && (offers s h q p && is_free_for s h q p)

-- a wanted unbegun piece that q offers
abbrev pub is_candidate : Setting → History → ℕ → ℕ → Bool
is_candidate s h q p = wanted s h p && (offers s h q p && unbegun s h p)

-- rarest first: no candidate of its level has less availability than p
abbrev pub is_rarest : Setting → History → ℕ → ℕ → Bool
is_rarest s h q p = none_rarer s h (is_candidate s h q) p

-- begun pieces come before all others: more are open than may be, or too few are had to tell which are rare
abbrev pub is_strict : Setting → History → Bool
is_strict s h = nat_lt s.most_open (open_count s h) || nat_lt (had_count s h) s.random

-- which begun pieces may go on: with a bound of 0 all, else the rarest open ones, and unless begun ones come first only where no candidate is rarer
abbrev pub goes_first : Setting → History → ℕ → ℕ → Bool
goes_first s h q p = (s.most_open == 0) || (none_rarer s h (resumes s h q) p && (is_strict s h || is_rarest s h q p))

-- such a block whose piece has begun and may go on
abbrev pub continues : Setting → History → ℕ → Block → Bool
continues s h q b = tops s h q b && (begun s h b.piece && goes_first s h q b.piece)

-- such a block that begins a piece: a rarest one, but the first pieces may be any
abbrev pub starts : Setting → History → ℕ → Block → Bool
starts s h q b =
    tops s h q b && (unbegun s h b.piece
    && (nat_lt (had_count s h) s.random || is_rarest s h q b.piece))

-- such a block of a level whose pieces come in order
abbrev pub tops_in_order : Setting → History → ℕ → Block → Bool
tops_in_order s h q b = tops s h q b && comes_in_order h b.piece

-- in order: such a block of a piece that none of the others is before, begun or not
abbrev pub rises : Setting → History → ℕ → Block → Bool
rises s h q b = tops s h q b && each_block s.torrent (λ c. not (tops s h q c) || nat_le b.piece c.piece)

-- a wanted block that is lacking, which q may be asked for and isn't, nor are as many others as may be
abbrev pub doubles : Setting → History → ℕ → Block → Bool
doubles s h q b =
    wanted s h b.piece && (gives h q b.piece
    && (not (held h b) && (nat_lt (asker_count s h b) s.askers && not (asked h q b))))

-- q is asked for so few blocks that it may be asked for one that another peer is asked for
abbrev pub rushes : Setting → History → ℕ → Bool
rushes s h q = nat_lt (asked_count s h q) s.rush

-- a request of block b that was sent to q already may count: q is owed no cancel, lets itself be asked and has room, and the block is of use
abbrev pub may_count : Setting → History → ℕ → Block → Bool
may_count s h q b =
    not (some_block s.torrent (due h q)) && (is_open h q && (not (nat_le (depth_of s h q) (asked_count s h q)) && usable s h q b))

-- the answer to Next of q: the first case that applies
unfoldable pub next_answer : Setting → History → ℕ → Answer
next_answer s h q =
    if some_block s.torrent (due h q) then CancelOf (due h q)
    else if not (is_open h q) then Exactly Choked
    else if nat_le (depth_of s h q) (asked_count s h q) then Exactly PipeFull
    else if some_block s.torrent (tops_in_order s h q) then RequestOf (rises s h q)
    else if some_block s.torrent (continues s h q) then RequestOf (continues s h q)
    else if some_block s.torrent (usable s h q) then RequestOf (starts s h q)
    else if rushes s h q && (endgame s h && some_block s.torrent (doubles s h q)) then RequestOf (doubles s h q)
    else if interesting s h q then Exactly Idle
    else Exactly NothingLeft
