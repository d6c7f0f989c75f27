-- The pick: which of the replies that the rules allow is given. The word of Next, a random number, settles what they leave open.
use Rattle.std.specs.Prelude.{ℕ, ◌+◌, ◌%◌, ◌<◌, Bool, false, not, ◌&&◌, ◌||◌, ◌==◌, nat_lt, List, [], ◌∷◌, map, if◌then◌else◌}
use Rattle.bt_meta.specs.declared.block.Block.{Block}
use Rattle.bt_meta.specs.Layout.{piece_count}
use Rattle.bt_history.specs.declared.event.Action.{Action}
use Rattle.bt_history.specs.declared.event.Action.TheVariants.{Next}
use Rattle.bt_history.specs.declared.event.Event.{Event}
use Rattle.bt_history.specs.Setting.{Setting, each_block}
use Rattle.bt_history.specs.History.{History, same_begin}
use Rattle.bt_history.specs.Peers.{dues}
use Rattle.bt_history.specs.Pieces.{begun, level}
use Rattle.bt_history.specs.Next.{Answer, Exactly, CancelOf, RequestOf}
use Rattle.bt_history.specs.Legal.{Permits, answer, answer_unless, refusal}

-- the place of piece p in a round over n pieces from piece `first` on: those before it come behind the last one
abbrev pub place_in_round : ℕ → ℕ → ℕ → ℕ
place_in_round n first p = if nat_lt p first then n + p else p

-- the turn of piece p among those of its level: begun pieces in rising order, and behind them the others in a round from the word's piece on
abbrev pub turn : Setting → History → ℕ → ℕ → ℕ
turn s h word p =
    if begun s h p then p
    else piece_count s.torrent + place_in_round (piece_count s.torrent) (word % piece_count s.torrent) p

-- block b comes before block c: its piece has a higher level, or the same level and an earlier turn, or it is in front of c in one piece
abbrev pub comes_before : Setting → History → ℕ → Block → Block → Bool
comes_before s h word b c =
    nat_lt (level h c.piece) (level h b.piece)
    || ((level h b.piece == level h c.piece)
    && (nat_lt (turn s h word b.piece) (turn s h word c.piece) || ((b.piece == c.piece) && nat_lt b.begin c.begin)))

-- block b passes the test, and no block that passes comes before it
abbrev pub is_first : Setting → History → ℕ → (Block → Bool) → Block → Bool
is_first s h word test b = test b && each_block s.torrent (λ c. not (test c && comes_before s h word c b))

-- the first block of the list begins where b does
abbrev pub leads : Block → List Block → Bool
leads b [] = false
leads b (a ∷ bs) = same_begin a b

-- of the replies that an answer has the one that is given to q: the cancel that came due first, or the request of the block that comes first
abbrev pub pick : Setting → History → ℕ → ℕ → Answer → Answer
pick s h q word (Exactly reply) = Exactly reply
pick s h q word (CancelOf test) = CancelOf (λ b. leads b (dues h q))
pick s h q word (RequestOf test) = RequestOf (is_first s h word test)

-- the word of the call: no other call than Next has one
abbrev pub word_of : Action → ℕ
word_of (Next word) = word
word_of call = 0

-- the reply of the entry is the pick after the history
unfoldable pub IsPicked : Setting → History → Event → Type 0
IsPicked s h e = Permits s.torrent
    (answer_unless (refusal s h e.worker e.action) (pick s h e.worker (word_of e.action) (answer s h e.worker e.action))) e.reply

-- each entry's reply is the pick after those before it, and its worker is one of the setting's
abbrev pub ArePicked : Setting → History → Type 0
ArePicked s [] = Unit {0}
ArePicked s (e ∷ h) = ArePicked s h × (e.worker < s.workers) × IsPicked s h e

-- who called, and what
abbrev pub call_by : Event → ℕ × Action
call_by e = (e.worker, e.action)

-- the calls of a history, without its replies
abbrev pub calls_of : History → List (ℕ × Action)
calls_of h = map call_by h
