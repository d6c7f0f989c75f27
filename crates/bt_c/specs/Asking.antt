-- What a picker tells, its pieces and workers tested first.
use Rattle.std.specs.Prelude.{◌≡◌, ◌≢◌, ℕ, ◌<◌, ◌≤◌, List, None, Some, true, false, length, slice_index_or}
use Rattle.std.specs.declared.result.Result.{Result}
use Rattle.std.specs.declared.result.Result.TheVariants.{Ok, Err}
use Rattle.bt_meta.specs.declared.block.Block.{Block}
use Rattle.bt_meta.specs.Layout.{block, block_count, piece_count, piece_len}
use Rattle.bt_history.specs.Legal.{IsLegal}
use Rattle.bt_history.specs.PickRules.{rule_number, rule_of}
use Rattle.bt_history.specs.Peers.{outstanding, depth_so_far}
use Rattle.bt_history.specs.Pieces.{asker_count, availability, content, had, in_order, interesting, level, order_from, sender}
use Rattle.bt_picker.specs.Checks.{waits}
use Rattle.bt_picker.specs.Contents.{complete, has_wanted}
use Rattle.bt_picker.specs.Positions.{DeskState}
use Rattle.bt_c.specs.declared.asking.Question.{Question}
use Rattle.bt_c.specs.declared.asking.Question.TheVariants.{Pieces, Workers, Complete, HasWanted, InOrder, OrderFrom}
use Rattle.bt_c.specs.declared.asking.PieceQuestion.{PieceQuestion}
use Rattle.bt_c.specs.declared.asking.PieceQuestion.TheVariants.{Had, Waiting, Level, Availability, Length, Blocks}
use Rattle.bt_c.specs.declared.fault.Fault.{Fault}
use Rattle.bt_c.specs.declared.fault.Fault.TheVariants.{Worker, Piece, Room, Incomplete, NoMemory, Place, Keeps, Block as BlockFault, NotHeld}
use Rattle.bt_c.specs.declared.engine.Keeping.TheVariants.{Journal}
use Rattle.bt_c.specs.declared.held.Held.{Held}
use Rattle.bt_c.specs.Behind.{keeping, state}
use Rattle.bt_c.specs.Calling.{IsPiece, IsWorker}
use Rattle.bt_c.specs.Outcomes.{Done, flag}

-- what the desk is asked, a flag as 1 or 0
abbrev pub number_of : DeskState → Question → ℕ
number_of d Pieces = piece_count d.setting.torrent
number_of d Workers = d.setting.workers
number_of d Complete = flag (complete d.setting d.history)
number_of d HasWanted = flag (has_wanted d.setting d.history)
number_of d InOrder = flag (in_order d.history)
number_of d OrderFrom = order_from d.history

-- what the desk is asked of piece p
abbrev pub number_of_piece : DeskState → PieceQuestion → ℕ → ℕ
number_of_piece d Had p = flag (had d.history p)
number_of_piece d Waiting p = flag (waits d.setting d.history p)
number_of_piece d Level p = level d.history p
number_of_piece d Availability p = availability d.setting d.history p
number_of_piece d Length p = piece_len d.setting.torrent p
number_of_piece d Blocks p = block_count d.setting.torrent p

-- how many blocks are asked of worker w's peer
abbrev pub count_of_peer : DeskState → ℕ → ℕ
count_of_peer d w = length (outstanding d.history w)

-- a number that each desk has
abbrev pub Says : ℕ → Result ℕ Fault → Type 0
Says n (Ok x) = x ≡ n
Says n (Err f) = ⊥

-- a number of piece p
abbrev pub SaysOfPiece : DeskState → ℕ → ℕ → Result ℕ Fault → Type 0
SaysOfPiece d p n (Ok x) = IsPiece d p × (x ≡ n)
SaysOfPiece d p n (Err Piece) = IsPiece d p → ⊥
SaysOfPiece d p n (Err f) = ⊥

-- the worker whose peer brought block k of piece p, if that is held
abbrev pub SaysSender : DeskState → ℕ → ℕ → Result ℕ Fault → Type 0
SaysSender d p k (Ok w) = IsPiece d p × (k < block_count d.setting.torrent p)
    × (sender d.history (block d.setting.torrent p k) ≡ Some w)
SaysSender d p k (Err Piece) = IsPiece d p → ⊥
SaysSender d p k (Err BlockFault) = IsPiece d p × ((k < block_count d.setting.torrent p) → ⊥)
SaysSender d p k (Err NotHeld) = IsPiece d p × (k < block_count d.setting.torrent p)
    × (sender d.history (block d.setting.torrent p k) ≡ None)
SaysSender d p k (Err f) = ⊥

-- a number of block k of piece p
abbrev pub SaysOfBlock : DeskState → ℕ → ℕ → (Block → ℕ) → Result ℕ Fault → Type 0
SaysOfBlock d p k number (Ok n) = IsPiece d p × (k < block_count d.setting.torrent p) × (n ≡ number (block d.setting.torrent p k))
SaysOfBlock d p k number (Err Piece) = IsPiece d p → ⊥
SaysOfBlock d p k number (Err BlockFault) = IsPiece d p × ((k < block_count d.setting.torrent p) → ⊥)
SaysOfBlock d p k number (Err f) = ⊥

-- the number of the rule by which block k of piece p was requested
abbrev pub SaysRule : DeskState → ℕ → ℕ → Result ℕ Fault → Type 0
SaysRule d p k o = SaysOfBlock d p k (λ b. rule_number (rule_of d.setting d.history b)) o

-- of how many peers block k of piece p is requested that aren't late with it
abbrev pub SaysAskers : DeskState → ℕ → ℕ → Result ℕ Fault → Type 0
SaysAskers d p k o = SaysOfBlock d p k (asker_count d.setting d.history) o

-- whether worker w's peer shows a wanted piece that isn't had
abbrev pub SaysInteresting : DeskState → ℕ → Result ℕ Fault → Type 0
SaysInteresting d w (Ok x) = IsWorker d w × (x ≡ flag (interesting d.setting d.history w))
SaysInteresting d w (Err Worker) = IsWorker d w → ⊥
SaysInteresting d w (Err f) = ⊥

-- how many blocks are asked of worker w's peer, which are no more than the greatest depth that it had since nothing was asked of it
abbrev pub CountsOutstanding : DeskState → ℕ → Result ℕ Fault → Type 0
CountsOutstanding d w (Ok x) = IsWorker d w × (x ≡ count_of_peer d w) × (x ≤ depth_so_far d.setting d.history w)
CountsOutstanding d w (Err Worker) = IsWorker d w → ⊥
CountsOutstanding d w (Err f) = ⊥

-- the block at a place among those that are asked of worker w's peer, the oldest request first
abbrev pub IsOutstanding : DeskState → ℕ → ℕ → Result Block Fault → Type 0
IsOutstanding d w place (Ok block) = IsWorker d w × (place < count_of_peer d w)
    × ((other : Block) → block ≡ slice_index_or (outstanding d.history w) place other)
IsOutstanding d w place (Err Worker) = IsWorker d w → ⊥
IsOutstanding d w place (Err Place) = IsWorker d w × ((place < count_of_peer d w) → ⊥)
IsOutstanding d w place (Err f) = ⊥

-- the length of piece p's content, where that is had
abbrev pub SaysOfContent : DeskState → ℕ → Result ℕ Fault → Type 0
SaysOfContent d p (Ok n) = IsPiece d p × (had d.history p ≡ true) × (n ≡ length (content d.setting d.history p))
SaysOfContent d p (Err Piece) = IsPiece d p → ⊥
SaysOfContent d p (Err Incomplete) = IsPiece d p × (had d.history p ≡ false)
SaysOfContent d p (Err f) = ⊥

-- the room gets the content of piece p where that is had, and has its length; else nothing is written
abbrev pub ReadsFrom : DeskState → ℕ → List ℕ → List ℕ → Done → Type 0
ReadsFrom d p old new (Ok u) = IsPiece d p × (had d.history p ≡ true) × (new ≡ content d.setting d.history p)
ReadsFrom d p old new (Err Piece) = (IsPiece d p → ⊥) × (new ≡ old)
ReadsFrom d p old new (Err Incomplete) = IsPiece d p × (had d.history p ≡ false) × (new ≡ old)
ReadsFrom d p old new (Err Room) = IsPiece d p × (had d.history p ≡ true)
    × ((length old ≡ length (content d.setting d.history p)) → ⊥) × (new ≡ old)
ReadsFrom d p old new (Err f) = ⊥

-- the same of a picker that keeps a journal; another one has nothing to read
abbrev pub Reads : Held → ℕ → List ℕ → List ℕ → Done → Type 0
Reads h p old new (Err Keeps) = (keeping h ≢ Journal) × (new ≡ old)
Reads h p old new o = (keeping h ≡ Journal) × ReadsFrom (state h) p old new o

-- each entry of the journal is allowed after those before it
abbrev pub AuditsBy : DeskState → Done → Type 0
AuditsBy d (Ok u) = IsLegal d.setting d.history
AuditsBy d (Err NoMemory) = Unit {0}
AuditsBy d (Err f) = ⊥

-- the same of a picker that keeps a journal; another one has none
abbrev pub Audits : Held → Done → Type 0
Audits h (Err Keeps) = keeping h ≢ Journal
Audits h o = (keeping h ≡ Journal) × AuditsBy (state h) o
