-- What a history is judged by, and tests over the blocks of its torrent.
use Rattle.std.specs.Prelude.{ℕ, ◌≤◌, Bool, false, ◌&&◌, ◌==◌, nat_lt, min, max}
use Rattle.bt_meta.specs.declared.block.Block.{Block}
use Rattle.bt_meta.specs.Layout.{Layout, piece_count, block_count, block}
use Rattle.bt_history.specs.declared.rules.Rules.{Rules}
use Rattle.bt_history.specs.declared.rules.TheConstants.{MOST_DEPTH, MOST_TOLD_DEPTH, MOST_WORKERS}
use Rattle.bt_history.specs.Counting.{any_below, all_below, count_below, sum_below}

-- the torrent, how many workers there are, how many blocks may be asked of one peer, how many pieces are picked at random before the
-- rarest come first, of how many peers one block may be asked in endgame, which depth may be told of a peer at most, how many pieces may be
-- open before begun ones come first, of how few blocks a peer is asked that may be asked for one again, and whether endgame waits for pieces
-- alone that a joined peer shows
pub record Setting : Type 0 where
  pub torrent : Layout
  pub workers : ℕ
  pub depth : ℕ
  pub random : ℕ
  pub askers : ℕ
  pub deepest : ℕ
  pub most_open : ℕ
  pub rush : ℕ
  pub shown : Bool

-- the torrent with so many workers, by these rules
abbrev pub setting_of : Layout → ℕ → Rules → Setting
setting_of t n rules = record {
  torrent = t;
  workers = n;
  depth = rules.depth;
  random = rules.random;
  askers = rules.askers;
  deepest = rules.deepest;
  most_open = rules.«open»;
  rush = rules.rush;
  shown = rules.shown;
}

-- the greatest depth that may be told of a peer
abbrev pub deepest_told : Setting → ℕ
deepest_told s = min s.deepest MOST_TOLD_DEPTH

-- so many blocks at most are asked of one peer, whatever is told
abbrev pub deepest_line : Setting → ℕ
deepest_line s = max s.depth (deepest_told s)

-- the usual rules: five blocks in a peer's pipe, the first piece at random, begun pieces first; endgame waits for all wanted pieces, and asks
-- any number of peers for a block, and a peer for any number of blocks
abbrev pub usual_rules : Rules
usual_rules = record {
  depth = 5;
  random = 1;
  askers = MOST_WORKERS;
  deepest = MOST_DEPTH;
  «open» = 0;
  rush = MOST_TOLD_DEPTH;
  shown = false;
}

-- a picker of this torrent may go by these rules
pub record AreRules (t : Layout) (rules : Rules) : Type 0 where
  -- one block or more may be asked of a peer
  pub shallow : 1 ≤ rules.depth
  -- and no more than a picker takes
  pub deep : rules.depth ≤ MOST_DEPTH
  -- there are as many pieces as are picked at random
  pub random : rules.random ≤ piece_count t

-- some block of piece p passes the test
abbrev pub some_block_of : Layout → ℕ → (Block → Bool) → Bool
some_block_of t p test = any_below (block_count t p) (λ k. test (block t p k))

-- each block of piece p passes the test
abbrev pub each_block_of : Layout → ℕ → (Block → Bool) → Bool
each_block_of t p test = all_below (block_count t p) (λ k. test (block t p k))

-- some block of the torrent passes the test
abbrev pub some_block : Layout → (Block → Bool) → Bool
some_block t test = any_below (piece_count t) (λ p. some_block_of t p test)

-- each block of the torrent passes the test
abbrev pub each_block : Layout → (Block → Bool) → Bool
each_block t test = all_below (piece_count t) (λ p. each_block_of t p test)

-- how many blocks of the torrent pass the test
abbrev pub count_blocks : Layout → (Block → Bool) → ℕ
count_blocks t test = sum_below (piece_count t) (λ p. count_below (block_count t p) (λ k. test (block t p k)))

-- b is a block of the torrent
abbrev pub is_block : Layout → Block → Bool
is_block t b =
    nat_lt b.piece (piece_count t) && some_block_of t b.piece (λ c. (c.begin == b.begin) && (c.len == b.len))
