-- What holds after every legal history, as one record: for callers that have a picker and no journal.
use Rattle.std.specs.Prelude.{◌≡◌, ◌≢◌, ◌∷◌, ℕ, ◌+◌, ◌<◌, ◌≤◌, IsTrue, false, is_some}
use Rattle.sha1.specs.Sha1.{sha1}
use Rattle.bt_meta.specs.declared.block.Block.{Block}
use Rattle.bt_meta.specs.Layout.{hash_of}
use Rattle.bt_history.specs.declared.call.Reply.TheVariants.{InFlight, Request}
use Rattle.bt_history.specs.declared.event.Event.{Event}
use Rattle.bt_history.specs.declared.rules.TheConstants.{MOST_LEVEL}
use Rattle.bt_history.specs.Setting.{Setting, deepest_line, is_block}
use Rattle.bt_history.specs.History.{History}
use Rattle.bt_history.specs.Peers.{alone, asked, asked_count, depth_so_far, due_count, expected, ListsAsked, reach}
use Rattle.bt_history.specs.Pieces.{asker_count, availability, begun, content, full, had, held, level, open_count, sender, unasked, unbegun}
use Rattle.bt_history.specs.Pieces.{awaited, comes_in_order, is_own, is_sole}
use Rattle.bt_history.specs.Next.{is_strict, may_count, usable}
use Rattle.bt_history.specs.PickRules.{IsBy, rule_of}
use Rattle.bt_history.specs.Legal.{IsAllowed}

-- the laws, each for all pieces, blocks and peers; e is an entry that may come next
pub record Assures (s : Setting) (h : History) : Type 0 where
  -- a complete piece is full, and its bytes have the hash that the metainfo gives
  pub hashed : (p : ℕ) → IsTrue (had h p) → IsTrue (full s h p) × (sha1 (content s h p) ≡ hash_of s.torrent p)
  -- nobody is asked for a held block
  pub spared : (q : ℕ) (b : Block) → IsTrue (held h b) → asked h q b ≡ false
  -- a held block has a sender, and no other block has
  pub sent : (b : Block) → is_some (sender h b) ≡ held h b
  -- a block that another peer is asked for, and isn't late with, is requested only where no awaited block is unasked
  pub second : (e : Event) (b : Block) (q : ℕ) → IsAllowed s h e → e.reply ≡ Request b → IsTrue (expected h q b)
      → (c : Block) → IsTrue (is_block s.torrent c) → IsTrue (awaited s h c.piece) → unasked s h c ≡ false
  -- and only of a peer that is asked for few
  pub rushed : (e : Event) (b : Block) (q : ℕ) → IsAllowed s h e → e.reply ≡ Request b → IsTrue (expected h q b) → asked_count s h e.worker < s.rush
  -- no block is requested while one of a higher level could be
  pub higher : (e : Event) (b : Block) → IsAllowed s h e → e.reply ≡ Request b
      → (c : Block) → IsTrue (is_block s.torrent c) → IsTrue (usable s h e.worker c) → level h c.piece ≤ level h b.piece
  -- no block is requested of a peer beyond its reach
  pub reached : (e : Event) (b : Block) → IsAllowed s h e → e.reply ≡ Request b → level h b.piece ≤ reach h e.worker
  -- a peer that works alone is the first to be asked for a block only of a piece that nobody else has to do with
  pub apart : (e : Event) (b : Block) → IsAllowed s h e → e.reply ≡ Request b → IsTrue (alone h e.worker) → IsTrue (unasked s h b)
      → IsTrue (is_sole s h e.worker b.piece)
  -- and nobody is the first to be asked for a block of a piece that is another peer's own
  pub owned : (e : Event) (b : Block) (q : ℕ) → IsAllowed s h e → e.reply ≡ Request b → q < s.workers → q ≢ e.worker
      → IsTrue (is_own s h q b.piece) → unasked s h b ≡ false
  -- a request tells the rule that it is by
  pub ruled : (e : Event) (b : Block) → IsAllowed s h e → e.reply ≡ Request b → IsBy s h e.worker b (rule_of s (e ∷ h) b)
  -- where more pieces are open than may be, none begins while a begun one of its level could go on
  pub opened : (e : Event) (b : Block) → IsAllowed s h e → e.reply ≡ Request b → comes_in_order h b.piece ≡ false → IsTrue (unbegun s h b.piece)
      → s.most_open < open_count s h
      → (c : Block) → IsTrue (is_block s.torrent c) → IsTrue (usable s h e.worker c) → level h c.piece ≡ level h b.piece → begun s h c.piece ≡ false
  -- where no more are, and enough are had, no request is of a piece that more peers show than another one of its level
  pub rarest : (e : Event) (b : Block) → IsAllowed s h e → e.reply ≡ Request b → comes_in_order h b.piece ≡ false → 0 < s.most_open → is_strict s h ≡ false
      → (c : Block) → IsTrue (is_block s.torrent c) → IsTrue (usable s h e.worker c) → level h c.piece ≡ level h b.piece
      → availability s h b.piece ≤ availability s h c.piece
  -- a request in flight counts only where its block is of use to the peer that it was sent to, which has room for it
  pub counted : (e : Event) (b : Block) → IsAllowed s h e → e.reply ≡ InFlight b → IsTrue (may_count s h e.worker b)
  -- the line of a peer lists exactly the blocks that are asked of it
  pub listed : (q : ℕ) → ListsAsked s h q
  -- what is asked of a peer and what is to be cancelled there are no more than its greatest depth so far
  pub few : (q : ℕ) → asked_count s h q + due_count s h q ≤ depth_so_far s h q
  -- and no depth is beyond what the rules let be told
  pub bounded : (q : ℕ) → depth_so_far s h q ≤ deepest_line s
  -- a block is asked of no more peers than the rules say, those aside that are late with it
  pub askers : (b : Block) → 1 ≤ s.askers → asker_count s h b ≤ s.askers
  -- no level is above the highest
  pub levels : (p : ℕ) → level h p ≤ MOST_LEVEL
