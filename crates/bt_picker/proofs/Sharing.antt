-- What the tables tell of pieces that belong to a peer.
use Rattle.std.proofs.Common.{◌≡◌, ℕ, ◌<◌, ◌==◌, ◌||◌, Bool, true, false, not, Option, ap, arith, length, sym, ◌∙◌}
use Rattle.std.specs.Prelude.{if◌then◌else◌, is_some}
use Rattle.bt_meta.specs.declared.block.Block.{Block}
use Rattle.bt_meta.specs.Layout.{block, block_count}
use Rattle.bt_history.specs.Counting.{all_below}
use Rattle.bt_history.specs.History.{History}
use Rattle.bt_history.specs.Peers.{alone, expected}
use Rattle.bt_history.specs.Pieces.{belongs, is_of, is_own, is_peer, is_sole, sender}
use Rattle.bt_history.specs.Setting.{Setting}
use Rattle.bt_history.proofs.Below.{all_fails, all_found, any_none}
use Rattle.bt_tables.specs.Tables.{PeerState, TablesState, fresh_peer, peer_row}
use Rattle.bt_tables.proofs.Tabled.{get_or_is_table}
use Rattle.bt_picker.specs.Tables.{AreTables, peer_of}
use Rattle.bt_history.proofs.Sending.{sender_held}

-- whose a block is, by who brought it
pub of_sender : (s : Setting) (h : History) (q : ℕ) (b : Block) (o : Option ℕ) → sender h b ≡ o
    → is_of s h q b ≡ (if is_some o then is_peer o q else all_below s.workers (λ w. not (expected h w b) || (w == q)))
of_sender s h q b o is =
    ap (λ (x : Bool). if x then is_peer (sender h b) q else all_below s.workers (λ w. not (expected h w b) || (w == q)))
    (sym (sender_held h b) ∙ ap is_some is)
    ∙ ap (λ (p : Option ℕ). if is_some o then is_peer p q else all_below s.workers (λ w. not (expected h w b) || (w == q))) is

-- a piece each of whose blocks is of the peer
pub all_of : (s : Setting) (h : History) (q p : ℕ) → ((k : ℕ) → k < block_count s.torrent p → is_of s h q (block s.torrent p k) ≡ true)
    → is_sole s h q p ≡ true
all_of s h q p each = all_found (block_count s.torrent p) (λ k. is_of s h q (block s.torrent p k)) each

-- and one of which a block isn't
pub not_all_of : (s : Setting) (h : History) (q p k : ℕ) → k < block_count s.torrent p → is_of s h q (block s.torrent p k) ≡ false
    → is_sole s h q p ≡ false
not_all_of s h q p k lk isnt = all_fails (block_count s.torrent p) (λ j. is_of s h q (block s.torrent p j)) k lk isnt

-- a piece that is nobody's own belongs to nobody
pub of_nobody : (s : Setting) (h : History) (p : ℕ) → ((q : ℕ) → q < s.workers → is_own s h q p ≡ false) → belongs s h p ≡ false
of_nobody s h p none = any_none s.workers (λ q. is_own s h q p) none

-- where no row is of a peer that works alone no peer does
pub none_works_alone : (t : TablesState) (h : History) → AreTables t h → ((w : ℕ) → w < length t.peers → (peer_row t.peers w).alone ≡ false)
    → (q : ℕ) → q < t.setting.workers → alone h q ≡ false
none_works_alone t h are none q lq =
    let row = get_or_is_table t.peers t.setting.workers (peer_of t.setting h) q (fresh_peer 0 0) are.peers_are lq in
    sym (ap (λ (r : PeerState). r.alone) row) ∙ none q (omega (arith, lq, are.peers_len))
