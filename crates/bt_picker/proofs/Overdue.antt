-- A peer's line of what it is late with has just the blocks with which it is.
use Rattle.std.proofs.Common.{◌≡◌, ℕ, ◌==◌, Bool, true, false, not, ◌&&◌, ◌||◌, List, [], ◌∷◌, Option, Some, length, refl, ap, sym, ◌∙◌, ⊎_elim}
use Rattle.std.specs.Prelude.{if◌then◌else◌, nat_lt}
use Rattle.std.specs.List.{filter, list_any}
use Rattle.std.proofs.lemmas.Bool.{cases_eq, eq-eqb, false≢true, ne_eqb}
use Rattle.std.proofs.lemmas.Map.Views.{any-filter_same}
use Rattle.bt_meta.specs.declared.block.Block.{Block}
use Rattle.bt_history.specs.declared.event.Action.{Action}
use Rattle.bt_history.specs.declared.event.Action.TheVariants.{Late}
use Rattle.bt_meta.specs.Layout.{block, block_count}
use Rattle.bt_history.specs.Counting.{any_below}
use Rattle.bt_history.specs.Setting.{Setting, each_block_of}
use Rattle.bt_history.specs.History.{History, own_call, same_begin}
use Rattle.bt_history.specs.Legal.{place_at}
use Rattle.bt_history.specs.Pieces.{held_or_asked, is_late_at_some, is_spent}
use Rattle.bt_history.proofs.Below.{any_none, any_same}
use Rattle.bt_history.specs.Peers.{asked, delays, expected, has_place, lasts, outstanding, overdue, resets}
use Rattle.bt_history.proofs.Delays.{overdue_asked}
use Rattle.bt_history.proofs.Lines.{asked_outstanding, lasts_at, place_resized}
use Rattle.bt_history.proofs.SameBegin.{same_but_len}
use Rattle.bt_tables.specs.Tables.{PeerState, TablesState, fresh_peer, is_late_at, peer_row, prompt_line}
use Rattle.bt_tables.proofs.Flagged.{no_length}
use Rattle.bt_tables.proofs.Tabled.{get_or_is_table}
use Rattle.bt_picker.specs.Tables.{AreTables, late_then, overdue_line, peer_of}

-- the row's peer is asked for block b, and isn't late with it
abbrev pub expects_row : Block → PeerState → Bool
expects_row b row = has_place b row.asked && not (has_place b row.overdue)

-- the line without what the peer is late with has the blocks that are expected from it
pub place_prompt : (b : Block) (row : PeerState) → has_place b (prompt_line row) ≡ expects_row b row
place_prompt b row =
    any-filter_same (λ (a : Block). same_begin a b) (λ a. not (has_place a row.overdue)) (not (has_place b row.overdue))
    (λ a same. ap not (sym (place_resized row.overdue a b same))) row.asked
    ∙ turned (not (has_place b row.overdue)) (has_place b row.asked)
  where
    turned : (x y : Bool) → (x && y) ≡ (y && x)
    turned true true = refl
    turned true false = refl
    turned false true = refl
    turned false false = refl

-- a call adds to what the peer is late with just the block that it tells of
delayed_place : (h : History) (q : ℕ) (call : Option Action) (b : Block) → overdue h q b ≡ has_place b (overdue_line h q)
    → has_place b (late_then call (outstanding h q) (overdue_line h q)) ≡ ((delays call b && asked h q b) || overdue h q b)
delayed_place h q (Some (Late p begin)) b listed =
    any-filter_same (λ (a : Block). same_begin a b) (λ a. ((p == a.piece) && (begin == a.begin)) || has_place a (overdue_line h q))
    (((p == b.piece) && (begin == b.begin)) || has_place b (overdue_line h q))
    (λ a same. λ i. (ap (λ (c : Block). (p == c.piece) && (begin == c.begin)) (sym (same_but_len a b same)) i)
    || sym (place_resized (overdue_line h q) a b same) i) (outstanding h q)
    ∙ ((λ i. (((p == b.piece) && (begin == b.begin)) || sym listed i) && sym (asked_outstanding h q b) i)
    ∙ by_parts ((p == b.piece) && (begin == b.begin)) (overdue h q b) (asked h q b) (overdue_asked h q b))
  where
    by_parts : (at was asks : Bool) → (was ≡ true → asks ≡ true) → ((at || was) && asks) ≡ ((at && asks) || was)
    by_parts true true true implies = refl
    by_parts true true false implies = absurd (false≢true (implies refl))
    by_parts true false true implies = refl
    by_parts true false false implies = refl
    by_parts false true true implies = refl
    by_parts false true false implies = absurd (false≢true (implies refl))
    by_parts false false asks implies = refl
delayed_place h q call b listed = sym listed

pub overdue_listed : (h : History) (q : ℕ) (b : Block) → overdue h q b ≡ has_place b (overdue_line h q)
unfolding overdue overdue_line
overdue_listed [] q b = refl
overdue_listed (e ∷ h) q b =
    let after = late_then (own_call q e) (outstanding h q) (overdue_line h q) in
    let kept : has_place b (filter (lasts q e) after) ≡ (lasts q e b && ((delays (own_call q e) b && asked h q b) || overdue h q b)) =
    any-filter_same (λ (a : Block). same_begin a b) (lasts q e) (lasts q e b) (λ a same. lasts_at q e a b same) after
    ∙ ap (λ (x : Bool). lasts q e b && x) (delayed_place h q (own_call q e) b (overdue_listed h q b)) in
    sym (either (resets (own_call q e)) (filter (lasts q e) after) ∙ ap (λ (x : Bool). not (resets (own_call q e)) && x) kept)
  where
    either : (resetting : Bool) (bs : List Block) → has_place b (if resetting then [] else bs) ≡ (not resetting && has_place b bs)
    either true bs = refl
    either false bs = refl

-- a block is expected of a peer just where its lines say so
pub expected_listed : (h : History) (q : ℕ) (b : Block)
    → expected h q b ≡ (has_place b (outstanding h q) && not (has_place b (overdue_line h q)))
expected_listed h q b = λ i. asked_outstanding h q b i && not (overdue_listed h q b i)

-- where the line is empty the peer is late with nothing
pub none_overdue : (h : History) (q : ℕ) (b : Block) → overdue_line h q ≡ [] → overdue h q b ≡ false
none_overdue h q b none = overdue_listed h q b ∙ ap (has_place b) none

-- ---- by the tests of the tables

-- whether a line has a place by the two tests for it
pub place_here : (p begin : ℕ) (bs : List Block) → list_any (λ b. (p == b.piece) && (begin == b.begin)) bs ≡ has_place (place_at p begin) bs
place_here p begin [] = refl
place_here p begin (b ∷ bs) = λ i. same_test b i || place_here p begin bs i where
  same_test : (a : Block) → ((p == a.piece) && (begin == a.begin)) ≡ ((a.piece == p) && (a.begin == begin))
  same_test a = λ i. turned p a.piece i && turned begin a.begin i where
    turned : (m n : ℕ) → (m == n) ≡ (n == m)
    turned m n = ⊎_elim (λ (same : m ≡ n). eq-eqb m n same ∙ sym (eq-eqb n m (sym same)))
        (λ (apart : m ≡ n → ⊥). ne_eqb m n apart ∙ sym (ne_eqb n m (λ e. apart (sym e)))) (cases_eq m n)

-- whether a peer is late with a block, and whether it is expected to bring it
pub overdue_there : (h : History) (q : ℕ) (b : Block)
    → list_any (λ a. (b.piece == a.piece) && (b.begin == a.begin)) (overdue_line h q) ≡ overdue h q b
overdue_there h q b = place_here b.piece b.begin (overdue_line h q) ∙ sym (overdue_listed h q b)

pub expected_there : (h : History) (q : ℕ) (b : Block)
    → (list_any (λ a. (b.piece == a.piece) && (b.begin == a.begin)) (outstanding h q)
    && not (list_any (λ a. (b.piece == a.piece) && (b.begin == a.begin)) (overdue_line h q))) ≡ expected h q b
expected_there h q b = λ i. (place_here b.piece b.begin (outstanding h q) ∙ sym (asked_outstanding h q b)) i && not (overdue_there h q b i)

-- whether some peer is late with a block
pub overdue_somewhere : (t : TablesState) (h : History) (b : Block) → AreTables t h
    → any_below (length t.peers) (λ q. is_late_at b.piece b.begin (peer_row t.peers q)) ≡ is_late_at_some t.setting h b
overdue_somewhere t h b are =
    ap (λ (n : ℕ). any_below n (λ q. is_late_at b.piece b.begin (peer_row t.peers q))) are.peers_len
    ∙ any_same t.setting.workers (λ q. is_late_at b.piece b.begin (peer_row t.peers q)) (λ q. overdue h q b) (λ q lq.
    ap (is_late_at b.piece b.begin) (get_or_is_table t.peers t.setting.workers (peer_of t.setting h) q (fresh_peer 0 0) are.peers_are lq)
    ∙ overdue_there h q b)

-- a peer whose line of late blocks is empty is late with none
pub late_with_nothing : (h : History) (q : ℕ) (b : Block) → nat_lt 0 (length (overdue_line h q)) ≡ false → overdue h q b ≡ false
late_with_nothing h q b none = none_overdue h q b (no_length (overdue_line h q) none)

-- so it has spent no piece
pub spent_with_nothing : (s : Setting) (h : History) (q p : ℕ) → ((b : Block) → overdue h q b ≡ false) → is_spent s h q p ≡ false
spent_with_nothing s h q p prompt =
    ap (λ (x : Bool). x && each_block_of s.torrent p (λ b. held_or_asked s h b || overdue h q b))
    (any_none (block_count s.torrent p) (λ k. overdue h q (block s.torrent p k)) (λ k lk. prompt (block s.torrent p k)))
