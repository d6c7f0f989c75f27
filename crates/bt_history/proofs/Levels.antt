-- What holds of the levels of pieces, and of pieces in order.
use Rattle.std.proofs.Common.{◌≡◌, ◌⊎◌, ℕ, zero, suc, ◌==◌, ◌≤◌, Bool, true, false, not, ◌||◌, List, [], ◌∷◌, Option, None, Some, refl, ap}
use Rattle.std.proofs.Common.{sym, ◌∙◌, arith, ⊎_elim, inl, inr, subst}
use Rattle.std.specs.Prelude.{if◌then◌else◌, nat_lt, nat_le, slice_index_or, unwrap_or}
use Rattle.std.specs.List.{list_any}
use Rattle.std.proofs.lemmas.Bool.{and_parts, and_from, or_parts, ltb-false, leb-true, false≢true, false_from_ne_true}
use Rattle.bt_meta.specs.declared.block.Block.{Block}
use Rattle.bt_meta.specs.Layout.{piece_count, block_count, block}
use Rattle.bt_history.specs.declared.call.Reason.{Reason}
use Rattle.bt_history.specs.declared.call.Reply.{Reply}
use Rattle.bt_history.specs.declared.call.Reply.TheVariants.{Request, Refused}
use Rattle.bt_history.specs.declared.event.Action.{Action}
use Rattle.bt_history.specs.declared.event.Action.TheVariants.{Want, Level, Levels}
use Rattle.bt_history.specs.declared.event.Event.{Event}
use Rattle.bt_history.specs.declared.rules.TheConstants.{MOST_LEVEL}
use Rattle.bt_history.specs.Setting.{Setting, some_block, some_block_of, each_block, each_block_of, is_block}
use Rattle.bt_history.specs.History.{History, counts, counted_call}
use Rattle.bt_history.specs.Peers.{flag}
use Rattle.bt_history.specs.Pieces.{comes_in_order, level, level_after, level_if, order_from}
use Rattle.bt_history.specs.Next.{Answer, usable, tops, tops_in_order, continues, starts, rises, next_answer}
use Rattle.bt_history.specs.Legal.{IsLegal, IsAllowed, Permits, refusal, causes}
use Rattle.bt_history.proofs.Below.{all_at, any_witness}
use Rattle.bt_history.proofs.LineLaws.{block_index, block_is_block, some_found}
use Rattle.bt_history.proofs.NextCases.{next_is, next_request}
use Rattle.bt_history.proofs.Allowed.{no_cause, request_next, none_holds}

-- ---- no level is beyond the highest

-- the call of an entry that counts wasn't refused
counted_unrefused : (s : Setting) (h : History) (e : Event) (a : Action) → IsAllowed s h e → counted_call e ≡ Some a → refusal s h e.worker a ≡ None
counted_unrefused s h e a allowed is =
    ap (refusal s h e.worker) (sym (same (counts e.reply) is)) ∙ no_cause s h e (λ reason refused. unrefused reason refused) allowed
  where
    same : (x : Bool) → (if x then Some e.action else None) ≡ Some a → e.action ≡ a
    same true is = ap (λ (o : Option Action). unwrap_or o a) is
    same false is = absurd (cc is)

    unrefused : (reason : Reason) → e.reply ≡ Refused reason → ⊥
    unrefused reason refused = none (sym (ap (λ (r : Reply). if counts r then Some e.action else None) refused) ∙ is) where
      none : None ≡ Some a → ⊥
      none same = cc same

-- each of these levels is one that there is
none_beyond : (levels : List ℕ) (p : ℕ) → list_any (λ n. nat_lt MOST_LEVEL n) levels ≡ false → slice_index_or levels p 0 ≤ MOST_LEVEL
none_beyond [] p none = omega arith
none_beyond (n ∷ levels) zero none = ltb-false MOST_LEVEL n (or_parts (nat_lt MOST_LEVEL n) _ none).0
none_beyond (n ∷ levels) (suc p) none = none_beyond levels p (or_parts (nat_lt MOST_LEVEL n) _ none).1

told_alone : (s : Setting) (h : History) (w p n : ℕ) → refusal s h w (Level p n) ≡ None → n ≤ MOST_LEVEL
told_alone s h w p n none = ltb-false MOST_LEVEL n (none_holds (causes s h w (Level p n)) none).1.0

told_all : (s : Setting) (h : History) (w : ℕ) (levels : List ℕ) (p : ℕ) → refusal s h w (Levels levels) ≡ None
    → slice_index_or levels p 0 ≤ MOST_LEVEL
told_all s h w levels p none = none_beyond levels p (none_holds (causes s h w (Levels levels)) none).1.0

usual_bounded : (chosen : Bool) → level_if chosen ≤ MOST_LEVEL
usual_bounded true = omega arith
usual_bounded false = omega arith

pub level_bounded : (s : Setting) (h : History) (p : ℕ) → IsLegal s h → level h p ≤ MOST_LEVEL
unfolding level
level_bounded s [] p legal = omega arith
level_bounded s (e ∷ h) p legal = by_call (counted_call e) refl (level_bounded s h p legal.0) where
  by_call : (call : Option Action) → counted_call e ≡ call → level h p ≤ MOST_LEVEL → level_after call p (level h p) ≤ MOST_LEVEL
  by_call None is before = before
  by_call (Some (Want flags)) is before = usual_bounded (flag flags p)
  by_call (Some (Levels levels)) is before = told_all s h e.worker levels p (counted_unrefused s h e (Levels levels) legal.1 is)
  by_call (Some (Level piece n)) is before =
      by_piece (piece == p) (told_alone s h e.worker piece n (counted_unrefused s h e (Level piece n) legal.1 is)) where
        by_piece : (x : Bool) → n ≤ MOST_LEVEL → (if x then n else level h p) ≤ MOST_LEVEL
        by_piece true told = told
        by_piece false told = before
  by_call (Some call) is before = before

-- ---- what is asked for first

-- a test that all blocks pass, at one of them
pub each_at : (s : Setting) (test : Block → Bool) (b : Block) → each_block s.torrent test ≡ true → is_block s.torrent b ≡ true → test b ≡ true
each_at s test b all inside =
    let at = block_index s.torrent b inside in
    ap test at.is ∙ all_at (block_count s.torrent b.piece) (λ k. test (block s.torrent b.piece k)) at.index
    (all_at (piece_count s.torrent) (λ p. each_block_of s.torrent p test) b.piece all at.piece) at.within

-- where a test implies another, and it is passed, so is that
pub implied : (x y : Bool) → (not x || y) ≡ true → x ≡ true → y ≡ true
implied true y either is = either
implied false y either is = absurd (cc is)

module _ (s : Setting) (h : History) (q : ℕ) where
  -- no usable block is above one that tops
  pub top_above : (b c : Block) → tops s h q b ≡ true → is_block s.torrent c ≡ true → usable s h q c ≡ true → level h c.piece ≤ level h b.piece
  top_above b c top inside fits =
      let test : Block → Bool = λ d. not (usable s h q d) || nat_le (level h d.piece) (level h b.piece) in
      let all = (and_parts (usable s h q b) (each_block s.torrent test) top).1 in
      leb-true (level h c.piece) (level h b.piece) (implied (usable s h q c) _ (each_at s test c all inside) fits)

  -- what is asked for tops, or no block is usable
  pub top_asked : (b : Block) → Permits s.torrent (next_answer s h q) (Request b)
      → (tops s h q b ≡ true) ⊎ (some_block s.torrent (usable s h q) ≡ false)
  top_asked b permitted = ⊎_elim
      (λ (up : rises s h q b ≡ true). inl (and_parts (tops s h q b) _ up).0)
      (λ others. ⊎_elim
      (λ (on : continues s h q b ≡ true). inl (and_parts (tops s h q b) _ on).0)
      (λ rest. ⊎_elim
      (λ (first : starts s h q b ≡ true). inl (and_parts (tops s h q b) _ first).0)
      (λ (none : some_block s.torrent (usable s h q) ≡ false). inr none)
      rest)
      others)
      (next_request s.torrent _ _ _ _ _ _ _ _ _ _ _ _ _ b (subst (λ (a : Answer). Permits s.torrent a (Request b)) (next_is s h q) permitted)).usable

  -- what is asked for is a block
  pub block_asked : (b : Block) → Permits s.torrent (next_answer s h q) (Request b) → is_block s.torrent b ≡ true
  block_asked b permitted =
      (next_request s.torrent _ _ _ _ _ _ _ _ _ _ _ _ _ b (subst (λ (a : Answer). Permits s.torrent a (Request b)) (next_is s h q) permitted)).block

  -- what is asked for in order rises
  pub rising_asked : (b : Block) → Permits s.torrent (next_answer s h q) (Request b) → some_block s.torrent (tops_in_order s h q) ≡ true
      → rises s h q b ≡ true
  rising_asked b permitted some =
      (next_request s.torrent _ _ _ _ _ _ _ _ _ _ _ _ _ b (subst (λ (a : Answer). Permits s.torrent a (Request b)) (next_is s h q) permitted)).rising
      some

  -- all blocks that top are of one level
  pub top_level : (b c : Block) → is_block s.torrent b ≡ true → is_block s.torrent c ≡ true → tops s h q b ≡ true → tops s h q c ≡ true
      → level h c.piece ≡ level h b.piece
  top_level b c inside other top too =
      let low = top_above b c top other (and_parts (usable s h q c) _ too).0 in
      let high = top_above c b too inside (and_parts (usable s h q b) _ top).0 in
      omega (arith, low, high)

  -- where what is asked for isn't of a level that comes in order, nothing that tops is
  pub none_in_order : (b : Block) → Permits s.torrent (next_answer s h q) (Request b) → comes_in_order h b.piece ≡ false
      → some_block s.torrent (tops_in_order s h q) ≡ false
  none_in_order b permitted unordered = false_from_ne_true (some_block s.torrent (tops_in_order s h q)) (λ some.
      let piece = any_witness (piece_count s.torrent) (λ p. some_block_of s.torrent p (tops_in_order s h q)) some in
      let at = any_witness (block_count s.torrent piece.0) (λ k. tops_in_order s h q (block s.torrent piece.0 k)) piece.2 in
      let c = block s.torrent piece.0 at.0 in
      let parts = and_parts (tops s h q c) (comes_in_order h c.piece) at.2 in
      let same = top_level b c (block_asked b permitted) (block_is_block s.torrent piece.0 at.0 piece.1 at.1)
      (and_parts (tops s h q b) _ (rising_asked b permitted some)).0 parts.0 in
      false≢true (sym unordered ∙ sym (ap (nat_le (order_from h)) same) ∙ parts.1))

  -- where a block is usable, another of the level of one that tops does too
  pub level_tops : (b c : Block) → tops s h q b ≡ true → usable s h q c ≡ true → level h c.piece ≡ level h b.piece → tops s h q c ≡ true
  level_tops b c top fits same =
      and_from (usable s h q c) _ fits
      (ap (λ (n : ℕ). each_block s.torrent (λ d. not (usable s h q d) || nat_le (level h d.piece) n)) same
      ∙ (and_parts (usable s h q b) (each_block s.torrent (λ d. not (usable s h q d) || nat_le (level h d.piece) (level h b.piece))) top).1)

-- no block is asked for while one of a higher level could be
pub higher_first : (s : Setting) (h : History) (e : Event) (b : Block) → IsAllowed s h e → e.reply ≡ Request b
    → (c : Block) → is_block s.torrent c ≡ true → usable s h e.worker c ≡ true → level h c.piece ≤ level h b.piece
higher_first s h e b allowed is c inside fits = ⊎_elim
    (λ (top : tops s h e.worker b ≡ true). top_above s h e.worker b c top inside fits)
    (λ (none : some_block s.torrent (usable s h e.worker) ≡ false).
    absurd (false≢true (sym none ∙ some_found s.torrent (usable s h e.worker) c inside fits)))
    (top_asked s h e.worker b (request_next s h e b allowed is))

-- in order no block is asked for while one of an earlier piece of its level could be
pub earlier_first : (s : Setting) (h : History) (e : Event) (b : Block) → IsAllowed s h e → e.reply ≡ Request b → comes_in_order h b.piece ≡ true
    → (c : Block) → is_block s.torrent c ≡ true → usable s h e.worker c ≡ true → level h c.piece ≡ level h b.piece → b.piece ≤ c.piece
earlier_first s h e b allowed is ordered c inside fits same =
    let q = e.worker in
    let permitted = request_next s h e b allowed is in
    let top : tops s h q b ≡ true = ⊎_elim
    (λ (top : tops s h q b ≡ true). top)
    (λ (none : some_block s.torrent (usable s h q) ≡ false). absurd (false≢true (sym none ∙ some_found s.torrent (usable s h q) c inside fits)))
    (top_asked s h q b permitted) in
    let up = rising_asked s h q b permitted (some_found s.torrent (tops_in_order s h q) b (block_asked s h q b permitted)
    (and_from (tops s h q b) (comes_in_order h b.piece) top ordered)) in
    let test : Block → Bool = λ d. not (tops s h q d) || nat_le b.piece d.piece in
    let parts = and_parts (tops s h q b) (each_block s.torrent test) up in
    leb-true b.piece c.piece
    (implied (tops s h q c) (nat_le b.piece c.piece) (each_at s test c parts.1 inside) (level_tops s h q b c parts.0 fits same))
