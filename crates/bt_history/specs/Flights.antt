-- What an entry that tells of a request in flight changes: one block is asked of one peer. All else is as it was.
use Rattle.std.specs.Prelude.{◌≡◌, ◌∷◌, ◌++◌, ◌==◌, ◌&&◌, ◌||◌, [], ℕ, if◌then◌else◌}
use Rattle.bt_meta.specs.declared.block.Block.{Block}
use Rattle.bt_history.specs.declared.event.Event.{Event}
use Rattle.bt_history.specs.History.{History, same_begin}
use Rattle.bt_history.specs.Peers.{alone, asked, due, dues, is_open, joined, late, outstanding, overdue, reach, shows, told_depth}
use Rattle.bt_history.specs.Pieces.{had, kept, level, order_from, sender}

-- entry e counts a request of block a, and this is what it makes of each peer q, each block b and its piece
pub record CountsOne (e : Event) (a : Block) (h : History) (q : ℕ) (b : Block) : Type 0 where
  -- the block is asked of the entry's own peer, as the last one of its line
  pub requests : asked (e ∷ h) q b ≡ (asked h q b || ((e.worker == q) && same_begin a b))
  pub line : outstanding (e ∷ h) q ≡ outstanding h q ++ (if e.worker == q then a ∷ [] else [])
  -- what is late stays, and so do the cancels that are due
  pub late_requests : overdue (e ∷ h) q b ≡ overdue h q b
  pub cancels : due (e ∷ h) q b ≡ due h q b
  -- who is connected, what each shows, and what was told of each
  pub members : joined (e ∷ h) q ≡ joined h q
  pub pieces_shown : shows (e ∷ h) q b.piece ≡ shows h q b.piece
  pub told : late (e ∷ h) q ≡ late h q
  pub opened : is_open (e ∷ h) q ≡ is_open h q
  pub depth : told_depth (e ∷ h) q ≡ told_depth h q
  pub highest : reach (e ∷ h) q ≡ reach h q
  pub apart : alone (e ∷ h) q ≡ alone h q
  -- what is held and had, and who sent it
  pub bytes : kept (e ∷ h) b ≡ kept h b
  pub brought : sender (e ∷ h) b ≡ sender h b
  pub complete : had (e ∷ h) b.piece ≡ had h b.piece
  -- the level of the piece, and which levels come in order
  pub levels : level (e ∷ h) b.piece ≡ level h b.piece
  pub order : order_from (e ∷ h) ≡ order_from h
