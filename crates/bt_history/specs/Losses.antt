-- What an entry that frees blocks with no check leaves as it was: all that is known of the peers, the levels and the order.
use Rattle.std.specs.Prelude.{◌≡◌, ◌∷◌, ℕ}
use Rattle.bt_meta.specs.declared.block.Block.{Block}
use Rattle.bt_history.specs.declared.event.Event.{Event}
use Rattle.bt_history.specs.History.{History}
use Rattle.bt_history.specs.Peers.{alone, asked, due, dues, is_open, joined, late, outstanding, overdue, reach, shows, told_depth}
use Rattle.bt_history.specs.Pieces.{level, order_from}

-- of each peer q, each block b and its piece
pub record LeavesPeers (e : Event) (h : History) (q : ℕ) (b : Block) : Type 0 where
  -- who is connected, what each shows, and whether a bitfield comes too late
  pub members : joined (e ∷ h) q ≡ joined h q
  pub pieces_shown : shows (e ∷ h) q b.piece ≡ shows h q b.piece
  pub told : late (e ∷ h) q ≡ late h q
  -- who lets itself be asked, how many blocks at a time, up to which level, and who works alone
  pub opened : is_open (e ∷ h) q ≡ is_open h q
  pub depth : told_depth (e ∷ h) q ≡ told_depth h q
  pub highest : reach (e ∷ h) q ≡ reach h q
  pub apart : alone (e ∷ h) q ≡ alone h q
  -- what is asked, in its order, what is late, and which cancels are due, in their order
  pub requests : asked (e ∷ h) q b ≡ asked h q b
  pub line : outstanding (e ∷ h) q ≡ outstanding h q
  pub late_requests : overdue (e ∷ h) q b ≡ overdue h q b
  pub cancels : due (e ∷ h) q b ≡ due h q b
  pub cancel_line : dues (e ∷ h) q ≡ dues h q
  -- the level of the piece, and which levels come in order
  pub levels : level (e ∷ h) b.piece ≡ level h b.piece
  pub order : order_from (e ∷ h) ≡ order_from h
