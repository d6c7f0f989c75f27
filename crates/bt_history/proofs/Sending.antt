-- Each held block has one who brought it, and no other block has.
use Rattle.std.proofs.Common.{◌≡◌, ℕ, Bool, true, false, List, [], ◌∷◌, Option, None, Some, refl}
use Rattle.std.specs.Prelude.{if◌then◌else◌, is_some}
use Rattle.bt_meta.specs.declared.block.Block.{Block}
use Rattle.bt_history.specs.History.{History, freed, stored}
use Rattle.bt_history.specs.Pieces.{held, kept, sender}

pub sender_held : (h : History) (b : Block) → is_some (sender h b) ≡ held h b
unfolding kept sender
sender_held [] b = refl
sender_held (e ∷ h) b = by_entry (freed e b) (stored e b) (sender_held h b) where
  by_entry : (x : Bool) (o : Option (List ℕ)) → is_some (sender h b) ≡ is_some (kept h b)
      → is_some (if x then None else if is_some o then Some e.worker else sender h b)
      ≡ is_some (if x then None else if is_some o then o else kept h b)
  by_entry true o before = refl
  by_entry false None before = before
  by_entry false (Some bytes) before = refl
