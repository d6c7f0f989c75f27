-- A block that is held has the length that it must have.
use Rattle.std.proofs.Common.{◌≡◌, ℕ, ◌*◌, ◌==◌, Bool, true, false, List, [], ◌∷◌, length, Option, None, Some, refl, sym, ap, subst, ◌∙◌, arith}
use Rattle.std.proofs.Common.{eqb-true}
use Rattle.std.specs.Prelude.{◌&&◌, is_some, if◌then◌else◌}
use Rattle.bt_meta.specs.Layout.{block, block_size}
use Rattle.bt_history.specs.declared.event.Action.{Action}
use Rattle.bt_history.specs.declared.event.Event.{Event}
use Rattle.bt_history.specs.Setting.{Setting}
use Rattle.bt_history.specs.History.{History, bytes_for, freed, stored, stores}
use Rattle.bt_history.specs.Legal.{IsAllowed, IsLegal}
use Rattle.bt_history.specs.Pieces.{kept}
use Rattle.bt_history.proofs.Arrivals.{StoreFacts, store_facts}

some_same : {A : Type 0} (x y : A) → Some x ≡ Some y → x ≡ y
some_same x y is = cc

-- what an allowed entry stored for a block
module _ (s : Setting) (h : History) (e : Event) (allowed : IsAllowed s h e) (p k : ℕ) (bytes : List ℕ) where
  matched : (f : StoreFacts s h e) (piece begin : Bool) → (f.piece == p) ≡ piece → (f.begin == block_size * k) ≡ begin
      → (if piece && begin then Some f.bytes else None) ≡ Some bytes → length bytes ≡ (block s.torrent p k).len
  matched f false begin piece_is begin_is is = absurd cc
  matched f true false piece_is begin_is is = absurd cc
  matched f true true piece_is begin_is is =
      let piece : f.piece ≡ p = eqb-true f.piece p piece_is in
      let begin : f.begin ≡ block_size * k = eqb-true f.begin (block_size * k) begin_is in
      let index : f.arrival.index ≡ k = omega (arith, f.arrival.begins, begin) in
      ap length (sym (some_same f.bytes bytes is)) ∙ (sym f.arrival.len
      ∙ (ap (λ (q : ℕ). (block s.torrent q f.arrival.index).len) piece ∙ ap (λ (i : ℕ). (block s.torrent p i).len) index))

  by_reply : (stored_it : Bool) → stores e.reply ≡ stored_it
      → (if stored_it then bytes_for (block s.torrent p k) e.action else None) ≡ Some bytes → length bytes ≡ (block s.torrent p k).len
  by_reply false storing is = absurd cc
  by_reply true storing is =
      let f = store_facts s h e allowed storing in
      matched f (f.piece == p) (f.begin == block_size * k) refl refl
      (subst (λ (a : Action). bytes_for (block s.torrent p k) a ≡ Some bytes) f.call is)

  stored_len : stored e (block s.torrent p k) ≡ Some bytes → length bytes ≡ (block s.torrent p k).len
  stored_len is = by_reply (stores e.reply) refl is

pub held_len : (s : Setting) (h : History) → IsLegal s h → (p k : ℕ) (bytes : List ℕ)
    → kept h (block s.torrent p k) ≡ Some bytes → length bytes ≡ (block s.torrent p k).len
unfolding kept
held_len s [] legal p k bytes is = absurd cc
held_len s (e ∷ h) legal p k bytes is =
    by_entry (λ older. held_len s h legal.0 p k bytes older) (freed e (block s.torrent p k)) (stored e (block s.torrent p k)) refl is
  where
    by_entry : (kept h (block s.torrent p k) ≡ Some bytes → length bytes ≡ (block s.torrent p k).len)
        → (fails : Bool) (o : Option (List ℕ)) → stored e (block s.torrent p k) ≡ o
        → (if fails then None else if is_some o then o else kept h (block s.torrent p k)) ≡ Some bytes
        → length bytes ≡ (block s.torrent p k).len
    by_entry before true o here is = absurd cc
    by_entry before false None here is = before is
    by_entry before false (Some x) here is = stored_len s h e legal.1 p k bytes (here ∙ is)
