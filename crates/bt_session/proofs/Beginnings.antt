-- The seats of a new board, the passes of a new desk, and the workers that have them.
use Rattle.std.proofs.Common.{◌≡◌, ◌<◌, ◌+◌, ℕ, List, [], ◌∷◌, length, map, get_or, slice_get, Option, Some, refl, sym, ap, subst, ◌∙◌, ⊎_elim, arith}
use Rattle.std.proofs.lemmas.List.FromFn.{get_or-map-range_with_len, length-map-range_with_len}
use Rattle.std.specs.List.{range_with_len}
use Rattle.atomic_table.specs.Seated.{TableId}
use Rattle.bt_board.proofs.BitRows.{none_set}
use Rattle.bt_board.proofs.Knowing.{none_seen, not_given}
use Rattle.bt_board.specs.Seats.{BoardState, SeatState, new_seat}
use Rattle.bt_board.specs.Story.{fresh}
use Rattle.bt_check.specs.Queues.{Queue, TicketPassState}
use Rattle.bt_history.specs.Setting.{Setting}
use Rattle.bt_meta.specs.Layout.{piece_count}
use Rattle.bt_session.proofs.Numbered.{from_gets}
use Rattle.bt_session.specs.Beginnings.{IsFresh, IsNewPass, IsNewSeat}
use Rattle.bt_shared.specs.Passes as passes
use Rattle.bt_shared.specs.Passes.{PassState, SharedState}
use Rattle.bt_session.specs.Workers.{AreNumbered, Belongs}

-- ---- a new board's

is_new : (board : BoardState) (number : ℕ) → IsNewSeat (Some board.table) number (new_seat board number)
is_new board number = record {
  board_is = refl;
  own = refl;
  seen = λ setting piece. none_seen (piece_count setting.torrent) (fresh number) (λ p seen. ⊎_elim (λ m. m) (λ l. l) seen) piece;
  told = λ piece. not_given _ piece (none_set _ piece);
}

module _ (board : BoardState) (n : ℕ) (seats : List SeatState) (is : seats ≡ map (new_seat board) (range_with_len 0 n)) where
  pub seats_count : length seats ≡ n
  seats_count = ap length is ∙ length-map-range_with_len (new_seat board) 0 n

  pub are_new : AreNumbered (IsNewSeat (Some board.table)) 0 seats
  are_new i any below =
      subst (IsNewSeat (Some board.table) (0 + i))
      (sym (ap (λ (l : List SeatState). get_or l i any) is
      ∙ get_or-map-range_with_len (new_seat board) 0 n i (0 + i) any (omega (arith, below, seats_count)) refl))
      (is_new board (0 + i))

-- a new desk's passes
are_new_pass : (desk : SharedState) (number : ℕ) → IsNewPass (Some desk.table) desk.setting number (passes.newcomer desk number)
are_new_pass desk number = record { named = record { desk_is = refl; setting_is = refl }; number_is = refl; unseen = refl; log = refl }

pub are_new_passes : (desk : SharedState) (setting : Setting) (ps : List PassState) → desk.setting ≡ setting →
    ((w : ℕ) → w < length ps → slice_get ps w ≡ Some (passes.newcomer desk w)) → AreNumbered (IsNewPass (Some desk.table) setting) 0 ps
are_new_passes desk setting ps same gets i any below =
    subst (λ (s : Setting). IsNewPass (Some desk.table) s (0 + i) (get_or ps i any)) same
    (subst (IsNewPass (Some desk.table) desk.setting (0 + i)) (sym (from_gets (passes.newcomer desk) ps gets i any below))
    (are_new_pass desk (0 + i)))

-- a new worker of a new seat
pub belongs : (setting : Setting) (desk board : Option TableId) (queue : Option Queue) (number : ℕ) (pass : PassState) (seat : SeatState)
    (tickets : TicketPassState) →
    IsNewPass desk setting number pass → IsNewSeat board number seat → queue ≡ Some tickets.queue →
    Belongs setting desk board queue (record { pass = pass; seat = seat; tickets = tickets })
belongs setting desk board queue number pass seat tickets is new queue_is = record {
  pass = is.named;
  seat = new.board_is;
  own = new.own ∙ ap (λ (w : ℕ). w ∷ []) (sym is.number_is);
  tickets = queue_is;
}

pub is_fresh : (setting : Setting) (desk board : Option TableId) (number : ℕ) (pass : PassState) (seat : SeatState) (tickets : TicketPassState) →
    IsNewPass desk setting number pass → IsNewSeat board number seat → IsFresh setting number (record { pass = pass; seat = seat; tickets = tickets })
is_fresh setting desk board number pass seat tickets is new =
    record { number_is = is.number_is; unseen = is.unseen; log = is.log; seen = new.seen setting; told = new.told }
