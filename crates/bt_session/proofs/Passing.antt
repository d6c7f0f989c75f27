-- Checks that pass: what was hashed has the hash of its piece, and a seat that marked a piece knows it.
use Rattle.std.proofs.Common.{◌≡◌, ◌<◌, ℕ, true, List, [], ◌∷◌, refl, ap, ◌∙◌, inl, arith}
use Rattle.std.specs.Prelude.{◌==◌}
use Rattle.std.proofs.lemmas.Bool.{and_parts, eq-eqb, eqb-true}
use Rattle.std.proofs.lemmas.Bool.Decides.{nat_tests}
use Rattle.sha1.specs.Sha1.{sha1}
use Rattle.bt_board.proofs.Knowing.{seen_decides}
use Rattle.bt_board.proofs.Lists.{has_back}
use Rattle.bt_board.specs.Seats.{SeatState, seat_with}
use Rattle.bt_board.specs.Story.{mark, with_mark}
use Rattle.bt_board.specs.declared.view.Mark.{Mark}
use Rattle.bt_check.specs.Checked.{Checked, Fits, joined}
use Rattle.bt_history.proofs.Allowed.{CheckFacts, no_cause, passed_hash, settle_facts}
use Rattle.bt_history.specs.declared.call.Reply.TheVariants.{Had}
use Rattle.bt_history.specs.declared.event.Action.TheVariants.{Settle}
use Rattle.bt_history.specs.declared.event.Event.{Event}
use Rattle.bt_history.specs.History.{History}
use Rattle.bt_history.specs.Legal.{IsAllowed, same_bytes}
use Rattle.bt_history.specs.Pieces.{content}
use Rattle.bt_history.specs.Setting.{Setting}
use Rattle.bt_meta.specs.Layout.{piece_count}
use Rattle.bt_session.specs.Workers.{knows}

-- bytes that pass for the same are
are_same : (xs ys : List ℕ) → same_bytes xs ys ≡ true → xs ≡ ys
are_same [] [] is = refl
are_same [] (y ∷ ys) is = absurd cc
are_same (x ∷ xs) [] is = absurd cc
are_same (x ∷ xs) (y ∷ ys) is =
    let parts = and_parts (x == y) (same_bytes xs ys) is in
    ap (λ (z : ℕ). z ∷ xs) (eqb-true x y parts.0) ∙ ap (λ (zs : List ℕ). y ∷ zs) (are_same xs ys parts.1)

-- a verdict that was settled as had fits its torrent
pub passed_fits : (s : Setting) (found : History) (worker : ℕ) (v : Checked) →
    IsAllowed s found (record { worker = worker; action = Settle v.piece (joined v); reply = Had }) → Fits s.torrent v
passed_fits s found worker v allowed =
    let e : Event = record { worker = worker; action = Settle v.piece (joined v); reply = Had } in
    let facts : CheckFacts s found v.piece (joined v) =
    settle_facts s found worker v.piece (joined v) (no_cause s found e (λ reason refused. absurd cc) allowed) in
    let hash = passed_hash s found e v.piece allowed refl (eq-eqb v.piece v.piece refl) in
    let bound : v.piece < piece_count s.torrent = grind (arith, nat_tests, facts.piece) in
    (bound, ap sha1 (are_same (joined v) (content s found v.piece) facts.current) ∙ are_same _ _ hash)

-- a seat that marked a piece knows it to be finished
pub marked_known : (s : Setting) (seat : SeatState) (piece : ℕ) (bytes : List ℕ) → piece < piece_count s.torrent →
    knows s (seat_with seat (with_mark seat.view (mark piece bytes))) piece ≡ true
marked_known s seat piece bytes bound =
    let view = with_mark seat.view (mark piece bytes) in
    (seen_decides (piece_count s.torrent) view piece).1
    (bound, inl (has_back (λ (m : Mark). m.piece ≡ piece) seat.view.marks (mark piece bytes ∷ []) (inl refl)))
