-- Frames at the front of bytes: their length is read off, so one frame stands there.
use Rattle.std.proofs.Common.{◌≡◌, ℕ, List, ◌++◌, ◌<◌, ◌^◌, length, take, drop, ap, sym, ◌∙◌}
use Rattle.std.proofs.Math.Seq.{take-append_seam}
use Rattle.std.proofs.lemmas.List.{append_cancel_left}
use Rattle.std.proofs.lemmas.Nat.{from_be_bytes-to_be_bytes_4}
use Rattle.std.specs.Int.{w32, from_be_bytes}
use Rattle.bt_wire.specs.Messages.{frame}

-- two fronts of one length
pub same_front : (a b after_a after_b : List ℕ) → length a ≡ length b → a ++ after_a ≡ b ++ after_b → (a ≡ b) × (after_a ≡ after_b)
same_front a b after_a after_b len same =
    let front : a ≡ b =
    sym (take-append_seam a after_a) ∙ ap (take (length a)) same ∙ ap (λ n. take n (b ++ after_b)) len ∙ take-append_seam b after_b in
    (front, append_cancel_left a after_a after_b (same ∙ ap (λ (xs : List ℕ). xs ++ after_b) (sym front)))

-- the length of the frame in front
pub frame_length : (body rest : List ℕ) → length body < 2 ^ 32 → from_be_bytes w32 (take 4 (frame body ++ rest)) ≡ length body
frame_length body rest fits = from_be_bytes-to_be_bytes_4 (length body) fits

-- one frame stands in front
pub same_frame : (a b after_a after_b : List ℕ) → length a < 2 ^ 32 → length b < 2 ^ 32 →
    frame a ++ after_a ≡ frame b ++ after_b → (a ≡ b) × (after_a ≡ after_b)
same_frame a b after_a after_b fits_a fits_b same =
    let len : length a ≡ length b =
    sym (frame_length a after_a fits_a) ∙ ap (λ (xs : List ℕ). from_be_bytes w32 (take 4 xs)) same ∙ frame_length b after_b fits_b in
    let behind : a ++ after_a ≡ b ++ after_b = ap (drop 4) same in
    same_front a b after_a after_b len behind
