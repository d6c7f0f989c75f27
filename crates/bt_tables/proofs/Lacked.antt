-- A piece that a peer has no more: the bit of its bitfield, and the blocks of its line.
use Rattle.std.proofs.Common.{◌≡◌, ◌≢◌, ◌<◌, ◌-◌, ◌*◌, ◌/◌, ◌%◌, ◌^◌, ℕ, Bool, true, false, List, [], ◌∷◌, ◌++◌, length, get_or, bit_and}
use Rattle.std.proofs.Common.{arith, sym, ◌∙◌, refl, w8, div-add-mod'}
use Rattle.std.specs.Prelude.{if◌then◌else◌, slice_set}
use Rattle.std.specs.Int.{bit_not}
use Rattle.std.specs.List.{filter}
use Rattle.std.proofs.lemmas.List.{get_or-set_other, get_or-set_same, length-set}
use Rattle.std.proofs.lemmas.Nat.{mod_below}
use Rattle.std.proofs.lemmas.Nat.Bits.{bit_at_clear_same, bit_at_clear_other}
use mathlib.Core.Logic.{dite}
use native.Mathlib.Decide.{ℕ_discrete}
use Rattle.bt_meta.specs.declared.block.Block.{Block}
use Rattle.bt_meta.specs.WireBits.{IsPayload, flags_of, wire_bit}
use Rattle.bt_meta.proofs.Payloads.{byte_within, flag_at, length_flags, same_flags}
use Rattle.bt_tables.specs.Tables.{PieceState, lowered, lowered_by}
use Rattle.bt_tables.proofs.Tabled.{length_edit}

-- ---- the bit of a piece

-- the bytes with the bit of piece p cleared
abbrev pub without_bit : List ℕ → ℕ → List ℕ
without_bit bytes p = slice_set bytes (p / 8) (bit_and (get_or bytes (p / 8) 0) (bit_not w8 (1 * 2 ^ (7 - p % 8) % 256)))

same_bit : (bytes : List ℕ) (p : ℕ) → p / 8 < length bytes → wire_bit (without_bit bytes p) p ≡ false
same_bit bytes p within =
    let byte = bit_and (get_or bytes (p / 8) 0) (bit_not w8 (1 * 2 ^ (7 - p % 8) % 256)) in
    rw (get_or-set_same bytes (p / 8) byte 0 within, bit_at_clear_same w8 (get_or bytes (p / 8) 0) (7 - p % 8) (omega arith)) refl

other_bit : (bytes : List ℕ) (p q : ℕ) → p / 8 < length bytes → q ≢ p → wire_bit (without_bit bytes p) q ≡ wire_bit bytes q
other_bit bytes p q within other =
    let byte = bit_and (get_or bytes (p / 8) 0) (bit_not w8 (1 * 2 ^ (7 - p % 8) % 256)) in
    let parts = div-add-mod' p 8 in let parts' = div-add-mod' q 8 in
    let low = mod_below p 8 (omega arith) in let low' = mod_below q 8 (omega arith) in
    dite (ℕ_discrete (q / 8) (p / 8))
    (λ e. rw (
      e,
      get_or-set_same bytes (p / 8) byte 0 within,
      bit_at_clear_other w8 (get_or bytes (p / 8) 0) (7 - p % 8) (omega arith) (7 - q % 8) (omega arith) (omega arith),
    ) refl)
    (λ ne. rw (get_or-set_other bytes (p / 8) (q / 8) byte 0 ne) refl)

pub unset_payload : (pieces : ℕ) (bytes : List ℕ) (p : ℕ) → IsPayload pieces bytes → p < pieces → IsPayload pieces (without_bit bytes p)
unset_payload pieces bytes p payload below = record {
  len = length-set bytes (p / 8) _ ∙ payload.len;
  clear = λ q behind inside. other_bit bytes p q (byte_within pieces bytes p payload below) (omega arith)
      ∙ payload.clear q behind (omega (
        arith,
        inside,
        length-set bytes (p / 8)
            (bit_and (get_or bytes (p / 8) 0) (bit_not w8 (1 * 2 ^ (7 - p % 8) % 256))),
      ));
  few = payload.few;
}

pub unset_flags : (pieces : ℕ) (bytes : List ℕ) (p : ℕ) → IsPayload pieces bytes → p < pieces
    → flags_of pieces (without_bit bytes p) ≡ slice_set (flags_of pieces bytes) p false
unset_flags pieces bytes p payload below =
    let flags = flags_of pieces bytes in
    let place = byte_within pieces bytes p payload below in
    same_flags pieces (without_bit bytes p) (slice_set flags p false) (length-set flags p false ∙ length_flags pieces bytes)
    (λ q within. dite (ℕ_discrete q p)
    (λ e. rw e (same_bit bytes p place ∙ sym (get_or-set_same flags p false false (omega (arith, length_flags pieces bytes)))))
    (λ ne. other_bit bytes p q place ne ∙ sym (flag_at pieces bytes q within) ∙ sym (get_or-set_other flags p q false false ne)))

-- ---- the blocks of a line

-- one more block behind those that were freed: it is freed where it passes the test
pub freed_push : (test : Block → Bool) (bs : List Block) (b : Block) (rows : List PieceState)
    → lowered_by (filter test (bs ++ b ∷ [])) rows
    ≡ (if test b then lowered b (lowered_by (filter test bs) rows) else lowered_by (filter test bs) rows)
freed_push test [] b rows = by_test (test b) where
  by_test : (x : Bool) → lowered_by (if x then b ∷ [] else []) rows ≡ (if x then lowered b rows else rows)
  by_test true = refl
  by_test false = refl
freed_push test (a ∷ bs) b rows = by_test (test a) (freed_push test bs b) where
  by_test : (x : Bool) → ((rows : List PieceState) → lowered_by (filter test (bs ++ b ∷ [])) rows
      ≡ (if test b then lowered b (lowered_by (filter test bs) rows) else lowered_by (filter test bs) rows))
      → lowered_by (if x then a ∷ filter test (bs ++ b ∷ []) else filter test (bs ++ b ∷ [])) rows
      ≡ (if test b then lowered b (lowered_by (if x then a ∷ filter test bs else filter test bs) rows)
      else lowered_by (if x then a ∷ filter test bs else filter test bs) rows)
  by_test true rest = rest (lowered a rows)
  by_test false rest = rest rows

-- there are as many rows once blocks are freed
pub length_lowered_by : (bs : List Block) (rows : List PieceState) → length (lowered_by bs rows) ≡ length rows
length_lowered_by [] rows = refl
length_lowered_by (b ∷ bs) rows = length_lowered_by bs (lowered b rows) ∙ length_edit rows b.piece _
