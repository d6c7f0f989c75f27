-- What the payload of a `bitfield` message tells of each piece.
use Rattle.std.proofs.Common.{◌≡◌, ◌≢◌, ◌<◌, ◌-◌, ◌*◌, ◌/◌, ◌%◌, ◌^◌, ℕ, Bool, true, false, List, length, replicate, get_or, bit_or}
use Rattle.std.proofs.Common.{arith, sym, ◌∙◌, ap, refl, subst, inl, inr, w8, div-add-mod'}
use Rattle.std.specs.Prelude.{IsTrue, slice_index_or, slice_set}
use Rattle.std.proofs.lemmas.Bool.{cases_lt, false_from_ne_true, false≢true}
use Rattle.std.proofs.lemmas.List.{ext_get_or, get_or-replicate, get_or-set_other, get_or-set_same, get_or_past, length-replicate, length-set}
use Rattle.std.proofs.lemmas.List.FromFn.{length-map-range_with_len, get_or-map-range_with_len}
use Rattle.std.proofs.lemmas.Nat.{mod_below}
use Rattle.std.proofs.lemmas.Nat.Bits.{bit_at-zero, bit_at_set_same, bit_at_set_other}
use mathlib.Core.Logic.{dite}
use native.Mathlib.Decide.{ℕ_discrete}
use Rattle.bt_meta.specs.WireBits.{HasSpareBit, IsPayload, IsSpelled, flags_of, wire_bit, wire_len}

pub length_flags : (pieces : ℕ) (bytes : List ℕ) → length (flags_of pieces bytes) ≡ pieces
length_flags pieces bytes = length-map-range_with_len (wire_bit bytes) 0 pieces

pub flag_at : (pieces : ℕ) (bytes : List ℕ) (p : ℕ) → p < pieces → slice_index_or (flags_of pieces bytes) p false ≡ wire_bit bytes p
flag_at pieces bytes p below = get_or-map-range_with_len (wire_bit bytes) 0 pieces p p false below (omega arith)

-- two payloads tell the same flags where they have the same bits
pub same_flags : (pieces : ℕ) (bytes : List ℕ) (flags : List Bool) → length flags ≡ pieces
    → ((p : ℕ) → p < pieces → wire_bit bytes p ≡ slice_index_or flags p false) → flags_of pieces bytes ≡ flags
same_flags pieces bytes flags len same = ext_get_or false (flags_of pieces bytes) flags (length_flags pieces bytes ∙ sym len)
    (λ p below. let within : p < pieces = omega (arith, length_flags pieces bytes) in flag_at pieces bytes p within ∙ same p within)

pub spells : (pieces : ℕ) (bytes : List ℕ) → IsPayload pieces bytes → IsSpelled (flags_of pieces bytes) bytes
spells pieces bytes payload = record {
  len = rw (length_flags pieces bytes) payload.len;
  bits = λ p below. elim (cases_lt p pieces) [
    | inl within ↦ sym (flag_at pieces bytes p within)
    | inr behind ↦ payload.clear p behind below
        ∙ sym (get_or_past (flags_of pieces bytes) p false (omega (arith, length_flags pieces bytes)))
  ];
}

-- no bit of zeros is set
same_byte : (count i byte : ℕ) → get_or (replicate count byte) i byte ≡ byte
same_byte count i byte = elim (cases_lt i count) [
  | inl below ↦ get_or-replicate count i byte byte below
  | inr past ↦ get_or_past (replicate count byte) i byte (omega (arith, length-replicate count byte))
]

pub zero_bit : (count p : ℕ) → wire_bit (replicate count 0) p ≡ false
zero_bit count p = rw (same_byte count (p / 8) 0, bit_at-zero (7 - p % 8)) refl

pub zero_flags : (pieces count : ℕ) → flags_of pieces (replicate count 0) ≡ replicate pieces false
zero_flags pieces count = same_flags pieces (replicate count 0) (replicate pieces false) (length-replicate pieces false)
    (λ p below. zero_bit count p ∙ sym (get_or-replicate pieces p false false below))

pub zero_payload : (pieces count : ℕ) → pieces < 2 ^ 32 → count ≡ wire_len pieces → IsPayload pieces (replicate count 0)
zero_payload pieces count few is = record {
  len = length-replicate {A = ℕ} count 0 ∙ is;
  clear = λ p _ _. zero_bit count p;
  few = few;
}

-- the bytes with the bit of piece p set
abbrev pub with_bit : List ℕ → ℕ → List ℕ
with_bit bytes p = slice_set bytes (p / 8) (bit_or (get_or bytes (p / 8) 0) (1 * 2 ^ (7 - p % 8) % 256))

pub same_bit : (bytes : List ℕ) (p : ℕ) → p / 8 < length bytes → wire_bit (with_bit bytes p) p ≡ true
same_bit bytes p within =
    let byte = bit_or (get_or bytes (p / 8) 0) (1 * 2 ^ (7 - p % 8) % 256) in
    rw (get_or-set_same bytes (p / 8) byte 0 within, bit_at_set_same w8 (get_or bytes (p / 8) 0) (7 - p % 8) (omega arith)) refl

pub other_bit : (bytes : List ℕ) (p q : ℕ) → p / 8 < length bytes → q ≢ p → wire_bit (with_bit bytes p) q ≡ wire_bit bytes q
other_bit bytes p q within other =
    let byte = bit_or (get_or bytes (p / 8) 0) (1 * 2 ^ (7 - p % 8) % 256) in
    let parts = div-add-mod' p 8 in let parts' = div-add-mod' q 8 in
    let low = mod_below p 8 (omega arith) in let low' = mod_below q 8 (omega arith) in
    dite (ℕ_discrete (q / 8) (p / 8))
    (λ e. rw (
      e,
      get_or-set_same bytes (p / 8) byte 0 within,
      bit_at_set_other w8 (get_or bytes (p / 8) 0) (7 - p % 8) (omega arith) (7 - q % 8) (omega arith),
    ) refl)
    (λ ne. rw (get_or-set_other bytes (p / 8) (q / 8) byte 0 ne) refl)

-- where the byte of a piece stands
pub byte_within : (pieces : ℕ) (bytes : List ℕ) (p : ℕ) → IsPayload pieces bytes → p < pieces → p / 8 < length bytes
byte_within pieces bytes p payload below = omega (arith, payload.len)

pub set_payload : (pieces : ℕ) (bytes : List ℕ) (p : ℕ) → IsPayload pieces bytes → p < pieces → IsPayload pieces (with_bit bytes p)
set_payload pieces bytes p payload below = record {
  len = length-set bytes (p / 8) _ ∙ payload.len;
  clear = λ q behind inside. other_bit bytes p q (byte_within pieces bytes p payload below) (omega arith)
      ∙ payload.clear q behind (omega (arith, inside, length-set bytes (p / 8) (bit_or (get_or bytes (p / 8) 0) (1 * 2 ^ (7 - p % 8) % 256))));
  few = payload.few;
}

pub set_flags : (pieces : ℕ) (bytes : List ℕ) (p : ℕ) → IsPayload pieces bytes → p < pieces
    → flags_of pieces (with_bit bytes p) ≡ slice_set (flags_of pieces bytes) p true
set_flags pieces bytes p payload below =
    let flags = flags_of pieces bytes in
    let place = byte_within pieces bytes p payload below in
    same_flags pieces (with_bit bytes p) (slice_set flags p true) (length-set flags p true ∙ length_flags pieces bytes)
    (λ q within. dite (ℕ_discrete q p)
    (λ e. rw e (same_bit bytes p place ∙ sym (get_or-set_same flags p true false (omega (arith, length_flags pieces bytes)))))
    (λ ne. other_bit bytes p q place ne ∙ sym (flag_at pieces bytes q within) ∙ sym (get_or-set_other flags p q true false ne)))

-- what a set shows of its payload: `flags` are its flags
pub counted : (pieces : ℕ) (bytes : List ℕ) (flags : List Bool) → flags_of pieces bytes ≡ flags → length flags ≡ pieces
counted pieces bytes flags is = ap length (sym is) ∙ length_flags pieces bytes

pub told : (pieces : ℕ) (bytes : List ℕ) (flags : List Bool) → flags_of pieces bytes ≡ flags → (p : ℕ) → p < pieces
    → wire_bit bytes p ≡ slice_index_or flags p false
told pieces bytes flags is p below = subst (λ (fs : List Bool). wire_bit bytes p ≡ slice_index_or fs p false) is (sym (flag_at pieces bytes p below))

pub spelled : (pieces : ℕ) (bytes : List ℕ) (flags : List Bool) → flags_of pieces bytes ≡ flags → IsPayload pieces bytes → IsSpelled flags bytes
spelled pieces bytes flags is payload = subst (λ (fs : List Bool). IsSpelled fs bytes) is (spells pieces bytes payload)

pub no_spare : (pieces : ℕ) (bytes : List ℕ) → pieces < 2 ^ 32 → length bytes ≡ wire_len pieces → (HasSpareBit bytes pieces → IsTrue false)
    → IsPayload pieces bytes
no_spare pieces bytes few len none = record {
  len = len;
  clear = λ place behind within. false_from_ne_true (wire_bit bytes place)
      (λ set. false≢true (none (record { place = place; behind = behind; within = within; set = set })));
  few = few;
}
