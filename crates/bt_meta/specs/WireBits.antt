-- How a set of pieces is spelled as bytes in a `bitfield` message (BEP 3).
use Rattle.std.specs.Prelude.{ℕ, ◌+◌, ◌-◌, ◌*◌, ◌/◌, ◌%◌, ◌^◌, ◌<◌, ◌≤◌, ◌≡◌, ◌==◌, Bool, true, false, List, length, map, slice_index}
use Rattle.std.specs.Prelude.{slice_index_or, Option, None, Some}
use Rattle.std.specs.Int.{bit_at}
use Rattle.std.specs.List.{range_with_len}

-- how many bytes hold a bit for each of so many pieces
abbrev pub wire_len : ℕ → ℕ
wire_len pieces = (pieces + 7) / 8

-- the bit of piece p: the first byte has pieces 0 to 7, from its high bit down
abbrev pub wire_bit : List ℕ → ℕ → Bool
wire_bit bytes p = bit_at (slice_index bytes (p / 8)) (7 - p % 8) == 1

-- a bit behind those of the pieces is set
pub record HasSpareBit (bytes : List ℕ) (pieces : ℕ) : Type 0 where
  pub place : ℕ
  pub behind : pieces ≤ place
  pub within : place < 8 * length bytes
  pub set : wire_bit bytes place ≡ true

-- the bytes spell these flags: a bit for each, and zeros behind the last
pub record IsSpelled (flags : List Bool) (bytes : List ℕ) : Type 0 where
  pub len : length bytes ≡ wire_len (length flags)
  pub bits : (p : ℕ) → p < 8 * length bytes → wire_bit bytes p ≡ slice_index_or flags p false

-- the first bits of the bytes, a flag for each of so many pieces
abbrev pub flags_of : ℕ → List ℕ → List Bool
flags_of pieces bytes = map (wire_bit bytes) (range_with_len 0 pieces)

-- the bytes are a payload for so many pieces: a bit for each, and no spare bit is set
pub record IsPayload (pieces : ℕ) (bytes : List ℕ) : Type 0 where
  pub len : length bytes ≡ wire_len pieces
  pub clear : (place : ℕ) → pieces ≤ place → place < 8 * length bytes → wire_bit bytes place ≡ false
  pub few : pieces < 2 ^ 32

-- q is the first place from this one on that passes the test
pub record IsFirst (test : ℕ → Bool) (from q : ℕ) : Type 0 where
  pub not_before : from ≤ q
  pub passes : test q ≡ true
  pub none_between : (p : ℕ) → from ≤ p → p < q → test p ≡ false

-- what was found from this place on: the first that passes the test, or none passes
abbrev pub FindsFirst : (ℕ → Bool) → ℕ → Option ℕ → Type 0
FindsFirst test from None = (p : ℕ) → from ≤ p → test p ≡ false
FindsFirst test from (Some q) = IsFirst test from q

-- so many bits of the byte stand in front of the first one that is set, from its high bit down
pub record IsFirstBit (byte zeros : ℕ) : Type 0 where
  pub few : zeros < 8
  pub set : bit_at byte (7 - zeros) ≡ 1
  pub clear : (k : ℕ) → k < zeros → bit_at byte (7 - k) ≡ 0
