-- How the content of a torrent is cut into pieces and blocks (BEP 3).
use Rattle.std.specs.Prelude.{ℕ, ◌+◌, ◌-◌, ◌*◌, ◌/◌, ◌%◌, ◌<◌, ◌≤◌, ◌^◌, ◌≡◌, min, List, length, slice_get, unwrap_or, nat_lt, nat_le, ◌==◌, ◌||◌}
use Rattle.std.specs.Prelude.{◌&&◌, [], Option, Some, None, Result, Ok, Err, if◌then◌else◌}
use Rattle.bt_meta.specs.declared.block.Block.{Block}
use Rattle.bt_meta.specs.declared.fault.MetaFault.{MetaFault}
use Rattle.bt_meta.specs.declared.fault.MetaFault.TheVariants.{PieceLength, NoContent, CountMismatch, TooLarge}

-- the cutting of a content of `total` bytes into pieces of `piece_length` bytes, each with its SHA-1
pub record Layout : Type 0 where
  pub piece_length : ℕ
  pub total : ℕ
  pub hashes : List (List ℕ)

-- how many pieces of this length the content makes, the last one perhaps shorter
abbrev pub pieces_in : ℕ → ℕ → ℕ
pieces_in total piece_length = (total + piece_length - 1) / piece_length

-- the numbers of a layout fit together, and are within the limits
pub record IsLayout (t : Layout) : Type 0 where
  pub piece_length_low : 0 < t.piece_length
  pub piece_length_high : t.piece_length ≤ 2 ^ 31
  pub total_low : 0 < t.total
  pub total_high : t.total < 2 ^ 63
  pub pieces_high : length t.hashes < 2 ^ 32
  pub count : length t.hashes ≡ pieces_in t.total t.piece_length

-- the number of pieces
abbrev pub piece_count : Layout → ℕ
piece_count t = length t.hashes

-- where piece p begins in the content
abbrev pub piece_start : Layout → ℕ → ℕ
piece_start t p = p * t.piece_length

-- the bytes of piece p: the last piece is what is left
abbrev pub piece_len : Layout → ℕ → ℕ
piece_len t p = min t.piece_length (t.total - piece_start t p)

-- the bytes of a block, but for the last one of a piece
abbrev pub block_size : ℕ
block_size = 16384

-- the number of blocks of piece p
abbrev pub block_count : Layout → ℕ → ℕ
block_count t p = (piece_len t p + (block_size - 1)) / block_size

-- block k of piece p: the last block is what is left
abbrev pub block : Layout → ℕ → ℕ → Block
block t p k =
    record { piece = p; begin = block_size * k; len = min block_size (piece_len t p - block_size * k) }

-- the block of piece p that begins at this offset in it, where one does
abbrev pub block_at : Layout → ℕ → ℕ → Option Block
block_at t p begin =
    if begin % block_size == 0 && nat_lt begin (piece_len t p)
    then Some (block t p (begin / block_size))
    else None

-- the hash of piece p
abbrev pub hash_of : Layout → ℕ → List ℕ
hash_of t p = unwrap_or (slice_get t.hashes p) []

-- a torrent as contracts see it
pub record Metainfo : Type 0 where
  pub layout : Layout
  pub infohash : List ℕ
  pub name : List ℕ
  pub files : ℕ

-- the torrent of these parts, or the first fault that keeps one from being made
abbrev pub torrent_of : ℕ → ℕ → List (List ℕ) → List ℕ → Result Metainfo MetaFault
torrent_of piece_length total hashes infohash =
    let pieces = pieces_in total piece_length in
    if piece_length == 0 || nat_lt (2 ^ 31) piece_length then Err PieceLength
    else (if total == 0 then Err NoContent
    else (if nat_le (2 ^ 63) total || nat_le (2 ^ 32) pieces then Err TooLarge
    else (if length hashes == pieces
    then Ok (record
    { layout = record { piece_length = piece_length; total = total; hashes = hashes }; infohash = infohash; name = []; files = 1 })
    else Err CountMismatch)))

-- whether so much content makes so many pieces of this length, all within the limits; the first fault, if not
abbrev pub sizes_checked : ℕ → ℕ → ℕ → Result (Unit {0}) MetaFault
sizes_checked piece_length total digests =
    let pieces = pieces_in total piece_length in
    if nat_le (2 ^ 63) total then Err TooLarge
    else (if total == 0 then Err NoContent
    else (if nat_le (2 ^ 32) pieces then Err TooLarge
    else (if digests == pieces then Ok tt
    else Err CountMismatch)))
