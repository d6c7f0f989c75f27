-- The message of a block at the front of a stream, whose block is a part of the bytes.
use Rattle.std.specs.Prelude.{ℕ, ◌≤◌, List, true, length, take, drop}
use Rattle.bt_wire.specs.declared.message.Message.TheVariants.{Piece}
use Rattle.bt_wire.specs.Stream.{Spells}

-- so many bytes in front are a block's message, and all but its first 13 are the block
pub record IsBlockFront (limit : ℕ) (bytes : List ℕ) (piece begin len : ℕ) : Type 0 where
  pub head : 13 ≤ len
  pub whole : len ≤ length bytes
  pub spells : Spells true limit (Piece piece begin (drop 13 (take len bytes))) (take len bytes)
