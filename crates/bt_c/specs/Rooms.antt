-- What a caller's room says as a sink.
use Rattle.std.specs.Prelude.{Bool, ◌&&◌, nat_le, ℕ, List, ◌∷◌, Option, Some, length, take}
use Rattle.bt_c.specs.declared.buffer.Buffer.{Buffer}

-- the room's name, by which a caller knows it to be its own still, and behind it the bytes that were written
abbrev pub written_to : Buffer → Option (List ℕ)
written_to b = Some (b.room.ghost_name ∷ take b.filled b.room.now)

-- the room is full, and was to take more
abbrev pub has_refused : Buffer → Bool
has_refused b = nat_le (length b.room.now) b.filled && b.refused
