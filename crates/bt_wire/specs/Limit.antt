-- How long a message may be.
use Rattle.std.specs.Prelude.{ℕ, ◌+◌, ◌/◌, max}

-- 1 MiB, or the length field of a bitfield of so many pieces
abbrev pub frame_limit : ℕ → ℕ
frame_limit pieces = max 1048576 (1 + (pieces + 7) / 8)
