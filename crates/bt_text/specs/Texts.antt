-- What the program prints.
use Rattle.std.specs.Prelude.{ℕ, ◌/◌, ◌%◌, List, [], ◌∷◌, ◌++◌, codes, nat_le, ◌==◌, Bool, true, false, ◌&&◌, not, if◌then◌else◌}
use Rattle.std.specs.List.{flat_map}
use Rattle.std.specs.Fmt.{decimal, digit_glyph}
use Rattle.bt_meta.specs.declared.block.Block as blocks
use Rattle.bt_text.specs.declared.text.ReplyText.{ReplyText}
use Rattle.bt_text.specs.declared.text.Tail.{Tail}
use Rattle.bt_text.specs.declared.text.Tail.TheVariants.{Nothing, Block, Number}
use Rattle.bt_history.specs.declared.call.Reason.{Reason}
use Rattle.bt_history.specs.Legal.{reason_number}
use Rattle.bt_history.specs.declared.call.Reply.{Reply}
use Rattle.bt_history.specs.declared.call.Reply.TheVariants.{Joined, Noted, Quiet, Cancel, Request, InFlight, Choked, PipeFull, Idle, NothingLeft, Stored}
use Rattle.bt_history.specs.declared.call.Reply.TheVariants.{Completed, Dropped, Had, Failed, Refused}

-- a byte as two hexadecimal digits in lower case
abbrev pub hex_byte : ℕ → List ℕ
hex_byte byte = digit_glyph false (byte / 16) ∷ digit_glyph false (byte % 16) ∷ []

-- a byte that is printed as it is: printable ASCII but for `%`
abbrev pub is_plain : ℕ → Bool
is_plain byte = nat_le 33 byte && nat_le byte 126 && not (byte == 37)

-- a byte of a name: as it is, or `%` and two digits
abbrev pub name_byte : ℕ → List ℕ
name_byte byte = if is_plain byte then byte ∷ [] else 37 ∷ hex_byte byte

-- a name, byte by byte
abbrev pub name_text : List ℕ → List ℕ
name_text name = flat_map name_byte name

-- where a block stands: piece, beginning and length
abbrev pub block_text : blocks.Block → List ℕ
block_text b = decimal b.piece ++ (codes " " ++ (decimal b.begin ++ (codes " " ++ decimal b.len)))

-- a reply, as it is printed
abbrev pub reply_text : Reply → List ℕ
reply_text Joined = codes "joined"
reply_text (Noted true) = codes "noted yes"
reply_text (Noted false) = codes "noted no"
reply_text Quiet = codes "quiet"
reply_text (Cancel b) = codes "cancel " ++ block_text b
reply_text (Request b) = codes "request " ++ block_text b
reply_text (InFlight b) = codes "inflight " ++ block_text b
reply_text Choked = codes "choked"
reply_text PipeFull = codes "pipefull"
reply_text Idle = codes "idle"
reply_text NothingLeft = codes "nothing"
reply_text Stored = codes "stored"
reply_text Completed = codes "completed"
reply_text Dropped = codes "dropped"
reply_text Had = codes "had"
reply_text Failed = codes "failed"
reply_text (Refused reason) = codes "refused " ++ decimal (reason_number reason)

-- what stands behind the word of a reply
abbrev pub tail_text : Tail → List ℕ
tail_text Nothing = []
tail_text (Block b) = codes " " ++ block_text b
tail_text (Number n) = codes " " ++ decimal n

-- a reply in its two parts
abbrev pub said_text : ReplyText → List ℕ
said_text said = said.word.now ++ tail_text said.tail
