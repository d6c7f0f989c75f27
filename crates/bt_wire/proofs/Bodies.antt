-- A body is read in one way.
use Rattle.std.proofs.Common.{◌≡◌, ℕ, List, [], ◌∷◌, ◌<◌, ◌==◌, take, drop, ap, sym, ◌∙◌, arith, if◌then◌else◌}
use Rattle.std.proofs.lemmas.Bool.Decides.{nat_tests}
use Rattle.std.proofs.lemmas.Nat.{from_be_bytes-to_be_bytes_4}
use Rattle.std.specs.Int.{w32, from_be_bytes}
use Rattle.bt_wire.specs.declared.message.Message.{Message}
use Rattle.bt_wire.specs.declared.message.Message.TheVariants as messages
use Rattle.bt_wire.specs.Stream.{IsBody}

-- the number in the first four bytes
abbrev first_number : List ℕ → ℕ
first_number bytes = from_be_bytes w32 (take 4 bytes)

-- the message of a type that isn't a bitfield's or a block's, with this payload
abbrev message_of : ℕ → List ℕ → Message
message_of type payload =
    if type == 0 then messages.Choke
    else if type == 1 then messages.Unchoke
    else if type == 2 then messages.Interested
    else if type == 3 then messages.NotInterested
    else if type == 4 then messages.Have (first_number payload)
    else if type == 5 then messages.Bits payload
    else if type == 6 then messages.Request (first_number payload) (first_number (drop 4 payload)) (first_number (drop 8 payload))
    else if type == 7 then messages.Piece (first_number payload) (first_number (drop 4 payload)) (drop 8 payload)
    else if type == 8 then messages.Cancel (first_number payload) (first_number (drop 4 payload)) (first_number (drop 8 payload))
    else messages.Unknown type

-- the message with this body, where there is one
abbrev read : List ℕ → Message
read [] = messages.KeepAlive
read (type ∷ payload) = message_of type payload

unknown : (type : ℕ) (payload : List ℕ) → 8 < type → message_of type payload ≡ messages.Unknown type
unknown type payload above = grind (arith, nat_tests)

read_back : (m : Message) (bytes : List ℕ) → IsBody m bytes → read bytes ≡ m
read_back (messages.Hello h) bytes is = absurd is
read_back (messages.Unknown type) bytes is = ap read is.1.1 ∙ unknown type is.1.0 is.0
read_back messages.KeepAlive bytes is = ap read is.1
read_back messages.Choke bytes is = ap read is.1
read_back messages.Unchoke bytes is = ap read is.1
read_back messages.Interested bytes is = ap read is.1
read_back messages.NotInterested bytes is = ap read is.1
read_back (messages.Have piece) bytes is = ap read is.1 ∙ ap messages.Have (from_be_bytes-to_be_bytes_4 piece is.0)
read_back (messages.Bits bits) bytes is = ap read is.1
read_back (messages.Request piece begin len) bytes is =
    ap read is.1 ∙ rw (from_be_bytes-to_be_bytes_4 piece is.0.0, from_be_bytes-to_be_bytes_4 begin is.0.1, from_be_bytes-to_be_bytes_4 len is.0.2)
read_back (messages.Piece piece begin block) bytes is =
    ap read is.1 ∙ rw (from_be_bytes-to_be_bytes_4 piece is.0.0, from_be_bytes-to_be_bytes_4 begin is.0.1)
read_back (messages.Cancel piece begin len) bytes is =
    ap read is.1 ∙ rw (from_be_bytes-to_be_bytes_4 piece is.0.0, from_be_bytes-to_be_bytes_4 begin is.0.1, from_be_bytes-to_be_bytes_4 len is.0.2)

-- one message has this body
pub same_message : (m other : Message) (bytes : List ℕ) → IsBody m bytes → IsBody other bytes → m ≡ other
same_message m other bytes is also = sym (read_back m bytes is) ∙ read_back other bytes also
