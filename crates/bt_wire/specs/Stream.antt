-- What stands at the front of a stream (a message, a fault, or neither yet), and which messages a stream is.
use Rattle.std.specs.Prelude.{◌≡◌, ◌≢◌, ℕ, ◌<◌, ◌≤◌, ◌^◌, ◌+◌, ◌==◌, nat_le, if◌then◌else◌, Bool, true, false, List, [], ◌∷◌, ◌++◌, length, take}
use Rattle.std.specs.Prelude.{Option, None}
use Rattle.std.specs.Int.{w32, from_be_bytes}
use Rattle.bt_wire.specs.declared.hello.Hello.{Hello}
use Rattle.bt_wire.specs.declared.message.Message.{Message}
use Rattle.bt_wire.specs.declared.message.Message.TheVariants as messages
use Rattle.bt_wire.specs.declared.message.WireFault.{WireFault}
use Rattle.bt_wire.specs.declared.message.WireFault.TheVariants as faults
use Rattle.bt_wire.specs.Messages.{protocol, handshake, body, frame}

-- the fields of a handshake have their lengths
pub record IsHello (h : Hello) : Type 0 where
  pub reserved : length h.reserved ≡ 8
  pub infohash : length h.infohash ≡ 20
  pub peer_id : length h.peer_id ≡ 20

-- each number of the message fits four bytes
abbrev pub NumbersFit : Message → Type 0
NumbersFit (messages.Have piece) = piece < 2 ^ 32
NumbersFit (messages.Request piece begin len) = (piece < 2 ^ 32) × (begin < 2 ^ 32) × (len < 2 ^ 32)
NumbersFit (messages.Piece piece begin bytes) = (piece < 2 ^ 32) × (begin < 2 ^ 32)
NumbersFit (messages.Cancel piece begin len) = (piece < 2 ^ 32) × (begin < 2 ^ 32) × (len < 2 ^ 32)
NumbersFit _ = Unit {0}

-- a frame with this body is this message; the payload of an unknown type is skipped
abbrev pub IsBody : Message → List ℕ → Type 0
IsBody (messages.Hello h) bytes = ⊥
IsBody (messages.Unknown type) bytes = (8 < type) × ((payload : List ℕ) × (bytes ≡ type ∷ payload))
IsBody m bytes = NumbersFit m × (bytes ≡ body m)

-- a length field that a message of this type may have
abbrev pub length_fits : ℕ → ℕ → Bool
length_fits type len =
    if nat_le type 3 then len == 1
    else if type == 4 then len == 5
    else if type == 5 then true
    else if type == 7 then nat_le 9 len
    else if nat_le type 8 then len == 13
    else true

-- a body of another length than its type has
abbrev pub IsMisfit : List ℕ → Type 0
IsMisfit [] = ⊥
IsMisfit (type ∷ payload) = length_fits type (length payload + 1) ≡ false

-- the text is this message: a handshake where none was given yet, else a frame within the limit
abbrev pub Spells : Bool → ℕ → Message → List ℕ → Type 0
Spells false limit (messages.Hello h) text = IsHello h × (text ≡ handshake h)
Spells false limit _ text = ⊥
Spells true limit m text = (bytes : List ℕ) × (IsBody m bytes × (length bytes ≤ limit) × (text ≡ frame bytes))

-- a lawful message stands at the front
abbrev pub HasMessage : Bool → ℕ → List ℕ → Type 0
HasMessage greeted limit bytes =
    (m : Message) × ((text : List ℕ) × ((rest : List ℕ) × (Spells greeted limit m text × (bytes ≡ text ++ rest))))

-- this fault stands at the front
abbrev pub HasFault : Bool → ℕ → List ℕ → WireFault → Type 0
-- 68 bytes that are no handshake
HasFault false limit bytes faults.BadHandshake = (68 ≤ length bytes) × (take 20 bytes ≢ protocol)
-- a length above the limit
HasFault true limit bytes faults.TooLong = (4 ≤ length bytes) × (limit < from_be_bytes w32 (take 4 bytes))
-- a whole frame within the limit of a known type, with another length than that type's
HasFault true limit bytes faults.BadLength =
    (text : List ℕ) × ((rest : List ℕ) × (IsMisfit text × (length text ≤ limit) × (bytes ≡ frame text ++ rest)))
HasFault _ limit bytes _ = ⊥

-- neither stands there yet
pub record HasNothing (greeted : Bool) (limit : ℕ) (bytes : List ℕ) : Type 0 where
  pub no_message : HasMessage greeted limit bytes → ⊥
  pub no_fault : (fault : WireFault) → HasFault greeted limit bytes fault → ⊥

-- the bytes are these messages, and then a rest
abbrev pub Begins : Bool → ℕ → List ℕ → List Message → List ℕ → Type 0
Begins greeted limit bytes [] rest = bytes ≡ rest
Begins greeted limit bytes (m ∷ ms) rest =
    (text : List ℕ) × ((after : List ℕ) × (Spells greeted limit m text × (bytes ≡ text ++ after) × Begins true limit after ms rest))

-- whether the handshake was given, after these messages
abbrev pub greeted_after : Bool → List Message → Bool
greeted_after greeted [] = greeted
greeted_after greeted (m ∷ ms) = true

-- the bytes are these messages, and then a rest at whose front no message stands
pub record Reads (greeted : Bool) (limit : ℕ) (bytes : List ℕ) (ms : List Message) (rest : List ℕ) : Type 0 where
  pub begins : Begins greeted limit bytes ms rest
  pub whole : HasMessage (greeted_after greeted ms) limit rest → ⊥

-- a whole stream: the handshake first
abbrev pub IsStream : ℕ → List ℕ → List Message → List ℕ → Type 0
IsStream limit bytes ms rest = Reads false limit bytes ms rest

-- what an Inbound keeps: the bytes given in no message, whether the handshake was given, and the fault that is given for good
pub record InboundState : Type 0 where
  pub limit : ℕ
  pub greeted : Bool
  pub bytes : List ℕ
  pub fault : Option WireFault

-- one to which nothing was fed
abbrev pub opened : ℕ → InboundState
opened limit = record { limit = limit; greeted = false; bytes = []; fault = None }

-- the message is given: its text is taken off the front
pub record Gives (old : InboundState) (m : Message) (new : InboundState) : Type 0 where
  pub text : List ℕ
  pub spells : Spells old.greeted old.limit m text
  pub bytes : old.bytes ≡ text ++ new.bytes
  pub after : new ≡ record old { greeted = true; bytes = new.bytes }
