-- One message stands at the front of a stream.
use Rattle.std.proofs.Common.{◌≡◌, ℕ, List, ◌++◌, ◌<◌, ◌^◌, true, false, Bool, length, ap, sym, refl, subst, ◌∙◌, arith, length-append}
use Rattle.bt_wire.specs.declared.hello.Hello.{Hello}
use Rattle.bt_wire.specs.declared.message.Message.{Message}
use Rattle.bt_wire.specs.declared.message.Message.TheVariants as messages
use Rattle.bt_wire.specs.Messages.{protocol, handshake, frame}
use Rattle.bt_wire.specs.Stream.{IsHello, IsBody, Spells}
use Rattle.bt_wire.proofs.Frames.{same_front, same_frame}
use Rattle.bt_wire.proofs.Bodies.{same_message}

-- a handshake by its fields
abbrev hello_of : List ℕ → List ℕ → List ℕ → Hello
hello_of reserved infohash peer_id = record { reserved = reserved; infohash = infohash; peer_id = peer_id }

-- two handshakes of the same bytes
same_fields : (h k : Hello) → IsHello h → IsHello k → handshake h ≡ handshake k → h ≡ k
same_fields h k is also same =
    let ids = same_front (protocol ++ h.reserved ++ h.infohash) (protocol ++ k.reserved ++ k.infohash) h.peer_id k.peer_id
    (simp length-append (omega (arith, is.reserved, is.infohash, also.reserved, also.infohash))) same in
    let hashes = same_front (protocol ++ h.reserved) (protocol ++ k.reserved) h.infohash k.infohash
    (simp length-append (omega (arith, is.reserved, also.reserved))) ids.0 in
    let reserved = same_front protocol protocol h.reserved k.reserved refl hashes.0 in
    ap (λ (field : List ℕ). hello_of field h.infohash h.peer_id) reserved.1
    ∙ ap (λ (field : List ℕ). hello_of k.reserved field h.peer_id) hashes.1
    ∙ ap (λ (field : List ℕ). hello_of k.reserved k.infohash field) ids.1

length-handshake : (h : Hello) → IsHello h → length (handshake h) ≡ 68
length-handshake h is = simp length-append (omega (arith, is.reserved, is.infohash, is.peer_id))

-- a message before the handshake was given is one
record Greets (m : Message) (text : List ℕ) : Type 0 where
  hello : Hello
  message : m ≡ messages.Hello hello
  is : IsHello hello
  text_is : text ≡ handshake hello

greets : (limit : ℕ) (m : Message) (text : List ℕ) → Spells false limit m text → Greets m text
greets limit (messages.Hello h) text is = record { hello = h; message = refl; is = is.0; text_is = is.1 }
greets limit _ text is = absurd is

same_greeting : (m other : Message) (text other_text after other_after : List ℕ) → Greets m text → Greets other other_text →
    text ++ after ≡ other_text ++ other_after → (m ≡ other) × (after ≡ other_after)
same_greeting m other text other_text after other_after is also same =
    let len : length text ≡ length other_text =
    ap length is.text_is ∙ length-handshake is.hello is.is ∙ sym (ap length also.text_is ∙ length-handshake also.hello also.is) in
    let both = same_front text other_text after other_after len same in
    let hellos : is.hello ≡ also.hello =
    same_fields is.hello also.hello is.is also.is (sym is.text_is ∙ both.0 ∙ also.text_is) in
    (is.message ∙ ap messages.Hello hellos ∙ sym also.message, both.1)

-- one message stands at a front
pub same_text : (greeted : Bool) (limit : ℕ) (m other : Message) (text other_text after other_after : List ℕ) → limit < 2 ^ 32 →
    Spells greeted limit m text → Spells greeted limit other other_text →
    text ++ after ≡ other_text ++ other_after → (m ≡ other) × (after ≡ other_after)
same_text false limit m other text other_text after other_after small is also same =
    same_greeting m other text other_text after other_after (greets limit m text is) (greets limit other other_text also) same
same_text true limit m other text other_text after other_after small is also same =
    let body = is.0 in
    let other_body = also.0 in
    let frames : frame body ++ after ≡ frame other_body ++ other_after =
    ap (λ (xs : List ℕ). xs ++ after) (sym is.1.2) ∙ same ∙ ap (λ (xs : List ℕ). xs ++ other_after) also.1.2 in
    let both = same_frame body other_body after other_after (omega (arith, is.1.1)) (omega (arith, also.1.1)) frames in
    (same_message m other other_body (subst (IsBody m) both.0 is.1.0) also.1.0, both.1)
