use Rattle.std.proofs.Common.{List, ℕ, ap, ◌∙◌}
use Rattle.std.specs.Prelude.{replicate}
use Rattle.bt_wire.specs.declared.hello.Hello.{Hello}
use Rattle.bt_wire.specs.Messages.{handshake}
use Rattle.bt_peer.specs.Writer.{greeting}
use Rattle.bt_peer.proofs.handshake.greeting.Goals as goal

abbrev hello : List ℕ → List ℕ → Hello
hello infohash id = record { reserved = replicate 8 0; infohash = infohash; peer_id = id }

pub returns : goal.returns
unfolding greeting
returns c = c.write.ensures ∙ ap (λ (id : List ℕ). handshake (hello c.args.infohash.now id)) c.peer_id.ensures
