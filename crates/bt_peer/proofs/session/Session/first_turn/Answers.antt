use Rattle.std.proofs.Common.{ap, ◌∙◌, List, ℕ, refl, rules}
use Rattle.bt_peer.specs.Writer.{greeting}
use Rattle.bt_peer.proofs.Failing.{session_fails_first}
use Rattle.bt_peer.proofs.session.Session.first_turn.Goals as goal

pub returns-in-Err-clause-fails : goal.returns-in-Err-clause-fails
returns-in-Err-clause-fails g c =
    let hello = c.greeting-hello.ensures ∙ ap (λ (hash : List ℕ). greeting hash c.self.inside.worker) c.infohash.ensures in
    let fails = rw (c.said_by-said.ensures, ← c.self.view_is) at c.in-Err.ensures.err in
    session_fails_first c.in-Err.fault _ _ _ _ _ _ _ _ fails c.self.view_is hello c.requires.joined refl (search rules)
