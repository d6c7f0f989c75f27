use Rattle.std.proofs.Common.{◌≡◌, ◌≤◌, ◌∙◌, Bool, List, true, false, refl, ap, arith, sym}
use mir.Val.{bool_byte}
use Rattle.bt_tables.specs.Showing.{Dealings, showing}
use Rattle.bt_tables.specs.Tables.{PeerState, expects_at, one_if, peer_row}
use Rattle.bt_tables.proofs.Forgetting.{forgotten, others_spared}
use Rattle.bt_tables.proofs.Showing.{row_prompt, worker_within}
use Rattle.bt_tables.proofs.peers.Peers.forget.Goals as goal

byte : (x : Bool) → bool_byte x ≡ one_if x
byte true = refl
byte false = refl

pub forget_late-requires-clause-others : goal.forget_late-requires-clause-others
forget_late-requires-clause-others c =
    let w = c.args.worker in
    let row = peer_row c.args.self.now w in
    let expected : c.expects.result ≡ expects_at c.args.piece c.args.begin row =
    c.expects.ensures ∙ ap (λ (r : Dealings). expects_at c.args.piece c.args.begin (showing row.shows r)) c.row.ensures in
    let few : c.args.askers ≤ one_if (expects_at c.args.piece c.args.begin row) =
    (let is : c.from.result ≡ one_if (expects_at c.args.piece c.args.begin row) = c.from.ensures ∙ (byte c.expects.result ∙ ap one_if expected) in
    omega (arith, is, c.if-askers-from.false)) in
    others_spared c.args.self.now w c.args.piece c.args.begin c.args.askers c.requires.worker c.requires.askers few

pub returns-else-self : goal.returns-else-self
returns-else-self c =
    let w = c.args.worker in
    let o = c.self.inside in
    let row = peer_row c.args.self.now w in
    let expected : c.expects.result ≡ expects_at c.args.piece c.args.begin row =
    c.expects.ensures ∙ ap (λ (r : Dealings). expects_at c.args.piece c.args.begin (showing row.shows r)) c.row.ensures in
    let few : c.args.askers ≤ one_if (expects_at c.args.piece c.args.begin row) =
    (let is : c.from.result ≡ one_if (expects_at c.args.piece c.args.begin row) = c.from.ensures ∙ (byte c.expects.result ∙ ap one_if expected) in
    omega (arith, is, c.if-askers-from.false)) in
    c.forget_at.ensures ∙ forgotten c.args.self.now w c.args.piece c.args.begin c.requires.worker (λ q lq apart.
    others_spared c.args.self.now w c.args.piece c.args.begin c.args.askers c.requires.worker c.requires.askers few q lq apart
    (ap (λ (rows : List PeerState). (peer_row rows q).overdue) (sym c.self.view_is)
    ∙ row_prompt o.rows.items o.shows o.delayed o.apart q c.self.invariant c.if-self.false
    (worker_within o.rows.items o.shows _ q c.self.view_is c.self.invariant.each lq)))
