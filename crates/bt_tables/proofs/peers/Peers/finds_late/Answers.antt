use Rattle.std.proofs.Common.{◌≡◌, ◌∙◌, ℕ, ap, arith, length, sym, ⊎_elim}
use Rattle.std.proofs.lemmas.Bool.{cases_eq}
use Rattle.bt_history.proofs.Below.{any_found, any_none}
use Rattle.bt_tables.specs.Showing.{Dealings, showing}
use Rattle.bt_tables.specs.Tables.{is_late_at, peer_row}
use Rattle.bt_tables.proofs.peers.Peers.finds_late.Goals as goal

pub loop-index-init : goal.loop-index-init
loop-index-init c q lt = absurd (omega (arith, lt))

pub returns-then-is_late_with : goal.returns-then-is_late_with
returns-then-is_late_with c =
    let i = c.loop-index.index in
    let row = peer_row c.args.self.now i in
    let said = sym c.is_late_with.ensures ∙ c.if-is_late_with.true in
    sym (any_found (length c.args.self.now) (λ q. is_late_at c.args.piece c.args.begin (peer_row c.args.self.now q)) i
    (omega (arith, c.loop-index-test.true, c.len-index-end.ensures))
    (ap (λ (r : Dealings). is_late_at c.args.piece c.args.begin (showing row.shows r)) (sym c.row.ensures) ∙ said))

pub loop-index-preserved : goal.loop-index-preserved
loop-index-preserved c q lt =
    let i = c.loop-index.index in
    let row = peer_row c.args.self.now i in
    let said = sym c.is_late_with.ensures ∙ c.if-is_late_with.false in
    ⊎_elim
    (λ (here : q ≡ i).
    ap (λ (k : ℕ). is_late_at c.args.piece c.args.begin (peer_row c.args.self.now k)) here
    ∙ (ap (λ (r : Dealings). is_late_at c.args.piece c.args.begin (showing row.shows r)) (sym c.row.ensures) ∙ said))
    (λ (apart : q ≡ i → ⊥). c.loop-index.invariant q (omega (arith, lt, apart)))
    (cases_eq q i)

pub returns : goal.returns
returns c = sym (any_none (length c.args.self.now) (λ q. is_late_at c.args.piece c.args.begin (peer_row c.args.self.now q))
    (λ q lq. c.loop-index.invariant q (omega (arith, lq, c.loop-index-test.false, c.len-index-end.ensures))))
