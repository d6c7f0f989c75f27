use Rattle.std.proofs.Common.{◌≡◌, ◌∙◌, [], ◌∷◌, Bool, List, ap, arith, false, length, refl, sym}
use Rattle.std.specs.Prelude.{nat_lt}
use Rattle.std.proofs.lemmas.Bool.{false≢true, lt-ltb}
use Rattle.bt_meta.specs.declared.block.Block.{Block}
use Rattle.bt_tables.specs.Showing.{Dealings}
use Rattle.bt_tables.specs.Tables.{fresh_peer, peer_row, without_block}
use Rattle.bt_tables.proofs.Tabled.{edit_unmoved}
use Rattle.bt_tables.proofs.peers.Peers.forget_late_at.Goals as goal

none : (bs : List Block) → nat_lt 0 (length bs) ≡ false → bs ≡ []
none [] is = refl
none (b ∷ bs) is = absurd (false≢true (sym is ∙ lt-ltb 0 (length (b ∷ bs)) (omega arith)))

pub returns-else-has_late : goal.returns-else-has_late
returns-else-has_late c =
    let row = peer_row c.args.self.now c.args.worker in
    let said = sym (ap (λ (r : Dealings). nat_lt 0 (length r.overdue)) c.row.ensures) ∙ (sym c.has_late.ensures ∙ c.if-has_late.false) in
    sym (edit_unmoved c.args.self.now c.args.worker (without_block c.args.piece c.args.begin c.args.own) (fresh_peer 0 0) c.requires.worker
    (ap (λ (x : Bool). without_block c.args.piece c.args.begin x row) c.if-own.false ∙ c.requires.other c.if-own.false (none row.overdue said)))
