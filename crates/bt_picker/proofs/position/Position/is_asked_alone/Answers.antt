use Rattle.std.proofs.Common.{◌≡◌, ◌==◌, ◌&&◌, ◌∙◌, Bool, true, false, not, ap, refl, sym}
use Rattle.std.proofs.lemmas.Bool.{and_from, eq-eqb}
use Rattle.bt_meta.specs.Layout.{block}
use Rattle.bt_history.specs.History.{same_begin}
use Rattle.bt_history.specs.Legal.{place_at}
use Rattle.bt_history.specs.Peers.{expected}
use Rattle.bt_history.specs.Pieces.{asker_count, is_late_at_some}
use Rattle.bt_picker.proofs.Epochs.{alone_at}
use Rattle.bt_picker.proofs.position.Position.is_asked_alone.Goals as goal

pub returns-then-expects : goal.returns-then-expects
returns-then-expects c =
    let s = c.args.self.now.setting in
    let h = c.args.self.now.history in
    let b = block s.torrent c.args.piece c.index_at-index.result in
    let at : same_begin (place_at c.args.piece c.args.begin) b ≡ true =
    and_from (c.args.piece == b.piece) (c.args.begin == b.begin) (eq-eqb c.args.piece c.args.piece refl)
    (eq-eqb c.args.begin b.begin c.index_at-index.ensures.1) in
    let expects : expected h c.args.worker b ≡ true = ap (expected h c.args.worker) (sym c.block.ensures) ∙ (sym c.expects.ensures ∙ c.if-expects.true) in
    c.has_lone_asker.ensures
    ∙ sym (alone_at s h c.args.worker c.args.piece c.args.begin b at ∙ ap (λ (x : Bool). x && ((asker_count s h b == 1) && not (is_late_at_some s h b))) expects)

pub returns-else-expects : goal.returns-else-expects
returns-else-expects c =
    let s = c.args.self.now.setting in
    let h = c.args.self.now.history in
    let b = block s.torrent c.args.piece c.index_at-index.result in
    let at : same_begin (place_at c.args.piece c.args.begin) b ≡ true =
    and_from (c.args.piece == b.piece) (c.args.begin == b.begin) (eq-eqb c.args.piece c.args.piece refl)
    (eq-eqb c.args.begin b.begin c.index_at-index.ensures.1) in
    let expects : expected h c.args.worker b ≡ false = ap (expected h c.args.worker) (sym c.block.ensures) ∙ (sym c.expects.ensures ∙ c.if-expects.false) in
    c.if-expects.false
    ∙ sym (alone_at s h c.args.worker c.args.piece c.args.begin b at ∙ ap (λ (x : Bool). x && ((asker_count s h b == 1) && not (is_late_at_some s h b))) expects)
