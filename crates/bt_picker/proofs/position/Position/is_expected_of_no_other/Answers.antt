use Rattle.std.proofs.Common.{◌≡◌, ◌≢◌, ◌∙◌, ◌==◌, ℕ, zero, suc, Bool, true, false, arith, refl, sym}
use Rattle.std.specs.Prelude.{nat_le}
use Rattle.std.proofs.lemmas.Bool.{lt-leb, ne_eqb}
use Rattle.bt_meta.specs.Layout.{block}
use Rattle.bt_history.specs.Peers.{expected}
use Rattle.bt_history.proofs.Below.{few_others, one_if}
use Rattle.bt_picker.proofs.position.Position.is_expected_of_no_other.Goals as goal

-- one is as few as there are where the peer itself is one
one_is_own : (own : Bool) → own ≡ nat_le 1 (one_if own)
one_is_own true = refl
one_is_own false = refl

many : (n : ℕ) → (suc (suc n) == 0) ≡ false
many n = ne_eqb (suc (suc n)) 0 (λ same. omega (arith, same))

-- none is fewer, and more are of others
none_or_others : (n : ℕ) (own : Bool) → n ≢ 1 → (n == 0) ≡ nat_le n (one_if own)
none_or_others zero true apart = refl
none_or_others zero false apart = refl
none_or_others (suc zero) own apart = absurd (apart refl)
none_or_others (suc (suc n)) true apart = many n ∙ sym (lt-leb (suc (suc n)) 1 (omega arith))
none_or_others (suc (suc n)) false apart = many n ∙ sym (lt-leb (suc (suc n)) 0 (omega arith))

pub returns-then-askers-eq1 : goal.returns-then-askers-eq1
returns-then-askers-eq1 c =
    let d = c.args.self.now in
    let expects : ℕ → Bool = λ q. expected d.history q (block d.setting.torrent c.args.piece c.args.index) in
    c.expects_newly.ensures ∙ (one_is_own (expects c.args.worker)
    ∙ ((λ i. nat_le ((sym c.if-askers-eq1.true ∙ c.asker_count-askers.ensures) i) (one_if (expects c.args.worker)))
    ∙ few_others d.setting.workers expects c.args.worker c.requires.worker))

pub returns-else-askers-eq1 : goal.returns-else-askers-eq1
returns-else-askers-eq1 c =
    let d = c.args.self.now in
    let expects : ℕ → Bool = λ q. expected d.history q (block d.setting.torrent c.args.piece c.args.index) in
    none_or_others c.asker_count-askers.result (expects c.args.worker) c.if-askers-eq1.false
    ∙ ((λ i. nat_le (c.asker_count-askers.ensures i) (one_if (expects c.args.worker)))
    ∙ few_others d.setting.workers expects c.args.worker c.requires.worker)
