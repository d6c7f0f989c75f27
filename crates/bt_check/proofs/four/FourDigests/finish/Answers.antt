use Rattle.std.proofs.Common.{refl, ◌∙◌}
use Rattle.bt_check.proofs.HoldingLemmas.{Holds_digests}
use Rattle.bt_check.proofs.four.FourDigests.finish.Goals as goal

pub returns : goal.returns
returns c = λ k l m n held.
    let padded = c.update-2.ensures _ _ _ _ (c.update.ensures k l m n held) in
    let are = Holds_digests c.args.self c.update-2.new.self k l m n _ _ held padded c.padding-pad.ensures c.to_be_bytes-bits.ensures in
    rw (c.digest_of.ensures ∙ are.0, c.digest_of-2.ensures ∙ are.1, c.digest_of-3.ensures ∙ are.2, c.digest_of-4.ensures ∙ are.3) refl
