use Rattle.std.proofs.Common.{rules, ◌≡◌, sym, ap, ◌∙◌, arith}
use Rattle.std.proofs.lemmas.List.{take_all}
use Rattle.std.proofs.lemmas.Slice.{overwrites}
use Rattle.sha1.specs.Sha1.{digest_bytes}
use Rattle.sha1.proofs.Absorbing.{digest_more}
use Rattle.bt_check.proofs.four.digest_of.Goals as goal

pub loop-i-init : goal.loop-i-init
unfolding digest_bytes
loop-i-init c = search rules

pub loop-i-preserved : goal.loop-i-preserved
loop-i-preserved c = (
  search (rules, overwrites),
  digest_more c.loop-i.out c.words_of-words.result _ c.loop-i.i _ c.loop-i.invariant.1 (omega arith)
      (c.copy_from_slice.ensures.after ∙ c.to_be_bytes.ensures),
)

pub returns : goal.returns
returns c =
    let done : c.loop-i.i ≡ 5 = omega arith in
    sym (take_all 20 c.loop-i.out (omega arith)) ∙ rw done at c.loop-i.invariant.1
    ∙ ap (λ h. digest_bytes h 5) c.words_of-words.ensures
