use Rattle.std.proofs.Common.{rules, ◌≡◌, ◌∙◌, arith, inl, inr}
use Rattle.std.proofs.lemmas.Bool.{cases_lt}
use Rattle.std.proofs.lemmas.List.{get_or-set_same, get_or-set_other}
use Rattle.sha1.proofs.Schedule.{IsWindow_first}
use Rattle.bt_check.specs.Lanes.{lane, bytes_of}
use Rattle.bt_check.proofs.VectorLemmas.{lane-set, length-lane}
use Rattle.bt_check.proofs.compress.block_words.Goals as goal

pub loop-i-preserved : goal.loop-i-preserved
loop-i-preserved c = (
  search rules,
  λ j k lt below.
      let w = lane j c.loop-i.w in
      rw (lane-set j c.loop-i.w c.loop-i.i c.load.result) (elim (cases_lt k c.loop-i.i) [
        | inl before ↦ get_or-set_other w c.loop-i.i k _ 0 (omega arith) ∙ c.loop-i.invariant.1 j k lt before
        | inr after ↦
            let here : c.loop-i.i ≡ k = omega arith in
            rw (← here) (get_or-set_same w c.loop-i.i _ 0 (omega (arith, length-lane j c.loop-i.w)) ∙ c.load.ensures j lt)
      ]),
)

pub returns : goal.returns
returns c j lt =
    IsWindow_first (bytes_of j c.args.a.now c.args.b.now c.args.c.now c.args.d.now) (lane j c.loop-i.w)
    (length-lane j c.loop-i.w ∙ c.loop-i.invariant.0) (λ k below. c.loop-i.invariant.1 j k lt (omega arith))
