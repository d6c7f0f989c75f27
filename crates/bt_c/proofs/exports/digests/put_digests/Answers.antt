use Rattle.std.proofs.Common.{rules, ◌≡◌, ◌+◌, ◌-◌, ◌*◌, length, drop, [], arith, ◌∙◌, length-drop}
use Rattle.std.proofs.lemmas.List.{get_or_default, length-take-le}
use Rattle.std.proofs.lemmas.Slice.{overwrites, take-put_mid}
use Rattle.bt_check.proofs.Blocks.{concat_more}
use Rattle.bt_c.proofs.exports.digests.put_digests.Goals as goal

pub loop-i-preserved : goal.loop-i-preserved
loop-i-preserved c =
    let i = c.loop-i.i in
    let buffer = c.loop-i.buffer in
    let digest = c.copy_from_slice.new.self in
    let long : length buffer ≡ 80 = c.loop-i.invariant.0 in
    let part = length-take-le (20 * i + 20 - 20 * i) (drop (20 * i) buffer) (omega (arith, length-drop (20 * i) buffer)) in
    let wide : length digest ≡ 20 = omega (arith, c.copy_from_slice.ensures.len, part) in
    let is = c.copy_from_slice.ensures.after ∙ get_or_default c.args.digests.now i [] digest (omega (arith, c.told-digests)) in (
      search (rules, overwrites),
      rw (take-put_mid (20 * i) (20 * i + 20 - 20 * i) buffer digest (20 * (i + 1)) (omega (arith, wide)) (omega arith), c.loop-i.invariant.1)
          (concat_more c.args.digests.now i digest (omega (arith, c.told-digests)) is),
    )
