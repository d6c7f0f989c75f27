use Rattle.std.proofs.Common.{◌∙◌, ◌<◌, arith, ap, length, get_or, set, List, ℕ}
use Rattle.bt_tables.specs.Stripes.{stripe}
use Rattle.bt_tables.specs.Tables.{edit}
use Rattle.bt_tables.proofs.Striped.{length_written, written, written_all, written_more, written_none}
use Rattle.bt_tables.proofs.Tabled.{length_edit, table_self}
use Rattle.bt_tables.proofs.stripes.Stripes.write.Goals as goal

pub loop-place-init : goal.loop-place-init
loop-place-init c = written_none c.args.self.now c.args.row _

pub put-requires-clause-row : goal.put-requires-clause-row
put-requires-clause-row c =
    let same = length_edit c.args.self.now c.args.row (written c.loop-place.place (λ k. get_or c.args.bytes.now k 0)) in
    omega (arith, c.requires.row, ap length c.loop-place.invariant, same)

pub put-requires-clause-place : goal.put-requires-clause-place
put-requires-clause-place c =
    let is = ap (λ (rows : List (List ℕ)). length (stripe rows c.args.row)) c.loop-place.invariant in
    let long = length_written c.args.self.now c.args.row c.loop-place.place (λ k. get_or c.args.bytes.now k 0) c.requires.row in
    omega (arith, is, long, c.loop-place-test.true, c.width-place-end.ensures c.args.row c.requires.row)

pub loop-place-preserved : goal.loop-place-preserved
loop-place-preserved c =
    let k = c.loop-place.place in
    let g : ℕ → ℕ = λ k. get_or c.args.bytes.now k 0 in
    let within : c.loop-place.place < length (stripe c.args.self.now c.args.row) =
    omega (arith, c.loop-place-test.true, c.width-place-end.ensures c.args.row c.requires.row) in
    c.put.ensures ∙ (ap (λ (rows : List (List ℕ)). edit rows c.args.row (λ bs. set bs k (g k))) c.loop-place.invariant
    ∙ written_more c.args.self.now c.args.row k g c.requires.row within)

pub returns : goal.returns
returns c =
    c.loop-place.invariant
    ∙ written_all c.args.self.now c.args.row c.loop-place.place (λ k. get_or c.args.bytes.now k 0) (λ old. c.args.bytes.now) c.requires.row
    (omega (arith, c.loop-place-test.false, c.width-place-end.ensures c.args.row c.requires.row))
    (table_self _ c.args.bytes.now 0 c.requires.width)
