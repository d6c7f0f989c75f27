use Rattle.std.proofs.Common.{◌≡◌, ◌≤◌, ◌==◌, ◌∙◌, Bool, ap, arith, false, length, refl, sym}
use Rattle.std.specs.List.{list_any}
use Rattle.std.proofs.lemmas.List.{take_all}
use Rattle.bt_meta.specs.declared.block.Block.{Block}
use Rattle.bt_tables.specs.Delays.{LineState}
use Rattle.bt_tables.proofs.Flagged.{all_stay, flagged_none}
use Rattle.bt_tables.proofs.Forgetting.{filter_all}
use Rattle.bt_tables.proofs.line.Line.remove_piece.Goals as goal

pub loop-index-init : goal.loop-index-init
loop-index-init c = (refl, refl, refl, refl)

pub loop-index-smaller : goal.loop-index-smaller
loop-index-smaller c = c.pass_by-index.ensures.smaller

pub loop-index-preserved : goal.loop-index-preserved
loop-index-preserved c = (
  c.pass_by-index.ensures.room ∙ c.loop-index.invariant.0,
  c.pass_by-index.ensures.asked ∙ c.loop-index.invariant.1,
  c.pass_by-index.ensures.overdue ∙ c.loop-index.invariant.2,
  c.pass_by-index.ensures.passed c.loop-index.invariant.3,
)

pub returns : goal.returns
returns c =
    let l = c.loop-index.self in
    let o = c.self.inside in
    let test : Block → Bool = λ b. c.args.piece == b.piece in
    let all : length l.asked ≤ c.loop-index.index =
    (let same = ap (λ (line : LineState). length line.asked) c.self.view_is in omega (arith, same, c.loop-index-test.false, c.len.ensures)) in
    let asked = all_stay test l.asked c.loop-index.index all c.loop-index.invariant.3 in
    let none : list_any test l.asked ≡ false = ap (list_any test) (sym (take_all c.loop-index.index l.asked all)) ∙ c.loop-index.invariant.3 in
    let none_late : list_any test l.overdue ≡ false =
    ap (λ (line : LineState). list_any test line.overdue) (sym c.self.view_is)
    ∙ flagged_none test o.blocks.items o.flags.items (ap (λ (line : LineState). list_any test line.asked) c.self.view_is ∙ none) in
    λ i. record {
      room = c.loop-index.invariant.0 i;
      asked = (sym asked ∙ c.loop-index.invariant.1) i;
      overdue = (sym (filter_all test l.overdue none_late) ∙ c.loop-index.invariant.2) i;
    }
