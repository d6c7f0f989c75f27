use Rattle.std.proofs.Common.{◌≡◌, ◌∙◌, arith}
use Rattle.bt_bencode.specs.Grammar.{Spells}
use Rattle.bt_bencode.specs.Placed.{placed}
use Rattle.bt_bencode.proofs.TreeRead.{IsRead, each_ok, result_read, spelled_again}
use Rattle.bt_bencode.proofs.value.Value.of.Goals as goal

pub returns-clause-found : goal.returns-clause-found
returns-clause-found c =
    let source = c.args.source.now in
    each_ok (IsRead source) (λ t. Spells t source) c.whole.result (λ t x. x.spells)
    (result_read source c.whole.result (omega arith) c.whole.ensures)

pub returns-clause-spans : goal.returns-clause-spans
returns-clause-spans c =
    let source = c.args.source.now in
    each_ok (IsRead source) (λ t. placed 0 t ≡ t) c.whole.result (λ t x. x.spans)
    (result_read source c.whole.result (omega arith) c.whole.ensures)

pub returns-clause-parts : goal.returns-clause-parts
returns-clause-parts c =
    let source = c.args.source.now in
    each_ok (IsRead source) _ c.whole.result (λ t x. x.parts) (result_read source c.whole.result (omega arith) c.whole.ensures)

pub returns-clause-only : goal.returns-clause-only
returns-clause-only c = λ t spells. c.whole.ensures ∙ spelled_again c.args.source.now t spells
