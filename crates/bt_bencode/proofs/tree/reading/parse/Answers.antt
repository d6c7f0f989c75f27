use Rattle.std.proofs.Common.{◌≡◌, ℕ, ◌<◌, ◌^◌, List, length, arith, Ok, Err, Result, subst}
use Rattle.std.specs.Prelude.{IfOk}
use Rattle.bt_bencode.specs.declared.fault.BenFault.{BenFault}
use Rattle.bt_bencode.specs.Term.{Term}
use Rattle.bt_bencode.specs.Grammar.{Spells}
use Rattle.bt_bencode.specs.Placed.{placed}
use Rattle.bt_bencode.specs.Reading.{Gives, tree_of}
use Rattle.bt_bencode.proofs.TreeRead.{IsRead, tree_read, spelled_again, each_ok}
use Rattle.bt_bencode.proofs.tree.reading.parse.Goals as goal

given_read : (source : List ℕ) (r : Result Term BenFault) → length source < 2 ^ 64 → Gives (λ t. t) r (tree_of source) →
    IfOk r (λ t. IsRead source t)
given_read source (Ok t) small given = tree_read source t small given
given_read source (Err fault) small given = tt

pub returns-clause-found : goal.returns-clause-found
returns-clause-found c =
    let source = c.args.source.now in
    each_ok (IsRead source) (λ t. Spells t source) c.whole.result (λ t x. x.spells)
    (given_read source c.whole.result (omega arith) c.whole.ensures)

pub returns-clause-spans : goal.returns-clause-spans
returns-clause-spans c =
    let source = c.args.source.now in
    each_ok (IsRead source) (λ t. placed 0 t ≡ t) c.whole.result (λ t x. x.spans)
    (given_read source c.whole.result (omega arith) c.whole.ensures)

pub returns-clause-parts : goal.returns-clause-parts
returns-clause-parts c =
    let source = c.args.source.now in
    each_ok (IsRead source) _ c.whole.result (λ t x. x.parts) (given_read source c.whole.result (omega arith) c.whole.ensures)

pub returns-clause-only : goal.returns-clause-only
returns-clause-only c = λ t spells.
    subst (λ f. Gives (λ r. r) c.whole.result f) (spelled_again c.args.source.now t spells) c.whole.ensures
