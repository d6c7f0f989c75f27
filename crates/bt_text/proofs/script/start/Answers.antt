use Rattle.std.proofs.Common.{◌≡◌, ◌+◌, ◌∙◌, ℕ, map, subst, sym, arith}
use Rattle.std.proofs.lemmas.Grind.{common_steps}
use Rattle.bt_text.specs.Scripts.{MaySetRules}
use Rattle.bt_text.proofs.Taken.{takes_front}
use Rattle.bt_text.proofs.script.start.Goals as goal

pub returns-clause-starts : goal.returns-clause-starts
returns-clause-starts c =
    let texts = map (λ x. x.now) c.args.lines.now in
    let first = c.in-Some.first in
    let is = c.in-Some.ensures in
    let part = c.in_ok-rules.field-0 in
    let pieces : c.piece_count-pieces.result ≡ c.in_ok-player.player.pieces =
    c.piece_count-pieces.ensures.count ∙ sym c.in_ok-player.ensures.pieces in
    record {
      first = first;
      within = is.1;
      blank = is.2;
      opens = record {
        setup = c.in_ok-setup.setup;
        said = rw c.line_at.ensures at c.in_ok-setup.ensures.ok;
        workers = c.in_ok-player.ensures.workers;
        pieces = c.in_ok-player.ensures.pieces;
      };
      rules = part.rules;
      may_set = subst (λ (p : ℕ). MaySetRules texts p (first + 1) part.rules part.next) pieces c.in_ok-rules.ensures.ok;
    }

pub returns-clause-takes : goal.returns-clause-takes
returns-clause-takes c =
    let texts = map (λ x. x.now) c.args.lines.now in
    let first = c.in-Some.first in
    let is = c.in-Some.ensures in
    let part = c.in_ok-rules.field-0 in
    let said = rw c.line_at.ensures at c.in_ok-setup.ensures.ok in
    let may_set =
    subst (λ (p : ℕ). MaySetRules texts p (first + 1) part.rules part.next) c.piece_count-pieces.ensures.count c.in_ok-rules.ensures.ok in
    takes_front texts first c.in_ok-setup.setup part.rules part.next c.in_ok-player.player.desk is.1 is.2 said may_set
    (record { setting = c.in_ok-player.ensures.setting; history = c.in_ok-player.ensures.history })

pub line_at-requires : goal.line_at-requires
line_at-requires c = grind (arith, common_steps)

pub open-requires : goal.open-requires
open-requires c = grind (arith, common_steps)
