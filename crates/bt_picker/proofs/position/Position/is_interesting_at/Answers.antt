use Rattle.std.proofs.Common.{arith, sym, ◌∙◌}
use Rattle.bt_picker.proofs.Interest.{found_interests, listed_interests, missing_interests}
use Rattle.bt_picker.proofs.Stages.{group_within}
use Rattle.bt_tables.specs.declared.piece.Stage.TheVariants.{AskedOut, Open}
use Rattle.bt_picker.proofs.position.Position.is_interesting_at.Goals as goal

pub some_shown-requires-clause-pieces : goal.some_shown-requires-clause-pieces
some_shown-requires-clause-pieces c =
    let d = c.args.self.now in
    group_within d.setting d.history _ c.group.result.now c.group.ensures

pub returns-in-Some-clause-yes : goal.returns-in-Some-clause-yes
returns-in-Some-clause-yes c is =
    let d = c.args.self.now in
    listed_interests d.setting d.history c.args.worker c.args.level AskedOut c.in-Some.field-0 c.group.result.now c.attest.ensures.legal
    c.requires.level (omega arith) c.group.ensures c.in-Some.ensures

pub some_shown-requires-2-clause-pieces : goal.some_shown-requires-2-clause-pieces
some_shown-requires-2-clause-pieces c =
    let d = c.args.self.now in
    group_within d.setting d.history _ c.group-2.result.now c.group-2.ensures

pub returns-in-Some-some_shown-clause-yes : goal.returns-in-Some-some_shown-clause-yes
returns-in-Some-some_shown-clause-yes c is =
    let d = c.args.self.now in
    listed_interests d.setting d.history c.args.worker c.args.level Open c.in-Some-some_shown.field-0 c.group-2.result.now c.attest.ensures.legal
    c.requires.level (omega arith) c.group-2.ensures c.in-Some-some_shown.ensures

pub returns-clause-yes : goal.returns-clause-yes
returns-clause-yes c is =
    let d = c.args.self.now in
    found_interests d.setting d.history c.args.worker c.args.level c.candidate.result c.candidate.ensures.least c.candidate.ensures.within
    (sym c.is_some.ensures ∙ is)

pub returns-clause-no : goal.returns-clause-no
returns-clause-no c is =
    let d = c.args.self.now in
    missing_interests d.setting d.history c.args.worker c.args.level c.group.result.now c.group-2.result.now c.candidate.result
    c.requires.prompt c.group.ensures
    c.group-2.ensures c.in_default.ensures c.in_default-some_shown.ensures c.candidate.ensures.least (sym c.is_some.ensures ∙ is)
