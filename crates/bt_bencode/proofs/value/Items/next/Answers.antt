use Rattle.std.proofs.Common.{◌∙◌, arith}
use Rattle.bt_bencode.proofs.Results.{ok_is}
use Rattle.bt_bencode.proofs.Left.{left_inside, none_left, first_left}
use Rattle.bt_bencode.proofs.value.Items.next.Goals as goal

pub bounds-self-inside-start : goal.bounds-self-inside-start
bounds-self-inside-start c =
    let a = c.self.inside in left_inside a.room a.source.now a.place c.self.invariant

pub returns-then-self-start-eq101-clause-item : goal.returns-then-self-start-eq101-clause-item
returns-then-self-start-eq101-clause-item c =
    let a = c.self.inside in rw (← c.self.view_is) (none_left a.room a.source.now a.place c.self.invariant c.if-self-start-eq101.true)

pub returns-then-self-start-eq101-clause-end : goal.returns-then-self-start-eq101-clause-end
returns-then-self-start-eq101-clause-end c =
    let a = c.self.inside in rw (← c.self.view_is) (none_left a.room a.source.now a.place c.self.invariant c.if-self-start-eq101.true)

pub skip-requires-clause-place : goal.skip-requires-clause-place
skip-requires-clause-place c =
    let a = c.self.inside in omega (arith, left_inside a.room a.source.now a.place c.self.invariant)

pub returns-in_default-clause-item : goal.returns-in_default-clause-item
returns-in_default-clause-item c =
    let a = c.self.inside in
    let no = c.in_default.ensures.read ∙ (first_left a.room a.source.now a.place c.self.invariant c.if-self-start-eq101.false).first in
    absurd cc

pub returns-in_default-clause-end : goal.returns-in_default-clause-end
returns-in_default-clause-end c =
    let a = c.self.inside in
    let no = c.in_default.ensures.read ∙ (first_left a.room a.source.now a.place c.self.invariant c.if-self-start-eq101.false).first in
    absurd cc

pub invariant_of-self : goal.invariant_of-self
invariant_of-self c =
    let a = c.self.inside in
    let left = first_left a.room a.source.now a.place c.self.invariant c.if-self-start-eq101.false in
    let same = ok_is _ _ (c.in-Ok.ensures.read ∙ left.first) in
    rw same left.others

pub returns-clause-item : goal.returns-clause-item
returns-clause-item c =
    let a = c.self.inside in
    let left = first_left a.room a.source.now a.place c.self.invariant c.if-self-start-eq101.false in
    let same = ok_is _ _ (c.in-Ok.ensures.read ∙ left.first) in
    rw (← c.self.view_is, same) left.are
