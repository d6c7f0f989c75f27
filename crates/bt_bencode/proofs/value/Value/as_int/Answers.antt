use Rattle.std.proofs.Common.{sym, ◌∙◌, rules}
use Rattle.bt_bencode.proofs.Results.{same_pair}
use Rattle.bt_bencode.proofs.Standing.{value_inside, stands, integer_stands, no_integer_stands}
use Rattle.bt_bencode.proofs.value.Value.as_int.Goals as goal

pub bounds-self-inside-self-inside : goal.bounds-self-inside-self-inside
bounds-self-inside-self-inside c =
    let v = c.self.inside in value_inside v.room v.source.now v.start v.end c.self.invariant.read

pub returns-then-self-ne105 : goal.returns-then-self-ne105
returns-then-self-ne105 c =
    let v = c.self.inside in
    let there = stands v.room v.source.now v.start v.end c.self.invariant.read in
    rw (← c.self.view_is) (sym (no_integer_stands v.room v.source.now v.start _ v.end c.if-self-ne105.true there))

pub returns-in-Ok : goal.returns-in-Ok
returns-in-Ok c =
    let v = c.self.inside in
    let there = stands v.room v.source.now v.start v.end c.self.invariant.read in
    let number = integer_stands v.room v.source.now v.start _ v.end c.if-self-ne105.false there in
    let same = (same_pair _ _ _ _ (c.in-Ok.ensures.read ∙ number.1)).0 in
    rw (← c.self.view_is, number.2, ← same) (search rules)

pub returns-in-Err : goal.returns-in-Err
returns-in-Err c =
    let v = c.self.inside in
    let there = stands v.room v.source.now v.start v.end c.self.invariant.read in
    let number = integer_stands v.room v.source.now v.start _ v.end c.if-self-ne105.false there in
    let no = c.in-Err.ensures.read ∙ number.1 in
    absurd cc
