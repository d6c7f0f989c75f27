use Rattle.std.proofs.Common.{sym, ◌∙◌, refl}
use Rattle.bt_bencode.proofs.Results.{same_pair}
use Rattle.bt_bencode.proofs.Standing.{value_inside, stands, string_stands, no_string_stands}
use Rattle.bt_bencode.proofs.value.Value.as_text.Goals as goal

pub bounds-self-inside-self-inside : goal.bounds-self-inside-self-inside
bounds-self-inside-self-inside c =
    let v = c.self.inside in value_inside v.room v.source.now v.start v.end c.self.invariant.read

pub returns-then-not-is_ascii_digit : goal.returns-then-not-is_ascii_digit
returns-then-not-is_ascii_digit c =
    let v = c.self.inside in
    let there = stands v.room v.source.now v.start v.end c.self.invariant.read in
    let digit = sym c.is_ascii_digit.ensures.value ∙ c.if-not-is_ascii_digit.true in
    rw (← c.self.view_is) (sym (no_string_stands v.room v.source.now v.start _ v.end digit there))

pub returns-in-Ok : goal.returns-in-Ok
returns-in-Ok c =
    let v = c.self.inside in
    let there = stands v.room v.source.now v.start v.end c.self.invariant.read in
    let digit = sym c.is_ascii_digit.ensures.value ∙ c.if-not-is_ascii_digit.false in
    let bytes = string_stands v.room v.source.now v.start _ v.end digit there in
    let same = (same_pair _ _ _ _ (c.in-Ok.ensures.read ∙ bytes.1)).0 in
    rw (← c.self.view_is, bytes.2, ← same) refl

pub returns-in-Err : goal.returns-in-Err
returns-in-Err c =
    let v = c.self.inside in
    let there = stands v.room v.source.now v.start v.end c.self.invariant.read in
    let digit = sym c.is_ascii_digit.ensures.value ∙ c.if-not-is_ascii_digit.false in
    let bytes = string_stands v.room v.source.now v.start _ v.end digit there in
    let no = c.in-Err.ensures.read ∙ bytes.1 in
    absurd cc
