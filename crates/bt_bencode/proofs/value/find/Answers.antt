use Rattle.std.proofs.Common.{◌∙◌, sym, arith}
use Rattle.bt_bencode.proofs.Results.{ok_is, same_pair}
use Rattle.bt_bencode.proofs.Left.{search_inside, search_ends, search_meets}
use Rattle.bt_bencode.proofs.value.find.Goals as goal

pub bounds-source-place : goal.bounds-source-place
bounds-source-place c = search_inside c.args.room c.args.source.now c.loop-place.place c.args.key.now _ c.loop-place.invariant

pub string-requires : goal.string-requires
string-requires c =
    omega (arith, search_inside c.args.room c.args.source.now c.loop-place.place c.args.key.now _ c.loop-place.invariant)

pub returns-in_default : goal.returns-in_default
returns-in_default c =
    let meets = search_meets c.args.room c.args.source.now c.loop-place.place c.args.key.now _ c.loop-place-test.true c.loop-place.invariant in
    let no = c.in_default.ensures.read ∙ meets.name_is in
    absurd cc

pub returns-in_default-skip : goal.returns-in_default-skip
returns-in_default-skip c =
    let meets = search_meets c.args.room c.args.source.now c.loop-place.place c.args.key.now _ c.loop-place-test.true c.loop-place.invariant in
    let key = same_pair _ _ _ _ (c.in-Ok.ensures.read ∙ meets.name_is) in
    let no = rw key.1 at c.in_default-skip.ensures.read ∙ meets.value_is in
    absurd cc

pub returns-then-eq : goal.returns-then-eq
returns-then-eq c =
    let meets = search_meets c.args.room c.args.source.now c.loop-place.place c.args.key.now _ c.loop-place-test.true c.loop-place.invariant in
    let key = same_pair _ _ _ _ (c.in-Ok.ensures.read ∙ meets.name_is) in
    let same = sym c.eq.ensures ∙ c.if-eq.true in
    rw key.1 (sym (meets.here (rw key.0 at same)))

pub loop-place-preserved : goal.loop-place-preserved
loop-place-preserved c =
    let meets = search_meets c.args.room c.args.source.now c.loop-place.place c.args.key.now _ c.loop-place-test.true c.loop-place.invariant in
    let key = same_pair _ _ _ _ (c.in-Ok.ensures.read ∙ meets.name_is) in
    let other = sym c.eq.ensures ∙ c.if-eq.false in
    let read = rw key.1 at c.in-Ok-skip.ensures.read in
    let behind = ok_is _ _ (read ∙ meets.value_is) in
    rw behind (meets.further (rw key.0 at other))

pub returns : goal.returns
returns c = sym (search_ends c.args.room c.args.source.now c.loop-place.place c.args.key.now _ c.loop-place-test.false c.loop-place.invariant)
