use Rattle.std.proofs.Common.{◌-◌, ◌%◌, ◌≤◌, length, refl, ◌∙◌, arith}
use Rattle.std.proofs.lemmas.List.{length-take-le}
use Rattle.bt_check.specs.Lanes.{variables}
use Rattle.bt_check.specs.Holding.{tail_of}
use Rattle.bt_check.proofs.HoldingLemmas.{IsAbsorbed_put, Holds_append, Absorbs_parts, edge-front}
use Rattle.bt_check.proofs.four.FourDigests.update.Goals as goal

pub returns-then-used-eq0 : goal.returns-then-used-eq0
returns-then-used-eq0 c =
    Holds_append c.args.self.now _ c.args.a.now c.args.b.now c.args.c.now c.args.d.now c.requires.b c.requires.c c.requires.d
    c.extend.ensures.total (λ j m lt long used held. c.extend.ensures.lanes j m lt (omega arith) held)

pub returns-then-a-room : goal.returns-then-a-room
returns-then-a-room c =
    Holds_append c.args.self.now _ c.args.a.now c.args.b.now c.args.c.now c.args.d.now c.requires.b c.requires.c c.requires.d refl
    (λ j m lt long used held.
    IsAbsorbed_put (variables j c.args.self.now.hashes) (tail_of j c.args.self.now.tails) (tail_of j c.put.new.self) m _
    (c.args.self.now.total % 64) _ held used long (omega arith) (c.put.ensures j lt))

pub returns : goal.returns
returns c =
    Holds_append c.args.self.now _ c.args.a.now c.args.b.now c.args.c.now c.args.d.now c.requires.b c.requires.c c.requires.d
    (c.extend-2.ensures.total ∙ c.fill.ensures.total) (λ j m lt long used held.
    let room = 64 - c.args.self.now.total % 64 in
    let fits : room ≤ length c.args.a.now = omega arith in
    let first = c.fill.ensures.lanes j m lt (omega (arith, length-take-le room c.args.a.now fits)) held in
    let edge = edge-front c.args.a.now c.args.b.now c.args.c.now c.args.d.now j lt long m room fits (omega arith) in
    Absorbs_parts c.args.a.now c.args.b.now c.args.c.now c.args.d.now j lt long c.extend-2.new.self m room
    (c.extend-2.ensures.lanes j _ lt edge first))
