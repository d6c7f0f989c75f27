use Rattle.std.proofs.Common.{None, Some, refl}
use Rattle.bt_picker.proofs.Choices.{continuing_ruled}
use Rattle.bt_picker.proofs.Leading.{going_found}
use Rattle.bt_picker.proofs.Levelled.{none_in_order_at}
use Rattle.bt_picker.proofs.position.Position.going_on.Goals as goal

pub returns-in-Some-clause-some : goal.returns-in-Some-clause-some
returns-in-Some-clause-some c =
    let d = c.args.self.now in
    let found = (going_found d.setting d.history c.args.worker c.args.level c.requires.above c.args.piece c.requires.within c.requires.first
    c.attest.ensures.legal c.attest.ensures.layout c.requires.level c.requires.near c.requires.leads c.args.word (Some c.in-Some.block) c.in-Some.ensures).0 in
    continuing_ruled d.setting d.history c.args.worker c.requires.may
    (none_in_order_at d.setting d.history c.args.worker c.args.level c.requires.above c.requires.unordered) c.in-Some.block found.0 found.1

pub returns-in-Some-clause-picked : goal.returns-in-Some-clause-picked
returns-in-Some-clause-picked c =
    let d = c.args.self.now in
    (going_found d.setting d.history c.args.worker c.args.level c.requires.above c.args.piece c.requires.within c.requires.first
    c.attest.ensures.legal c.attest.ensures.layout c.requires.level c.requires.near c.requires.leads c.args.word (Some c.in-Some.block) c.in-Some.ensures).0.2

pub returns-in-None-clause-none : goal.returns-in-None-clause-none
returns-in-None-clause-none c =
    let d = c.args.self.now in
    absurd ((going_found d.setting d.history c.args.worker c.args.level c.requires.above c.args.piece c.requires.within c.requires.first
    c.attest.ensures.legal c.attest.ensures.layout c.requires.level c.requires.near c.requires.leads c.args.word None c.in-None.ensures).1 refl)
