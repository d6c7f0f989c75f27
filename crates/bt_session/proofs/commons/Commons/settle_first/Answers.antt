use Rattle.std.proofs.Common.{arith}
use Rattle.bt_session.proofs.Through.{first_in_a_row}
use Rattle.bt_session.proofs.commons.Commons.settle_first.Goals as goal

pub returns : goal.returns
returns g c =
    let v = c.args.four in
    let a = c.settle_or_not-first in
    let b = c.settle_or_not-second in
    let d = c.settle_if-third in
    let e = c.settle_if-fourth in
    first_in_a_row g.L.RunName.setting c.args.worker.now a.new.worker b.new.worker d.new.worker e.new.worker v.0.checked.piece v.1.checked.piece
    v.2.checked.piece v.3.checked.piece c.args.count a.result b.result d.result e.result c.requires.some a.ensures b.ensures d.ensures e.ensures

pub settle_or_not-second-requires : goal.settle_or_not-second-requires
settle_or_not-second-requires g c = c.requires.run 1 c.args.four.1 (omega arith)

pub settle_if-third-requires : goal.settle_if-third-requires
settle_if-third-requires g c = c.requires.run 2 c.args.four.2 (omega arith)

pub settle_if-fourth-requires : goal.settle_if-fourth-requires
settle_if-fourth-requires g c = c.requires.run 3 c.args.four.3 (omega arith)
