use Rattle.std.proofs.Common.{◌≡◌, List, length, sym, ap, subst, ◌∙◌, arith}
use Rattle.std.proofs.lemmas.Grind.{common_steps}
use Rattle.bt_meta.specs.Layout.{Layout, piece_count}
use Rattle.bt_session.proofs.Seats.{all_had, all_stand, are_of}
use Rattle.bt_shared.specs.Closing.{EachKnows}
use Rattle.bt_shared.specs.Gathering.{EachFrom}
use Rattle.bt_shared.specs.Passes.{PassState}
use Rattle.bt_session.proofs.commons.Commons.gather.Goals as goal

pub close-requires-clause-all : goal.close-requires-clause-all
close-requires-clause-all g c =
    all_stand c.args.workers.items c.in-Some.seat.view c.in-Some.ensures.takes c.self.inside.board.seats
    (c.requires.all ∙ sym c.self.invariant.seats) c.requires.some c.requires.order

pub returns-clause-logs : goal.returns-clause-logs
returns-clause-logs g c =
    subst (λ (passes : List PassState). EachFrom passes c.in_ok-gather.field-0.logs.items) c.join_seats.ensures.passes c.in_ok-gather.ensures.logs

pub returns-clause-had : goal.returns-clause-had
returns-clause-had g c =
    let wide : length c.in-Ok.bits ≡ piece_count g.L.RunName.setting.torrent =
    c.in-Ok.ensures.count ∙ ap (λ (t : Layout). piece_count t) c.self.invariant.board_torrent in
    all_had c.args.workers.items c.in-Some.seat.view c.in-Some.ensures.takes g.L.RunName.setting c.in_ok-gather.field-0.desk.history c.in-Ok.bits
    wide c.in-Ok.ensures.seen c.in_ok-gather.ensures.bits

pub gather-requires-clause-passes : goal.gather-requires-clause-passes
gather-requires-clause-passes g c =
    are_of c.self.inside.desk g.L.RunName.desk g.L.RunName.setting c.join_seats.new.passes.items c.self.invariant.desk_is
    c.self.invariant.desk_setting
    c.join_seats.ensures.named

pub returns-in_err-gather-clause-err : goal.returns-in_err-gather-clause-err
returns-in_err-gather-clause-err g c = grind (arith, common_steps)

pub returns-clause-legal : goal.returns-clause-legal
returns-clause-legal g c = grind (arith, common_steps)

pub returns-clause-seen : goal.returns-clause-seen
returns-clause-seen g c =
    subst (λ (passes : List PassState). EachKnows c.in_ok-gather.field-0.desk.history passes) c.join_seats.ensures.passes c.in_ok-gather.ensures.seen
