use Rattle.std.proofs.Common.{rules, subst, true}
use Rattle.bt_wire.specs.Stream.{InboundState, Gives}
use Rattle.bt_wire.proofs.Front.{gives}
use Rattle.bt_wire.proofs.inbound.Inbound.next.Goals as goal

pub returns-in-Ok-Some-clause-message : goal.returns-in-Ok-Some-clause-message
returns-in-Ok-Some-clause-message c =
    let front = c.in-Ok-Some in
    let inside = c.self.inside in
    let state : InboundState = record { limit = inside.limit; greeted = inside.greeted; bytes = inside.buffer; fault = inside.fault } in
    let left = c.advance.new.self in
    subst (λ (old : InboundState). Gives old front.message (record state { greeted = true; bytes = left })) c.self.view_is
    (gives state front.message front.len left (rw (← c.as_slice-2.ensures) (rw front.field-0-is at front.ensures.found).1) c.advance.ensures)

pub returns-in-Ok-None-clause-none : goal.returns-in-Ok-None-clause-none
returns-in-Ok-None-clause-none c = search rules fits 100

pub returns-in-Err : goal.returns-in-Err
returns-in-Err c = search rules fits 100
