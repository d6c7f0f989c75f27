use Rattle.std.proofs.Common.{◌∙◌, arith, sym}
use Rattle.std.proofs.lemmas.Bool.{not-true}
use Rattle.bt_history.specs.declared.event.Action.TheVariants.{Arrived}
use Rattle.bt_history.proofs.Allowed.{worker_below}
use Rattle.bt_picker.proofs.Allowing.{counts_unrefused}
use Rattle.bt_picker.proofs.Entered.{arrival_askers, arrival_block, cause_none, entered_counted, entered_refusal, lines_short}
use Rattle.bt_picker.proofs.entries.enter_block.Goals as goal

pub returns-then-is_refusal-clause-are : goal.returns-then-is_refusal-clause-are
returns-then-is_refusal-clause-are c =
    entered_refusal _ _ c.args.worker (Arrived c.args.piece c.args.begin c.args.bytes.now.bytes) c.args.reply c.requires.are c.requires.allowed
    (not-true _ (sym c.is_refusal.ensures ∙ c.if-is_refusal.true))

pub put_arrival-requires-clause-worker : goal.put_arrival-requires-clause-worker
put_arrival-requires-clause-worker c =
    let lw = worker_below _ _ _ c.requires.allowed in omega (arith, lw, c.requires.are.peers_len)

pub put_arrival-requires-clause-stored : goal.put_arrival-requires-clause-stored
put_arrival-requires-clause-stored c storing =
    let call = Arrived c.args.piece c.args.begin c.args.bytes.now.bytes in
    let cause = cause_none c.args.tables.now.setting c.args.past.now.entries c.args.worker call c.args.reply c.requires.allowed
    (counts_unrefused _ _ c.is_refusal.ensures c.if-is_refusal.false) in
    arrival_block _ _ c.requires.are c.args.worker c.args.piece c.args.begin c.args.bytes.now.bytes cause

pub put_arrival-requires-clause-askers : goal.put_arrival-requires-clause-askers
put_arrival-requires-clause-askers c storing =
    let call = Arrived c.args.piece c.args.begin c.args.bytes.now.bytes in
    let cause = cause_none c.args.tables.now.setting c.args.past.now.entries c.args.worker call c.args.reply c.requires.allowed
    (counts_unrefused _ _ c.is_refusal.ensures c.if-is_refusal.false) in
    arrival_askers _ _ c.requires.are c.args.worker c.args.piece c.args.begin c.args.bytes.now.bytes cause

pub put_arrival-requires-clause-room : goal.put_arrival-requires-clause-room
put_arrival-requires-clause-room c = lines_short _ _ c.requires.are

pub put_arrival-requires-clause-sender : goal.put_arrival-requires-clause-sender
put_arrival-requires-clause-sender c =
    let lw = worker_below _ _ _ c.requires.allowed in omega (arith, lw, c.requires.are.few)

pub returns-clause-are : goal.returns-clause-are
returns-clause-are c =
    rw c.put_arrival.ensures
    (entered_counted _ _ c.args.worker c.requires.are (Arrived c.args.piece c.args.begin c.args.bytes.now.bytes) c.args.reply c.requires.allowed
    (counts_unrefused _ _ c.is_refusal.ensures c.if-is_refusal.false))
