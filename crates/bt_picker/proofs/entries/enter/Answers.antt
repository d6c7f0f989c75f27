use Rattle.std.proofs.Common.{arith, sym, ◌∙◌}
use Rattle.std.proofs.lemmas.Bool.{not-true}
use Rattle.bt_picker.specs.Told.{action_told}
use Rattle.bt_history.proofs.Allowed.{worker_below}
use Rattle.bt_picker.proofs.Allowing.{counts_unrefused}
use Rattle.bt_picker.proofs.Entered.{entered_counted, entered_refusal}
use Rattle.bt_picker.proofs.entries.enter.Goals as goal

pub returns-then-is_refusal-clause-are : goal.returns-then-is_refusal-clause-are
returns-then-is_refusal-clause-are c =
    entered_refusal _ _ c.args.worker (action_told c.args.told.now) c.args.reply c.requires.are c.requires.allowed
    (not-true _ (sym c.is_refusal.ensures ∙ c.if-is_refusal.true))

pub put-requires-clause-counts : goal.put-requires-clause-counts
put-requires-clause-counts c = counts_unrefused _ _ c.is_refusal.ensures c.if-is_refusal.false

pub put-requires-clause-worker : goal.put-requires-clause-worker
put-requires-clause-worker c =
    let lw = worker_below _ _ _ c.requires.allowed in omega (arith, lw, c.requires.are.peers_len)

pub returns-clause-are : goal.returns-clause-are
returns-clause-are c =
    rw c.put.ensures.entered
    (entered_counted _ _ c.args.worker c.requires.are (action_told c.args.told.now) c.args.reply c.requires.allowed
    (counts_unrefused _ _ c.is_refusal.ensures c.if-is_refusal.false))
