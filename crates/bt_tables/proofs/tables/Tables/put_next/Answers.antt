use Rattle.std.proofs.Common.{◌≡◌, ap, ⊎_elim}
use Rattle.bt_history.specs.declared.call.Reply.TheVariants.{InFlight, Request}
use Rattle.bt_history.specs.History.{requested_by}
use Rattle.bt_tables.proofs.tables.Tables.put_next.Goals as goal

pub ask-requires-clause-room : goal.ask-requires-clause-room
ask-requires-clause-room c =
    c.requires.request c.in-Request.block
    (⊎_elim (λ (is : c.args.reply ≡ Request c.in-Request.block). ap requested_by is)
    (λ (is : c.args.reply ≡ InFlight c.in-Request.block). ap requested_by is) c.in-Request.is)
