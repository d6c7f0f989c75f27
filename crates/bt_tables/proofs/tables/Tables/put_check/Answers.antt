use Rattle.std.proofs.Common.{◌≡◌, ◌∙◌, refl, ap, sym, Bool, false, List}
use Rattle.std.specs.Prelude.{if◌then◌else◌}
use Rattle.std.proofs.lemmas.Bool.{false_from_ne_true}
use Rattle.bt_history.specs.History.{is_had}
use Rattle.bt_history.specs.Setting.{setting_of}
use Rattle.bt_history.proofs.Allowed.{had_reply}
use Rattle.bt_tables.specs.Tables.{PieceState, had_row, failed_row, edit}
use Rattle.bt_tables.proofs.Changes.{with_pieces}
use Rattle.bt_tables.proofs.FloorSteps.{edit_stale}
use Rattle.bt_tables.proofs.tables.Tables.put_check.Goals as goal

pub invariant_of-self : goal.invariant_of-self
invariant_of-self c =
    let o = c.self.inside in
    let lp = rw (← c.self.view_is) at c.requires in
    rw c.apply.ensures (edit_stale o.floors o.peers o.pieces c.args.piece had_row c.self.invariant lp refl)

pub returns-in-Had : goal.returns-in-Had
returns-in-Had c =
    let o = c.self.inside in
    rw (← c.self.view_is, c.in-Had.is) (ap (λ (pieces : List PieceState). with_pieces (setting_of o.torrent.value.layout o.workers o.rules)
    o.order_from o.peers pieces) c.apply.ensures)

pub returns-in_default : goal.returns-in_default
returns-in_default c =
    let p = c.args.piece in
    let not_had : is_had c.args.reply ≡ false = false_from_ne_true (is_had c.args.reply) (λ is. c.in_default.not-Had (had_reply c.args.reply is)) in
    let t = c.args.self.now in
    c.change.ensures ∙ sym (ap (λ (x : Bool). record t { pieces = edit t.pieces p (if x then had_row else failed_row) }) not_had)
