use Rattle.std.proofs.Common.{ℕ, ap, arith, length, sym, ◌∙◌}
use Rattle.bt_tables.specs.Showing.{Dealings, dealings}
use Rattle.bt_tables.specs.Tables.{fresh_peer}
use Rattle.bt_tables.proofs.Showing.{showing_fresh}
use Rattle.bt_tables.proofs.Tabled.{get_or_is_table, length_is_table, length_table}
use Rattle.bt_tables.proofs.peers.Peers.new.Goals as goal

pub invariant_of-result : goal.invariant_of-result
invariant_of-result c = record {
  each = ap length c.in_ok-new.ensures ∙ (length_table c.args.workers _ ∙ sym (ap length c.in_ok-new_rows.ensures ∙ length_table c.args.workers _));
  prompt = λ never w d lw.
      let rows = c.in_ok-new_rows.ensures in
      ap (λ (row : Dealings). row.overdue) (get_or_is_table _ c.args.workers (λ (v : ℕ). dealings (fresh_peer c.args.room 0)) w d rows
      (omega (arith, lw, length_is_table _ c.args.workers _ rows)));
  together = λ never w d lw.
      let rows = c.in_ok-new_rows.ensures in
      ap (λ (row : Dealings). row.alone) (get_or_is_table _ c.args.workers (λ (v : ℕ). dealings (fresh_peer c.args.room 0)) w d rows
      (omega (arith, lw, length_is_table _ c.args.workers _ rows)));
}

pub returns : goal.returns
returns c =
    showing_fresh c.args.workers c.args.room c.args.pieces _ _ c.in_ok-new_rows.ensures c.in_ok-new.ensures
