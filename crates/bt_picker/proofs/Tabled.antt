-- What the crates above cite of the lemmas of the tables' own `Tabled`.
pub use Rattle.bt_tables.proofs.Tabled.{edit_same, edit_set, get_or_edit_other, get_or_edit_same, get_or_is_table, length_edit, length_table}
pub use Rattle.bt_tables.proofs.Tabled.{table_from}
