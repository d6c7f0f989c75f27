use Rattle.std.proofs.Common.{◌≡◌, ℕ, ◌<◌, true, false, vec_len, Some, slice_get}
use Rattle.bt_shared.specs.Passes.{newcomer}
use Rattle.bt_shared.proofs.shared_picker.SharedPicker.open.Given as goal

abbrev pub invariant-loop-worker : goal.invariant-loop-worker
invariant-loop-worker l = record {
  table : l.maker.table_id ≡ l.table.shared.table_id;
  makes : l.maker.me.0.maker ≡ true;
  live : l.maker.me.0.spent ≡ false;
  setting : l.maker.me.0.setting ≡ l.table.shared.key;
  next : l.maker.me.0.next ≡ l.worker;
  count : vec_len l.passes ≡ l.worker;
  fresh : (w : ℕ) → w < l.worker → slice_get l.passes.items w ≡ Some
      (newcomer (record { table = l.table.shared.table_id; setting = l.table.shared.key }) w);
}
