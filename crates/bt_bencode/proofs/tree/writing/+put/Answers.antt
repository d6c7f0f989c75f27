use Rattle.std.proofs.Common.{◌≡◌, suc, refl, arith}
use Rattle.std.proofs.lemmas.Grind.{common_steps}
use Rattle.bt_bencode.specs.Term.{depth, depth_of_terms, depth_of_entries}
use Rattle.bt_bencode.specs.View.{terms_from, entries_from}
use Rattle.bt_bencode.proofs.Depths.{depth_of_item, depth_of_value}
use Rattle.bt_bencode.proofs.tree.writing.+put.Goals as goal

pub put-put_items-requires : goal.put-put_items-requires
put-put_items-requires t c =
    let d : depth c.args.tree.now ≡ suc (depth_of_terms (terms_from c.in-List.items.items)) = rw (← c.tree.view_is, c.in-List.is) refl in
    (rw c.deref-in-List.ensures.value (omega arith), tt)

pub put-put_entries-requires : goal.put-put_entries-requires
put-put_entries-requires t c =
    let d : depth c.args.tree.now ≡ suc (depth_of_entries (entries_from c.in-Dict.entries.items)) = rw (← c.tree.view_is, c.in-Dict.is) refl in
    (rw c.deref-in-Dict.ensures.value (omega arith), tt)

pub put_items-put-requires : goal.put_items-put-requires
put_items-put-requires t c =
    (omega (arith, depth_of_item c.args.items.now c.loop-item.item-index c.item-item.result c.loop-item-test.true c.item-item.is), tt)

pub put_entries-put-requires : goal.put_entries-put-requires
put_entries-put-requires t c = (
  omega (arith, depth_of_value c.args.entries.now c.loop-key.key-index c.loop-key-item.result c.loop-key-test.true c.loop-key-item.is),
  tt,
)

pub put-returns-in-Int : goal.put-returns-in-Int
put-returns-in-Int t c = grind (arith, common_steps)

pub put-returns-in_ok-push-in-List-2 : goal.put-returns-in_ok-push-in-List-2
put-returns-in_ok-push-in-List-2 t c = grind (arith, common_steps)

pub put-returns-in_ok-push-in-Dict-2 : goal.put-returns-in_ok-push-in-Dict-2
put-returns-in_ok-push-in-Dict-2 t c = grind (arith, common_steps)

pub put_entries-loop-key-preserved : goal.put_entries-loop-key-preserved
put_entries-loop-key-preserved t c = grind (arith, common_steps)

pub put_entries-returns : goal.put_entries-returns
put_entries-returns t c = grind (arith, common_steps)

pub put_items-loop-item-preserved : goal.put_items-loop-item-preserved
put_items-loop-item-preserved t c = grind (arith, common_steps)

pub put_items-returns : goal.put_items-returns
put_items-returns t c = grind (arith, common_steps)
