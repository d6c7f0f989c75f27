use Rattle.std.proofs.Common.{◌≡◌, arith, refl, sym}
use Rattle.std.proofs.lemmas.Result.{err_from_is_err_and}
use Rattle.bt_bencode.specs.Term.{depth}
use Rattle.bt_bencode.specs.Reading.{value_at}
use Rattle.bt_bencode.proofs.Values.{value_rules}
use Rattle.bt_bencode.proofs.Lists.{depth_push, sound_push, depth_entries_push, sound_entries_push, rise_push}
use Rattle.bt_bencode.proofs.Loops.{fails_as, items_begin, items_end, items_out, items_fail, items_more, entries_begin, entries_end, entries_out}
use Rattle.bt_bencode.proofs.Loops.{entries_bad_key, entries_fail, entries_more, key_is}
use Rattle.bt_bencode.proofs.tree.reading.+value.Goals as goal

pub list_items-loop-place-init : goal.list_items-loop-place-init
list_items-loop-place-init t c = record {
  low = omega arith;
  high = c.requires.place;
  levels = rw c.new-items.ensures.items refl;
  bound = omega arith;
  sound = rw c.new-items.ensures.items tt;
  left = rw c.new-items.ensures.items (items_begin (value_at c.args.room c.args.source.now) c.args.source.now c.args.at);
}

pub list_items-returns-then-source-place-eq101-clause-read : goal.list_items-returns-then-source-place-eq101-clause-read
list_items-returns-then-source-place-eq101-clause-read t c =
    items_end (value_at c.args.room c.args.source.now) c.args.source.now c.loop-place.items.items c.loop-place.place _
    c.loop-place-test.true c.if-source-place-eq101.true c.loop-place.invariant.left

pub list_items-returns-in_err-item-clause-read : goal.list_items-returns-in_err-item-clause-read
list_items-returns-in_err-item-clause-read t c =
    let p = err_from_is_err_and c.from_residual.result c.from_residual.ensures.1 in
    rw (p.1, p.2)
    (items_fail c.in_err-item.field-0.0 (value_at c.args.room c.args.source.now) c.args.source.now c.loop-place.items.items
    c.loop-place.place _ c.loop-place-test.true c.if-source-place-eq101.false c.in_err-item.ensures.read c.loop-place.invariant.left)

pub list_items-loop-place-preserved : goal.list_items-loop-place-preserved
list_items-loop-place-preserved t c =
    let e = c.in_ok-push.ensures.items in
    let d : c.item.inside.levels ≡ depth c.in_ok-item.item = rw (← c.item.view_is) c.item.invariant.1 in
    record {
      low = omega (arith, c.in_ok-item.ensures.end);
      high = c.in_ok-item.ensures.end.1;
      levels = rw (e, depth_push) (omega (arith, c.max-levels.ensures));
      bound = omega (arith, c.in_ok-item.ensures.levels, c.max-levels.ensures);
      sound = rw e (sound_push _ _ c.loop-place.invariant.sound (rw (← c.item.view_is) c.item.invariant.0.0));
      left = rw e
          (items_more (value_at c.args.room c.args.source.now) c.args.source.now c.loop-place.items.items c.loop-place.place _
          c.in_ok-item.item c.in_ok-item.end c.loop-place-test.true c.if-source-place-eq101.false c.in_ok-item.ensures.read
          c.in_ok-item.ensures.end.0 c.loop-place.invariant.left);
    }

pub list_items-returns-clause-read : goal.list_items-returns-clause-read
list_items-returns-clause-read t c = items_out (value_at c.args.room c.args.source.now) c.args.source.now c.loop-place.items.items
    c.loop-place.place _ c.loop-place-test.false c.loop-place.invariant.left

pub dict_entries-loop-place-init : goal.dict_entries-loop-place-init
dict_entries-loop-place-init t c = record {
  low = omega arith;
  high = c.requires.place;
  levels = rw c.new-entries.ensures.items refl;
  bound = omega arith;
  rise = rw c.new-entries.ensures.items refl;
  sound = rw c.new-entries.ensures.items tt;
  left = rw c.new-entries.ensures.items (entries_begin (value_at c.args.room c.args.source.now) c.args.source.now c.args.at);
}

pub dict_entries-returns-then-source-place-eq101-clause-read : goal.dict_entries-returns-then-source-place-eq101-clause-read
dict_entries-returns-then-source-place-eq101-clause-read t c =
    entries_end (value_at c.args.room c.args.source.now) c.args.source.now c.loop-place.entries.items c.loop-place.place _
    c.loop-place-test.true c.if-source-place-eq101.true c.loop-place.invariant.left

pub dict_entries-returns-clause-read : goal.dict_entries-returns-clause-read
dict_entries-returns-clause-read t c = entries_out (value_at c.args.room c.args.source.now) c.args.source.now c.loop-place.entries.items
    c.loop-place.place _ c.loop-place-test.false c.loop-place.invariant.left

pub dict_entries-returns-in_err-key-clause-read : goal.dict_entries-returns-in_err-key-clause-read
dict_entries-returns-in_err-key-clause-read t c =
    let p = err_from_is_err_and c.from_residual.result c.from_residual.ensures.1 in
    let key = sym (rw (c.last_key.ensures, c.deref.ensures.value) at c.in_err-key.ensures.read) in
    rw (p.1, p.2)
    (fails_as _ _
    (entries_bad_key c.in_err-key.field-0.0 (value_at c.args.room c.args.source.now) c.args.source.now c.loop-place.entries.items
    c.loop-place.place _ c.loop-place-test.true c.if-source-place-eq101.false key c.loop-place.invariant.left))

pub dict_entries-returns-in_err-value-clause-read : goal.dict_entries-returns-in_err-value-clause-read
dict_entries-returns-in_err-value-clause-read t c =
    let p = err_from_is_err_and c.from_residual-in_err-value.result c.from_residual-in_err-value.ensures.1 in
    let key = sym (rw (c.last_key.ensures, c.deref.ensures.value) at c.in_ok-key.ensures.read) in
    rw (p.1, p.2)
    (entries_fail c.in_err-value.field-0.0 (value_at c.args.room c.args.source.now) c.args.source.now c.loop-place.entries.items
    c.loop-place.place _ c.in_ok-key.key.now c.in_ok-key.end c.loop-place-test.true c.if-source-place-eq101.false key
    c.in_err-value.ensures.read c.loop-place.invariant.left)

pub dict_entries-loop-place-preserved : goal.dict_entries-loop-place-preserved
dict_entries-loop-place-preserved t c =
    let is = sym (rw (c.last_key.ensures, c.deref.ensures.value) at c.in_ok-key.ensures.read) in
    let on_time = (key_is _ _ _ _ _ is).1 in
    let e = c.in_ok-push.ensures.items in
    let key = c.in_ok-from_slice.ensures.items in
    let d : c.value-in-loop-place.inside.levels ≡ depth c.in_ok-value.value =
    rw (← c.value-in-loop-place.view_is) c.value-in-loop-place.invariant.1 in
    record {
      low = omega (arith, c.in_ok-value.ensures.end, c.in_ok-key.ensures.end);
      high = c.in_ok-value.ensures.end.1;
      levels = rw (e, depth_entries_push) (omega (arith, c.max-levels.ensures));
      bound = omega (arith, c.in_ok-value.ensures.levels, c.max-levels.ensures);
      rise = rw e
          (rise_push c.loop-place.entries.items (c.in_ok-from_slice.field-0, c.in_ok-value.value) c.loop-place.invariant.rise
          (rw key on_time));
      sound = rw e
          (sound_entries_push c.loop-place.entries.items (c.in_ok-from_slice.field-0, c.in_ok-value.value) c.loop-place.invariant.sound
          (omega (arith, c.in_ok-from_slice.field-0.ok, c.in_ok-from_slice.field-0.small))
          (rw (← c.value-in-loop-place.view_is) c.value-in-loop-place.invariant.0.0));
      left = rw e
          (entries_more (value_at c.args.room c.args.source.now) c.args.source.now c.loop-place.entries.items c.loop-place.place _
          (c.in_ok-from_slice.field-0, c.in_ok-value.value) c.in_ok-key.end c.in_ok-value.end c.loop-place-test.true
          c.if-source-place-eq101.false (rw key is) c.in_ok-value.ensures.read
          (omega (arith, c.in_ok-value.ensures.end, c.in_ok-key.ensures.end)) c.loop-place.invariant.left);
    }

pub value-returns-then-at-source-clause-read : goal.value-returns-then-at-source-clause-read
value-returns-then-at-source-clause-read t c = grind (arith, value_rules)

pub value-returns-in-108-clause-read : goal.value-returns-in-108-clause-read
value-returns-in-108-clause-read t c = grind (arith, value_rules)

pub value-returns-in_err-read-in-108-2-clause-read : goal.value-returns-in_err-read-in-108-2-clause-read
value-returns-in_err-read-in-108-2-clause-read t c = grind (arith, value_rules)

pub value-returns-in_err-read-in-100-clause-read : goal.value-returns-in_err-read-in-100-clause-read
value-returns-in_err-read-in-100-clause-read t c = grind (arith, value_rules)

pub value-returns-in_err-number-in-105-clause-read : goal.value-returns-in_err-number-in-105-clause-read
value-returns-in_err-number-in-105-clause-read t c = grind (arith, value_rules)

pub value-returns-in_err-bytes-in_default-clause-read : goal.value-returns-in_err-bytes-in_default-clause-read
value-returns-in_err-bytes-in_default-clause-read t c = grind (arith, value_rules)

pub value-returns-in_default-2-clause-read : goal.value-returns-in_default-2-clause-read
value-returns-in_default-2-clause-read t c = grind (arith, value_rules)

pub value-returns-clause-read : goal.value-returns-clause-read
value-returns-clause-read t c = grind (arith, value_rules)
