use Rattle.std.proofs.Common.{arith, sym, ◌-◌}
use Rattle.std.proofs.lemmas.Result.{err_from_is_err_and}
use Rattle.bt_bencode.specs.Reading.{value_at}
use Rattle.bt_bencode.proofs.Skips.{skip_rules, end_items_deep, end_entries_deep, skips_begin, skips_end, skips_out, skips_fail, skips_more}
use Rattle.bt_bencode.proofs.Skips.{entry_skips_begin, entry_skips_end, entry_skips_out, entry_skips_bad_key, entry_skips_fail, entry_skips_more}
use Rattle.bt_bencode.proofs.value.skipping.+skip.Goals as goal

pub skip_items-loop-place-init : goal.skip_items-loop-place-init
skip_items-loop-place-init t c = record {
  some = omega arith;
  low = omega arith;
  high = c.requires.place;
  left = skips_begin c.args.room c.args.source.now c.args.at (omega arith);
}

pub skip_items-returns-then-source-place-eq101-clause-read : goal.skip_items-returns-then-source-place-eq101-clause-read
skip_items-returns-then-source-place-eq101-clause-read t c = sym
    (skips_end (value_at (c.args.room - 1) c.args.source.now) c.args.source.now c.loop-place.place _
    c.loop-place-test.true c.if-source-place-eq101.true c.loop-place.invariant.left)

pub skip_items-returns-in_err-place-clause-read : goal.skip_items-returns-in_err-place-clause-read
skip_items-returns-in_err-place-clause-read t c =
    let p = err_from_is_err_and c.from_residual.result c.from_residual.ensures.1 in
    rw (p.1, p.2)
    (sym
    (skips_fail c.in_err-place.field-0.0 (value_at (c.args.room - 1) c.args.source.now) c.args.source.now c.loop-place.place _
    c.loop-place-test.true c.if-source-place-eq101.false (sym c.in_err-place.ensures.read) c.loop-place.invariant.left))

pub skip_items-loop-place-preserved : goal.skip_items-loop-place-preserved
skip_items-loop-place-preserved t c = record {
  some = c.loop-place.invariant.some;
  low = omega (arith, c.in_ok-place.ensures.end);
  high = c.in_ok-place.ensures.end.1;
  left = skips_more (value_at (c.args.room - 1) c.args.source.now) c.args.source.now c.loop-place.place _ c.in_ok-place.place
      c.loop-place-test.true c.if-source-place-eq101.false (sym c.in_ok-place.ensures.read) c.in_ok-place.ensures.end.0
      c.loop-place.invariant.left;
}

pub skip_items-returns-clause-read : goal.skip_items-returns-clause-read
skip_items-returns-clause-read t c = sym
    (skips_out (value_at (c.args.room - 1) c.args.source.now) c.args.source.now c.loop-place.place _ c.loop-place-test.false
    c.loop-place.invariant.left)

pub skip_items-returns-then-room-eq0-clause-read : goal.skip_items-returns-then-room-eq0-clause-read
skip_items-returns-then-room-eq0-clause-read t c = sym (end_items_deep c.args.room c.args.source.now c.args.at c.if-room-eq0.true)

pub skip_entries-returns-then-room-eq0-clause-read : goal.skip_entries-returns-then-room-eq0-clause-read
skip_entries-returns-then-room-eq0-clause-read t c = sym (end_entries_deep c.args.room c.args.source.now c.args.at c.if-room-eq0.true)

pub skip_entries-loop-place-init : goal.skip_entries-loop-place-init
skip_entries-loop-place-init t c = record {
  some = omega arith;
  low = omega arith;
  high = c.requires.place;
  left = entry_skips_begin c.args.room c.args.source.now c.args.at (omega arith);
}

pub skip_entries-returns-then-source-place-eq101-clause-read : goal.skip_entries-returns-then-source-place-eq101-clause-read
skip_entries-returns-then-source-place-eq101-clause-read t c = sym
    (entry_skips_end (value_at (c.args.room - 1) c.args.source.now) c.args.source.now _ c.loop-place.place _
    c.loop-place-test.true c.if-source-place-eq101.true c.loop-place.invariant.left)

pub skip_entries-returns-in_err-key-clause-read : goal.skip_entries-returns-in_err-key-clause-read
skip_entries-returns-in_err-key-clause-read t c =
    let p = err_from_is_err_and c.from_residual.result c.from_residual.ensures.1 in
    rw (p.1, p.2)
    (sym
    (entry_skips_bad_key c.in_err-key.field-0.0 (value_at (c.args.room - 1) c.args.source.now) c.args.source.now _
    c.loop-place.place _ c.loop-place-test.true c.if-source-place-eq101.false (sym c.in_err-key.ensures.read)
    c.loop-place.invariant.left))

pub skip_entries-returns-in_err-place-clause-read : goal.skip_entries-returns-in_err-place-clause-read
skip_entries-returns-in_err-place-clause-read t c =
    let p = err_from_is_err_and c.from_residual-in_err-place.result c.from_residual-in_err-place.ensures.1 in
    rw (p.1, p.2)
    (sym
    (entry_skips_fail c.in_err-place.field-0.0 (value_at (c.args.room - 1) c.args.source.now) c.args.source.now _
    c.loop-place.place _ c.in_ok-key.key.now c.in_ok-key.start c.loop-place-test.true c.if-source-place-eq101.false
    (sym c.in_ok-key.ensures.read) (sym c.in_err-place.ensures.read) c.loop-place.invariant.left))

pub skip_entries-loop-place-preserved : goal.skip_entries-loop-place-preserved
skip_entries-loop-place-preserved t c = record {
  some = c.loop-place.invariant.some;
  low = omega (arith, c.in_ok-place.ensures.end, c.in_ok-key.ensures.end);
  high = c.in_ok-place.ensures.end.1;
  left = entry_skips_more (value_at (c.args.room - 1) c.args.source.now) c.args.source.now _ c.loop-place.place _
      c.in_ok-key.key.now c.in_ok-key.start c.in_ok-place.place c.loop-place-test.true c.if-source-place-eq101.false
      (sym c.in_ok-key.ensures.read) (sym c.in_ok-place.ensures.read)
      (omega (arith, c.in_ok-place.ensures.end, c.in_ok-key.ensures.end)) c.loop-place.invariant.left;
}

pub skip_entries-returns-clause-read : goal.skip_entries-returns-clause-read
skip_entries-returns-clause-read t c = sym
    (entry_skips_out (value_at (c.args.room - 1) c.args.source.now) c.args.source.now _ c.loop-place.place _
    c.loop-place-test.false c.loop-place.invariant.left)

pub skip-returns-then-at-source-clause-read : goal.skip-returns-then-at-source-clause-read
skip-returns-then-at-source-clause-read t c = grind (arith, skip_rules)

pub skip-returns-in_err-integer-in-105-clause-read : goal.skip-returns-in_err-integer-in-105-clause-read
skip-returns-in_err-integer-in-105-clause-read t c = grind (arith, skip_rules)

pub skip-returns-in_err-string-in_default-clause-read : goal.skip-returns-in_err-string-in_default-clause-read
skip-returns-in_err-string-in_default-clause-read t c = grind (arith, skip_rules)

pub skip-returns-in_ok-integer-in-105-clause-read : goal.skip-returns-in_ok-integer-in-105-clause-read
skip-returns-in_ok-integer-in-105-clause-read t c = grind (arith, skip_rules)

pub skip-returns-in-108-clause-read : goal.skip-returns-in-108-clause-read
skip-returns-in-108-clause-read t c = grind (arith, skip_rules)

pub skip-returns-in-100-clause-read : goal.skip-returns-in-100-clause-read
skip-returns-in-100-clause-read t c = grind (arith, skip_rules)

pub skip-returns-in_ok-string-in_default-clause-read : goal.skip-returns-in_ok-string-in_default-clause-read
skip-returns-in_ok-string-in_default-clause-read t c = grind (arith, skip_rules)

pub skip-returns-in_default-2-clause-read : goal.skip-returns-in_default-2-clause-read
skip-returns-in_default-2-clause-read t c = grind (arith, skip_rules)
