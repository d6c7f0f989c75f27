use Rattle.std.proofs.Common.{◌≡◌, ◌++◌, ◌+◌, ◌≤◌, map, vec_len, vec_capacity}
use Rattle.std.specs.Prelude.{◌||◌}
use Rattle.std.specs.List.{list_any}
use Rattle.std.specs.Vec.Iter.{into_iter_items, into_iter_len}
use Rattle.bt_session.proofs.worked.part_checkers.Given as goal

abbrev pub invariant-loop-checker : goal.invariant-loop-checker
invariant-loop-checker g l = record {
  workers : l.workers.items ++ map (λ c. c.worker) (into_iter_items l.checker-iterator)
      ≡ l.fn.workers.items ++ map (λ c. c.worker) l.fn.all.items;
  room : vec_len l.workers + into_iter_len l.checker-iterator ≤ vec_capacity l.workers;
  same : vec_capacity l.workers ≡ vec_capacity l.fn.workers;
  given_up : (l.any || list_any (λ p. p.given_up) (into_iter_items l.checker-iterator)) ≡ list_any (λ p. p.given_up) l.fn.all.items;
}
