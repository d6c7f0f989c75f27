use Rattle.std.proofs.Common.{◌≡◌, ◌<◌, ◌+◌, ◌++◌, ◌∷◌, ℕ, List, [], length, take, Some, slice_get, sym, ap, ◌∙◌, refl, arith}
use Rattle.std.proofs.lemmas.Grind.{common_steps}
use Rattle.std.proofs.lemmas.List.{take_all}
use Rattle.std.proofs.lemmas.Option.{none-some, slice_get_past, slice_get_read}
use Rattle.bt_history.specs.Entries.{event_of, history_of}
use Rattle.bt_history.specs.Logs.{marks_of, mark_of}
use Rattle.bt_history.proofs.Journals.{mark_next, mark_skip, marks_take, take_step}
use Rattle.bt_shared.proofs.Comparing.{apart_at, differs, goes_on, same_at}
use Rattle.bt_history.specs.declared.call.Entry.{Entry}
use Rattle.bt_history.specs.declared.mark.Mark.{Mark}
use Rattle.bt_shared.proofs.compare.first_difference.Goals as goal
use Rattle.bt_shared.proofs.compare.first_difference.Goals.{then-entry-worker+else-next-log+else-ne, else-entry-worker}
use Rattle.bt_shared.proofs.compare.first_difference.Goals.{then-next-log-via-then-next-log, then-next-log-via-else-next-log+then-ne}

-- an entry of the worker leaves one mark more than the log has up to it
one_mark_more : (j : List Entry) (worker k n : ℕ) (e : Entry) (log : List Mark) → slice_get j k ≡ Some e → e.worker ≡ worker
    → take n log ≡ marks_of (history_of (take k j)) worker
    → marks_of (history_of (take (k + 1) j)) worker ≡ take n log ++ mark_of k (event_of e) ∷ []
one_mark_more j worker k n e log at own same =
    mark_next j worker k e at own ∙ ap (λ ms. ms ++ mark_of k (event_of e) ∷ []) (sym same)

-- the entry stands at its place of the journal
entry_at : (c : goal.Joined-then-next-log) → slice_get c.args.journal.now c.loop-place.place ≡ Some c.index-journal-place.result
entry_at c = slice_get_read c.args.journal.now _ _ _ refl c.loop-place-test.true c.index-journal-place.is

-- the marks of the worker are the log so far, the entry's, and later ones
later : (c : goal.Joined-then-next-log) → (more : List Mark) × (marks_of (history_of c.args.journal.now) c.args.worker
    ≡ (take c.loop-place.next c.args.log.now ++ mark_of c.loop-place.place (event_of c.index-journal-place.result) ∷ []) ++ more)
later c =
    let j = c.args.journal.now in
    let k = c.loop-place.place in
    let e = c.index-journal-place.result in
    let more = marks_take j (k + 1) c.args.worker in
    let here = one_mark_more j c.args.worker k c.loop-place.next e c.args.log.now (entry_at c) c.if-entry-worker.true c.loop-place.invariant.same in
    (more.0, more.1 ∙ ap (λ ms. ms ++ more.0) here)

-- but the log has no such mark next
lacking : (c : goal.Joined-then-next-log) → ¬ (slice_get c.args.log.now c.loop-place.next
    ≡ Some (mark_of c.loop-place.place (event_of c.index-journal-place.result)))
lacking c = elim c.then-next-log.branch [
  | then-next-log-via-then-next-log w ↦
      let past = slice_get_past c.args.log.now c.loop-place.next (omega (arith, w.if-next-log.true)) in
      λ alike. none-some _ (sym past ∙ alike)
  | then-next-log-via-else-next-log+then-ne w ↦
      let within : c.loop-place.next < length c.args.log.now = omega (arith, c.loop-place.invariant.within, w.if-next-log.false) in
      λ alike. apart_at c.args.log.now c.loop-place.next _ w.mark_at.result within (sym w.ne.ensures ∙ w.if-ne.true)
      (alike ∙ ap Some (sym w.mark_at.ensures))
]

pub returns-then-next-log-clause-some : goal.returns-then-next-log-clause-some
returns-then-next-log-clause-some c =
    differs c.args.log.now c.loop-place.next c.loop-place.invariant.within _ (marks_of (history_of c.args.journal.now) c.args.worker) (later c).0
    (later c).1 (lacking c)

pub loop-place-preserved : goal.loop-place-preserved
loop-place-preserved c =
    let j = c.args.journal.now in
    let k = c.loop-place.place in
    let at = slice_get_read j (length j) k c.index-journal-place.result refl c.loop-place-test.true c.index-journal-place.is in
    let old = c.loop-place.invariant in
    elim c.if-entry-worker.branch [
      | then-entry-worker+else-next-log+else-ne w ↦
          let log = c.args.log.now in
          let within : c.loop-place.next < length log = omega (arith, old.within, w.if-next-log.false) in
          let is = same_at log c.loop-place.next _ w.mark_at.result within (sym w.ne.ensures ∙ w.if-ne.false) ∙ ap Some w.mark_at.ensures in
          rw w.next-is record {
            within = omega (arith, within);
            same = take_step log _ _ is ∙ sym (one_mark_more j c.args.worker k c.loop-place.next _ log at w.if-entry-worker.true old.same);
          }
      | else-entry-worker w ↦ rw w.next-is record {
        within = old.within;
        same = old.same ∙ sym (mark_skip j c.args.worker k c.index-journal-place.result at w.if-entry-worker.false);
      }
    ]

pub returns-then-next-log-2-clause-some : goal.returns-then-next-log-2-clause-some
returns-then-next-log-2-clause-some c =
    let j = c.args.journal.now in
    let old = c.loop-place.invariant in
    let all = ap (λ entries. marks_of (history_of entries) c.args.worker) (take_all c.loop-place.place j c.loop-place-test.false) in
    goes_on c.args.log.now c.loop-place.next old.within (marks_of (history_of j) c.args.worker) (sym (old.same ∙ all)) c.if-next-log-2.true

pub returns-else-next-log-2-clause-none : goal.returns-else-next-log-2-clause-none
returns-else-next-log-2-clause-none c = grind (arith, common_steps)
