use Rattle.std.proofs.Common.{length, sym, ap, ◌∙◌, arith, List}
use Rattle.std.proofs.lemmas.Result.{err_from_is_err_and}
use Rattle.bt_bencode.specs.Term.{Term}
use Rattle.bt_meta.proofs.Lengths.{counted_cons, counted_fault, counted_all, listed}
use Rattle.bt_meta.proofs.torrent.reading.content_of_files.Goals as goal

pub loop-file-preserved : goal.loop-file-preserved
loop-file-preserved c =
    let next = c.in-Some.ensures.item in
    let more = counted_cons c.loop-file.total c.loop-file.count c.in_ok-file_length.field-0 c.in-Some.file c.next.new.self
    (sym c.in_ok-file_length.ensures) in
    record {
      few = c.loop-file.invariant.few;
      small = omega (arith, c.saturating_add-total.ensures);
      count = omega (arith, c.loop-file.invariant.count, ap (λ (ts : List Term). length ts) next);
      counted = rw c.saturating_add-total.ensures (sym more ∙ rw next at c.loop-file.invariant.counted);
    }

pub returns-in_err-file_length : goal.returns-in_err-file_length
returns-in_err-file_length c =
    let exit = err_from_is_err_and c.from_residual-in_err-file_length.result c.from_residual-in_err-file_length.ensures.1 in
    let all = listed c.args.files.now c.in_ok-left.left (sym (rw c.as_list.ensures.list at c.in_ok-left.ensures.value)) in
    let fault = counted_fault c.loop-file.total c.loop-file.count c.in-Some.file c.next.new.self c.in_err-file_length.field-0.0
    (sym c.in_err-file_length.ensures) in
    rw (exit.1, exit.2, all) (sym fault ∙ rw c.in-Some.ensures.item at c.loop-file.invariant.counted)

pub returns : goal.returns
returns c =
    let all = listed c.args.files.now c.in_ok-left.left (sym (rw c.as_list.ensures.list at c.in_ok-left.ensures.value)) in
    let counts = counted_all c.loop-file.total c.loop-file.count c.loop-file.invariant.small in
    rw all (sym counts ∙ rw c.in_default.ensures.item at c.loop-file.invariant.counted)
