use Rattle.std.proofs.Common.{sym, ◌∙◌}
use Rattle.std.proofs.lemmas.Result.{err_from_is_err_and}
use Rattle.bt_meta.proofs.ListedFiles.{at_list, listed_all, listed_cons, listed_fails}
use Rattle.bt_meta.proofs.torrent.reading.files.files_in.Goals as goal

pub returns-in_err-file_in : goal.returns-in_err-file_in
returns-in_err-file_in c =
    let exit = err_from_is_err_and c.from_residual-in_err-file_in.result c.from_residual-in_err-file_in.ensures.1 in
    let all = at_list c.args.folder.now c.args.several.now c.in_ok-left.left (sym (rw c.as_list.ensures.list at c.in_ok-left.ensures.value)) in
    rw (exit.1, exit.2, all)
    (listed_fails c.loop-file.files.items c.args.folder.now c.in-Some.file c.next.new.self c.in_err-file_in.field-0.0 _ c.in_err-file_in.ensures
    (rw c.in-Some.ensures.item at c.loop-file.invariant))

pub loop-file-preserved : goal.loop-file-preserved
loop-file-preserved c =
    let more = listed_cons c.loop-file.files.items c.args.folder.now c.in-Some.file c.next.new.self _ c.in_ok-file_in.ensures in
    rw c.in_ok-push.ensures.items (sym more ∙ rw c.in-Some.ensures.item at c.loop-file.invariant)

pub returns : goal.returns
returns c =
    let all = at_list c.args.folder.now c.args.several.now c.in_ok-left.left (sym (rw c.as_list.ensures.list at c.in_ok-left.ensures.value)) in
    all ∙ (sym (rw c.in_default.ensures.item at c.loop-file.invariant) ∙ listed_all c.loop-file.files.items c.args.folder.now)
