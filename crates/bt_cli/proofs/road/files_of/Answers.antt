use Rattle.std.specs.Io.Buffered.{writer_contents}
use Rattle.bt_meta.specs.Files.{files_of_file}
use Rattle.bt_text.specs.Listing.{PrintsFiles}
use Rattle.bt_cli.specs.Roads.{Flushed}
use Rattle.bt_cli.proofs.Ends.{on_ok}
use Rattle.bt_cli.proofs.road.files_of.Goals as goal

pub returns-in-Ok-clause-printed : goal.returns-in-Ok-clause-printed
returns-in-Ok-clause-printed g c =
    let held = writer_contents g.O.Write.contents in
    let flushed : Flushed (PrintsFiles (files_of_file c.args.meta.now)) (held c.args.out.now.inner) (held c.end.new.out.inner) =
    (held c.print_files.new.out.inner, c.in-Ok.ensures.ok, c.end.ensures.kept) in
    on_ok _ flushed
