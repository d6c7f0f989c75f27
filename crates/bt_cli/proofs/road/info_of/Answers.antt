use Rattle.std.specs.Io.Buffered.{writer_contents}
use Rattle.bt_meta.specs.Reading.{torrent_of_file}
use Rattle.bt_text.specs.Info.{PrintsInfo}
use Rattle.bt_cli.specs.Roads.{Flushed}
use Rattle.bt_cli.proofs.Ends.{on_ok}
use Rattle.bt_cli.proofs.road.info_of.Goals as goal

pub returns-in-Ok-clause-printed : goal.returns-in-Ok-clause-printed
returns-in-Ok-clause-printed g c =
    let held = writer_contents g.O.Write.contents in
    let flushed : Flushed (PrintsInfo (torrent_of_file c.args.meta.now)) (held c.args.out.now.inner) (held c.end.new.out.inner) =
    (held c.print_info.new.out.inner, c.in-Ok.ensures.ok, c.end.ensures.kept) in
    on_ok _ flushed
