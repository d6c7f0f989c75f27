use Rattle.std.specs.Io.Buffered.{writer_contents}
use Rattle.std.specs.Io.KnownBytes.{Appends}
use Rattle.bt_cli.specs.Roads.{Flushed}
use Rattle.bt_cli.proofs.Ends.{on_ok}
use Rattle.bt_cli.proofs.road.text_of.Goals as goal

pub returns-in-Ok-clause-printed : goal.returns-in-Ok-clause-printed
returns-in-Ok-clause-printed g c =
    let held = writer_contents g.O.Write.contents in
    let flushed : Flushed (λ old new. Appends old new c.args.text.now) (held c.args.out.now.inner) (held c.end.new.out.inner) =
    (held c.print.new.out.inner, c.in-Ok.ensures.ok, c.end.ensures.kept) in
    on_ok _ flushed
