use Rattle.std.specs.Io.Buffered.{writer_contents}
use Rattle.std.proofs.Common.{Ok}
use Rattle.bt_text.specs.Scripts.{Prints}
use Rattle.bt_cli.specs.Roads.{Flushed}
use Rattle.bt_cli.proofs.Ends.{on_ok}
use Rattle.bt_cli.proofs.road.script_of.Goals as goal

pub returns-in-Ok-clause-printed : goal.returns-in-Ok-clause-printed
returns-in-Ok-clause-printed g c =
    let held = writer_contents g.O.Write.contents in
    let flushed : Flushed (Prints c.args.input.now (Ok tt)) (held c.args.out.now.inner) (held c.end.new.out.inner) =
    (held c.print_replies.new.out.inner, c.in-Ok.ensures.prints, c.end.ensures.kept) in
    on_ok _ flushed
