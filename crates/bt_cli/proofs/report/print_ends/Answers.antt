use Rattle.std.proofs.Common.{subst, arith, Ok}
use Rattle.std.specs.Io.KnownBytes.{Appends}
use Rattle.std.proofs.KnownBytes.{Appends-trans}
use Rattle.bt_cli.specs.Reports.{end_text}
use Rattle.bt_cli.proofs.Numbered.{numbered-more}
use Rattle.bt_cli.proofs.report.print_ends.Goals as goal

pub loop-stream-preserved : goal.loop-stream-preserved
loop-stream-preserved g c =
    let first = g.O.Sink.written c.args.out.now in
    let last = g.O.Sink.written c.print_end.new.out in
    subst (Appends first last) (numbered-more end_text c.args.ends.now c.loop-stream.stream (Ok (record { messages = 0 })) (omega arith))
    (Appends-trans first (g.O.Sink.written c.loop-stream.out) last _ _ c.loop-stream.invariant c.in_ok-print_end.ensures.ok)
