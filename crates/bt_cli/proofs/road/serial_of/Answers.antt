use Rattle.std.specs.Io.Buffered.{writer_contents}
use Rattle.std.proofs.Common.{is_some}
use Rattle.bt_cli.proofs.road.serial_of.Goals as goal

pub returns-clause-ran : goal.returns-clause-ran
returns-clause-ran g c = λ t. λ is. (
  c.in_ok-run.run'.desk,
  c.in_ok-run.run'.ended,
  writer_contents g.O.Write.contents c.play_streams.new.out.inner,
  is_some c.play_streams.new.out.error,
  c.in_ok-run.ensures.ran t is,
  c.close-done.ensures.kept,
  c.close-done.ensures.closes,
)
