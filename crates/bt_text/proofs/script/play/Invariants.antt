use Rattle.std.proofs.Common.{map, take}
use Rattle.std.specs.String.{string_bytes}
use Rattle.bt_text.specs.Scripts.{Starts, PassTo}
use Rattle.bt_text.specs.PlayedLines.{TakesLines, playing, silent}
use Rattle.bt_text.proofs.script.play.Given as goal

-- the script began, each line so far passed, and the text is what is printed of them
abbrev pub invariant-loop-index : goal.invariant-loop-index
invariant-loop-index l = record {
  starts : Starts (map (λ x. x.now) l.lines.items) l.next l.player.workers l.player.pieces;
  pass : PassTo (map (λ x. x.now) l.lines.items) l.next l.player.workers l.player.pieces l.index;
  takes : TakesLines silent (playing l.player.desk) (take l.index (map (λ x. x.now) l.lines.items)) (string_bytes l.text);
}
