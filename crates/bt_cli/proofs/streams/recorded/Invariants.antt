use Rattle.std.proofs.Common.{◌≡◌, length, map, take}
use Rattle.bt_cli.proofs.streams.recorded.Given as goal

abbrev pub invariant-loop-name : goal.invariant-loop-name
invariant-loop-name g l = record {
  count : length l.streams.items ≡ l.name-index;
  names : map (λ stream. stream.reader.name) l.streams.items ≡ take l.name-index l.names;
}
