use Rattle.std.proofs.Common.{◌≡◌, ◌<◌, ◌+◌, ◌^◌, length}
use Rattle.bt_meta.specs.Counting.{content_of_files}
use Rattle.bt_meta.proofs.Lengths.{counted}
use Rattle.bt_meta.proofs.torrent.reading.content_of_files.Given as goal

-- the files so far are counted, and the others are left
abbrev pub invariant-loop-file : goal.invariant-loop-file
invariant-loop-file l = record {
  few : length l.initial.left < 2 ^ 64;
  small : l.total < 2 ^ 64;
  count : l.count + length l.left ≡ length l.initial.left;
  counted : counted l.total l.count l.left ≡ content_of_files l.initial.left;
}

abbrev pub decreases-loop-file : goal.decreases-loop-file
decreases-loop-file l = length l.left
