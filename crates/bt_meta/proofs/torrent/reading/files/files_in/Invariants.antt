use Rattle.std.proofs.Common.{◌≡◌, length}
use Rattle.bt_meta.specs.Files.{files_within}
use Rattle.bt_meta.proofs.ListedFiles.{listed_with}
use Rattle.bt_meta.proofs.torrent.reading.files.files_in.Given as goal

-- the files so far are listed, and the others are left
abbrev pub invariant-loop-file : goal.invariant-loop-file
invariant-loop-file l = listed_with l.files.items l.folder l.left ≡ files_within l.folder l.initial.left

abbrev pub decreases-loop-file : goal.decreases-loop-file
decreases-loop-file l = length l.left
