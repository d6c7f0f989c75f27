use Rattle.std.proofs.Common.{◌≡◌, ◌++◌, ◌∷◌, length}
use Rattle.bt_meta.specs.Files.{texts}
use Rattle.bt_meta.proofs.torrent.reading.files.path_of.Given as goal

-- the names so far are on the path, and the others are left
abbrev pub invariant-loop-part : goal.invariant-loop-part
invariant-loop-part l = l.path.items ++ texts l.left ≡ l.folder ∷ texts l.initial.left

abbrev pub decreases-loop-part : goal.decreases-loop-part
decreases-loop-part l = length l.left
