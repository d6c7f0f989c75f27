use Rattle.std.proofs.Common.{◌≡◌, cond, length}
use Rattle.bt_meta.specs.Metainfo.{all_texts, is_path}
use Rattle.bt_meta.proofs.torrent.reading.is_path.Given as goal

-- the parts so far are strings
abbrev pub invariant-loop-part : goal.invariant-loop-part
invariant-loop-part l = cond l.some (all_texts l.left) (is_path l.left) ≡ is_path l.initial.left

abbrev pub decreases-loop-part : goal.decreases-loop-part
decreases-loop-part l = length l.left
