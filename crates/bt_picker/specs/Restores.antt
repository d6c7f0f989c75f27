-- What a restore does: a worker's peer, such as a disk, brings a whole piece that nobody has begun, and its check is told.
use Rattle.std.specs.Prelude.{ℕ, zero, suc, ◌*◌, ◌≡◌, ◌==◌, ◌||◌, not, Bool, List, Option, None, Some, length, nat_le, take, drop, if◌then◌else◌}
use Rattle.sha1.specs.Sha1.{sha1}
use Rattle.bt_meta.specs.Layout.{Layout, block_count, block_size, hash_of, piece_count, piece_len}
use Rattle.bt_history.specs.declared.call.Reason.TheVariants.{NoSuchPiece, NotJoined, WrongLength}
use Rattle.bt_history.specs.declared.call.Reply.{Reply}
use Rattle.bt_history.specs.History.{is_had}
use Rattle.bt_history.specs.Peers.{joined}
use Rattle.bt_history.specs.Legal.{same_bytes}
use Rattle.bt_history.specs.Pieces.{content, unbegun}
use Rattle.bt_picker.specs.Checks.{arriving, settling}
use Rattle.bt_picker.specs.Positions.{DeskState, Gains}
use Rattle.bt_picker.specs.declared.picker.restoring.Restored.{Restored}
use Rattle.bt_picker.specs.declared.picker.restoring.Restored.TheVariants.{Begun, Failed, Had, Refused}

-- the bytes of the block that begins there, of those of its piece
abbrev pub part : List ℕ → ℕ → List ℕ
part bytes begin = take block_size (drop begin bytes)

-- these are as many bytes as piece p has, and it is said of them whether they have the metainfo's hash
pub record IsToldOf (t : Layout) (p : ℕ) (bytes : List ℕ) (passed : Bool) : Type 0 where
  pub whole : length bytes ≡ piece_len t p
  pub verdict : passed ≡ same_bytes (sha1 bytes) (hash_of t p)

-- the peer of worker w brought the first n blocks of piece p, in order
abbrev pub Brings : DeskState → DeskState → ℕ → ℕ → List ℕ → ℕ → Type 0
Brings old new w p bytes zero = new ≡ old
Brings old new w p bytes (suc n) =
    (d : DeskState) × Brings old d w p bytes n
    × ((reply : Reply) × Gains d new (arriving w p (block_size * n) (part bytes (block_size * n)) reply))

-- it brought all blocks, so that the piece holds these bytes, and then told its check with this reply
pub record BringsWhole (old new : DeskState) (w p : ℕ) (bytes : List ℕ) (reply : Reply) : Type 0 where
  pub full : DeskState
  pub brings : Brings old full w p bytes (block_count old.setting.torrent p)
  pub content : content full.setting full.history p ≡ bytes
  pub settles : Gains full new (settling full.setting full.history w p reply)

-- why nothing is done, if it isn't: there is no such peer or piece, the bytes are of another length, or the piece isn't unbegun. Begun
-- covers both kinds: a piece of which a block is held or asked, and one that is had already
abbrev pub restore_fault : DeskState → ℕ → ℕ → ℕ → Option Restored
restore_fault d w p len =
    if nat_le d.setting.workers w || not (joined d.history w) then Some (Refused NotJoined)
    else if nat_le (piece_count d.setting.torrent) p then Some (Refused NoSuchPiece)
    else if not (len == piece_len d.setting.torrent p) then Some (Refused WrongLength)
    else if not (unbegun d.setting d.history p) then Some Begun
    else None

-- what is told of a check
abbrev pub restored_by : Reply → Restored
restored_by reply = if is_had reply then Had else Failed

-- nothing is done for this reason, or the piece is brought and settled
abbrev pub RestoresUnless : Option Restored → DeskState → DeskState → ℕ → ℕ → List ℕ → Restored → Type 0
RestoresUnless (Some fault) old new w p bytes result = (new ≡ old) × (result ≡ fault)
RestoresUnless None old new w p bytes result = (reply : Reply) × BringsWhole old new w p bytes reply × (result ≡ restored_by reply)

abbrev pub Restores : DeskState → DeskState → ℕ → ℕ → List ℕ → Restored → Type 0
Restores old new w p bytes result = RestoresUnless (restore_fault old w p (length bytes)) old new w p bytes result
