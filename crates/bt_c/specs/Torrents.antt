-- What a picker tells of its torrent.
use Rattle.std.specs.Prelude.{◌≡◌, ◌≢◌, ℕ, ◌<◌, List, length}
use Rattle.std.specs.List.{slice_get}
use Rattle.std.specs.Option.{ok_or}
use Rattle.std.specs.declared.result.Result.{Result}
use Rattle.std.specs.declared.result.Result.TheVariants.{Ok, Err}
use Rattle.bt_bencode.specs.Reading.{◌>>=◌}
use Rattle.bt_meta.specs.Files.{Listed}
use Rattle.bt_meta.specs.Layout.{Metainfo, hash_of, piece_count}
use Rattle.bt_c.specs.declared.fault.Fault.{Fault}
use Rattle.bt_c.specs.declared.fault.Fault.TheVariants.{File, Part, Piece, Room}
use Rattle.bt_c.specs.declared.held.Held.{Held}
use Rattle.bt_c.specs.declared.torrents.TorrentQuestion.{TorrentQuestion}
use Rattle.bt_c.specs.declared.torrents.TorrentQuestion.TheVariants.{Total, NameLength, Files, FileLength, FileParts, PartLength}
use Rattle.bt_c.specs.Outcomes.{Done}

-- file k, if there is one
abbrev pub file_at : List Listed → ℕ → Result Listed Fault
file_at files k = ok_or (slice_get files k) File

-- name j on the path of file k, if there are both
abbrev pub part_at : List Listed → ℕ → ℕ → Result (List ℕ) Fault
part_at files k j = file_at files k >>= λ file. ok_or (slice_get file.path j) Part

-- what a picker is asked of its torrent; lengths are in bytes
abbrev pub number_of_torrent : Held → TorrentQuestion → Result ℕ Fault
number_of_torrent h Total = Ok h.torrent.value.layout.total
number_of_torrent h NameLength = Ok (length h.torrent.value.name)
number_of_torrent h Files = Ok (length h.files.items)
number_of_torrent h (FileLength k) = file_at h.files.items k >>= λ file. Ok file.length
number_of_torrent h (FileParts k) = file_at h.files.items k >>= λ file. Ok (length file.path)
number_of_torrent h (PartLength k j) = part_at h.files.items k j >>= λ name. Ok (length name)

-- a room of their number gets the bytes, and another one stays as it was
abbrev pub PutsBytes : List ℕ → List ℕ → List ℕ → Done → Type 0
PutsBytes bytes old new (Ok u) = (length old ≡ length bytes) × (new ≡ bytes)
PutsBytes bytes old new (Err Room) = (length old ≢ length bytes) × (new ≡ old)
PutsBytes bytes old new (Err f) = ⊥

-- the same of bytes that there may not be
abbrev pub PutsIfAny : Result (List ℕ) Fault → List ℕ → List ℕ → Done → Type 0
PutsIfAny (Ok bytes) old new o = PutsBytes bytes old new o
PutsIfAny (Err f) old new o = (new ≡ old) × (o ≡ Err f)

-- the infohash is written
abbrev pub PutsInfohash : Metainfo → List ℕ → Done → Type 0
PutsInfohash t new (Ok u) = new ≡ t.infohash
PutsInfohash t new (Err f) = ⊥

-- the hash of piece p is written, if there is such a piece
abbrev pub PutsHash : Metainfo → ℕ → List ℕ → List ℕ → Done → Type 0
PutsHash t p old new (Ok u) = (p < piece_count t.layout) × (new ≡ hash_of t.layout p)
PutsHash t p old new (Err Piece) = ((p < piece_count t.layout) → ⊥) × (new ≡ old)
PutsHash t p old new (Err f) = ⊥
