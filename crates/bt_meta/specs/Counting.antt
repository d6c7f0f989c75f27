-- The content of a torrent as it is counted while its file is read: up to 2^64 - 1 bytes. No public clause cites this module.
use Rattle.std.specs.Prelude.{ℕ, ◌-◌, ◌^◌, ◌/◌, min, sum, List, length, Result, Ok}
use Rattle.std.specs.Option.{ok_or}
use Rattle.bt_bencode.specs.Term.{Term, items_of}
use Rattle.bt_bencode.specs.Reading.{◌>>=◌}
use Rattle.bt_meta.specs.declared.fault.MetaFault.{MetaFault}
use Rattle.bt_meta.specs.declared.fault.MetaFault.TheVariants.{WrongKind}
use Rattle.bt_meta.specs.declared.key.Key.TheVariants as key
use Rattle.bt_meta.specs.declared.torrent.reading.Content.{Content}
use Rattle.bt_meta.specs.Layout.{Metainfo, sizes_checked}
use Rattle.bt_meta.specs.Reading.{text_in, piece_length_in, pieces_in, lengths_in, file_lengths_in, assembled}

-- the content of files of these lengths
abbrev pub content_of : List ℕ → Content
content_of lengths = record { total = min (sum lengths) (2 ^ 64 - 1); files = length lengths }

-- the content of the files of a list
abbrev pub content_of_files : List Term → Result Content MetaFault
content_of_files files = file_lengths_in files >>= λ lengths. Ok (content_of lengths)

-- the content of the files of a list
unfoldable pub content_listed : Term → Result Content MetaFault
content_listed files = ok_or (items_of files) (WrongKind key.Files) >>= λ items. content_of_files items

-- the content that an info dictionary tells
unfoldable pub content_in : Term → Result Content MetaFault
content_in info = lengths_in info >>= λ lengths. Ok (content_of lengths)

-- the torrent that an info dictionary with this SHA-1 describes
unfoldable pub torrent_counted : Term → List ℕ → Result Metainfo MetaFault
torrent_counted info infohash =
    text_in info key.Name >>= λ name.
    piece_length_in info >>= λ piece_length.
    pieces_in info >>= λ pieces.
    content_in info >>= λ content.
    sizes_checked piece_length content.total (length pieces / 20) >>= λ _.
    Ok (assembled name piece_length pieces content.total content.files infohash)
