-- The keys of a metainfo file that are read (BEP 3).
use Rattle.std.specs.Prelude.{ℕ, List, codes}
use Rattle.bt_meta.specs.declared.key.Key.{Key}
use Rattle.bt_meta.specs.declared.key.Key.TheVariants.{Info, Name, PieceLength, Pieces, Length, Files, Path}

-- a key as it stands in the file
abbrev pub key_name : Key → List ℕ
key_name Info = codes "info"
key_name Name = codes "name"
key_name PieceLength = codes "piece length"
key_name Pieces = codes "pieces"
key_name Length = codes "length"
key_name Files = codes "files"
key_name Path = codes "path"
