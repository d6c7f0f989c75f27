-- The command `info`: what it prints, and how it ends.
use Rattle.std.specs.Prelude.{◌≡◌, ◌⊎◌, ℕ, ◌-◌, List, ◌++◌, codes, Option, Result, Ok, Err}
use Rattle.std.specs.String.{string_bytes}
use Rattle.std.specs.Fmt.{decimal}
use Rattle.std.specs.Io.KnownBytes.{Appends}
use Rattle.hex.specs.Hex.{encode_lower}
use Rattle.bt_history.specs.Counting.{sum_below}
use Rattle.bt_meta.specs.Layout.{Metainfo, piece_count, piece_len, block_count}
use Rattle.bt_meta.specs.declared.fault.MetaFault.{MetaFault}
use Rattle.bt_text.specs.declared.info.Info.{Info}
use Rattle.bt_text.specs.declared.fault.Fault.{Fault}
use Rattle.bt_text.specs.declared.fault.Fault.TheVariants as faults
use Rattle.bt_text.specs.Statuses.{of_metainfo}
use Rattle.bt_text.specs.Texts.{name_text}

-- the number of blocks in all pieces
abbrev pub blocks_of : Metainfo → ℕ
blocks_of t = sum_below (piece_count t.layout) (block_count t.layout)

-- what is told of a torrent is true of it
pub record Describes (t : Metainfo) (i : Info) : Type 0 where
  pub name : i.name.now ≡ t.name
  pub infohash : string_bytes i.infohash ≡ encode_lower t.infohash
  pub piece_length : i.piece_length ≡ t.layout.piece_length
  pub total : i.total ≡ t.layout.total
  pub pieces : i.pieces ≡ piece_count t.layout
  pub last : i.last ≡ piece_len t.layout (piece_count t.layout - 1)
  pub blocks : i.blocks ≡ blocks_of t
  pub files : i.files ≡ t.files

-- what `info` prints
abbrev pub info_lines : Info → List ℕ
info_lines i =
    (codes "name " ++ (name_text i.name.now ++ (codes "\ninfohash " ++ (string_bytes i.infohash ++ codes "\n"))))
    ++ (codes "piecelength " ++ (decimal i.piece_length ++ (codes "\ntotal " ++ (decimal i.total ++ codes "\n"))))
    ++ (codes "pieces " ++ (decimal i.pieces ++ (codes "\nlast " ++ (decimal i.last ++ codes "\n"))))
    ++ (codes "blocks " ++ (decimal i.blocks ++ (codes "\nfiles " ++ (decimal i.files ++ codes "\n"))))

-- the description of the torrent was printed
abbrev pub PrintsInfo : Result Metainfo MetaFault → Option (List ℕ) → Option (List ℕ) → Type 0
PrintsInfo (Ok t) old new = (i : Info) × (Describes t i × Appends old new (info_lines i))
PrintsInfo (Err fault) old new = ⊥

-- why there is nothing to tell: what is wrong with the file, or want of memory
abbrev pub IsReadFault : Result Metainfo MetaFault → Fault → Type 0
IsReadFault (Ok t) given = given ≡ faults.Memory
IsReadFault (Err fault) given = (given ≡ of_metainfo fault) ⊎ (given ≡ faults.Memory)

-- with which fault `info` may end, by what reading the metainfo file gives: what is wrong with the file, or want of memory, or,
-- where nothing is wrong, that the output failed
abbrev pub IsInfoFault : Result Metainfo MetaFault → Fault → Type 0
IsInfoFault (Ok t) given = (given ≡ faults.File) ⊎ (given ≡ faults.Memory)
IsInfoFault (Err fault) given = (given ≡ of_metainfo fault) ⊎ (given ≡ faults.Memory)

-- the exit status of `info`: 0 only where the bytes are a metainfo file
abbrev pub IsInfoStatus : Result Metainfo MetaFault → ℕ → Type 0
IsInfoStatus (Ok t) status = (status ≡ 0) ⊎ (status ≡ 4) ⊎ (status ≡ 5)
IsInfoStatus (Err fault) status = (status ≡ 3) ⊎ (status ≡ 5)
