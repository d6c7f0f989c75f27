-- The files of a metainfo file, as `info --files` prints them.
use Rattle.std.specs.Prelude.{◌≡◌, ◌⊎◌, ℕ, List, ◌++◌, codes, Option, Result, Ok, Err}
use Rattle.std.specs.List.{flat_map}
use Rattle.std.specs.Fmt.{decimal}
use Rattle.std.specs.Io.KnownBytes.{Appends}
use Rattle.bt_meta.specs.declared.fault.MetaFault.{MetaFault}
use Rattle.bt_meta.specs.Files.{Listed}
use Rattle.bt_text.specs.declared.fault.Fault.{Fault}
use Rattle.bt_text.specs.declared.fault.Fault.TheVariants as faults
use Rattle.bt_text.specs.Statuses.{of_metainfo}
use Rattle.bt_text.specs.Texts.{name_text}

-- a name behind a space, which no name shows
abbrev pub part_text : List ℕ → List ℕ
part_text name = codes " " ++ name_text name

-- the names on a path
abbrev pub path_text : List (List ℕ) → List ℕ
path_text path = flat_map part_text path

-- a file: its bytes, and its path
abbrev pub file_line : Listed → List ℕ
file_line f = codes "file " ++ (decimal f.length ++ (path_text f.path ++ codes "\n"))

-- the files, a line each
abbrev pub file_lines : List Listed → List ℕ
file_lines files = flat_map file_line files

-- the files were printed
abbrev pub PrintsFiles : Result (List Listed) MetaFault → Option (List ℕ) → Option (List ℕ) → Type 0
PrintsFiles (Ok files) old new = Appends old new (file_lines files)
PrintsFiles (Err fault) old new = ⊥

-- with which fault that may end: what is wrong with the file, or want of memory, or that the output failed
abbrev pub IsListingFault : Result (List Listed) MetaFault → Fault → Type 0
IsListingFault (Ok files) given = (given ≡ faults.File) ⊎ (given ≡ faults.Memory)
IsListingFault (Err fault) given = (given ≡ of_metainfo fault) ⊎ (given ≡ faults.Memory)
