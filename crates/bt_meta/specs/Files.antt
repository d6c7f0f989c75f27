-- The files whose concatenation is the content, as a metainfo file lists them (BEP 3).
use Rattle.std.specs.Prelude.{ℕ, ◌≡◌, sum, map, List, [], ◌∷◌, length, Option, Some, None, unwrap_or, Result, Ok, Err}
use Rattle.std.specs.Option.{ok_or}
use Rattle.bt_bencode.specs.Term.{Term, get, text_of, items_of}
use Rattle.bt_bencode.specs.Reading.{◌>>=◌, tree_of}
use Rattle.bt_meta.specs.declared.key.Key.TheVariants as key
use Rattle.bt_meta.specs.declared.fault.MetaFault.{MetaFault}
use Rattle.bt_meta.specs.declared.fault.MetaFault.TheVariants.{WrongKind, BothLengthAndFiles, NoContent}
use Rattle.bt_meta.specs.Keys.{key_name}
use Rattle.bt_meta.specs.Layout.{Metainfo}
use Rattle.bt_meta.specs.Reading.{file_length_in, info_in, items_in, length_in, or_bencode, text_in}

-- a file: its bytes, and the names on its path, the outermost folder first
pub record Listed : Type 0 where
  pub length : ℕ
  pub path : List (List ℕ)

-- the strings among the items of a list of strings
abbrev pub texts : List Term → List (List ℕ)
texts [] = []
texts (t ∷ ts) = unwrap_or (text_of t) [] ∷ texts ts

-- a file of this name that stands in no folder
abbrev pub alone : List ℕ → ℕ → Listed
alone name n = record { length = n; path = name ∷ [] }

-- a file in a folder, with what leads to it from there
abbrev pub within : List ℕ → ℕ → List Term → Listed
within folder n parts = record { length = n; path = folder ∷ texts parts }

-- one file of several, in a folder
unfoldable pub file_in : List ℕ → Term → Result Listed MetaFault
file_in folder file = file_length_in file >>= λ n. items_in file key.Path >>= λ parts. Ok (within folder n parts)

-- the files of a list, in a folder
unfoldable pub files_within : List ℕ → List Term → Result (List Listed) MetaFault
files_within folder [] = Ok []
files_within folder (file ∷ files) = file_in folder file >>= λ f. files_within folder files >>= λ fs. Ok (f ∷ fs)

-- the files of what should be a list of them, in a folder
unfoldable pub files_at : List ℕ → Term → Result (List Listed) MetaFault
files_at folder several = ok_or (items_of several) (WrongKind key.Files) >>= λ items. files_within folder items

-- the files, by the name and by what stands at `length` and at `files`. Of one file the name is its own, and of several it is the folder's
abbrev pub files_by : Term → List ℕ → Option Term → Option Term → Result (List Listed) MetaFault
files_by info name None None = Err NoContent
files_by info name (Some one) (Some several) = Err BothLengthAndFiles
files_by info name (Some one) None = length_in info >>= λ n. Ok (alone name n ∷ [])
files_by info name None (Some several) = files_at name several

-- the files that an info dictionary lists, or the fault
unfoldable pub files_in : Term → Result (List Listed) MetaFault
files_in info = text_in info key.Name >>= λ name. files_by info name (get info (key_name key.Length)) (get info (key_name key.Files))

-- the files that a metainfo file lists, or the first fault
unfoldable pub files_of_file : List ℕ → Result (List Listed) MetaFault
files_of_file source = or_bencode (tree_of source) >>= λ tree. info_in tree >>= λ info. files_in info

-- the files are those of the torrent: as many, and together as long as its content
pub record AreFilesOf (t : Metainfo) (files : List Listed) : Type 0 where
  pub count : length files ≡ t.files
  pub total : sum (map (λ file. file.length) files) ≡ t.layout.total
