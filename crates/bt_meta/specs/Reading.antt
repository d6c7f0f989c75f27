-- Reading a metainfo file (BEP 3) up to the first fault.
use Rattle.std.specs.Prelude.{ℕ, ◌≡◌, ◌/◌, ◌%◌, ◌^◌, ℤ, pos, negsuc, sum, List, [], ◌∷◌, length, Option, Some, None, is_some}
use Rattle.std.specs.Prelude.{Result, Ok, Err, nat_lt, ◌==◌, ◌||◌, if◌then◌else◌}
use Rattle.std.specs.Option.{ok_or}
use Rattle.std.specs.Simd.{first_chunks}
use Rattle.sha1.specs.Sha1.{sha1}
use Rattle.bt_bencode.specs.declared.fault.BenFault.{BenFault}
use Rattle.bt_bencode.specs.Term.{Term, get, span_of, int_of, text_of, items_of, entries_of}
use Rattle.bt_bencode.specs.Placed.{part}
use Rattle.bt_bencode.specs.Reading.{◌>>=◌, tree_of}
use Rattle.bt_meta.specs.declared.key.Key.{Key}
use Rattle.bt_meta.specs.declared.key.Key.TheVariants as key
use Rattle.bt_meta.specs.declared.fault.MetaFault.{MetaFault}
use Rattle.bt_meta.specs.declared.fault.MetaFault.TheVariants.{NotDictionary, Missing, WrongKind, PieceLength, PiecesLength, BothLengthAndFiles}
use Rattle.bt_meta.specs.declared.fault.MetaFault.TheVariants.{NoContent, NoMemory}
use Rattle.bt_meta.specs.Keys.{key_name}
use Rattle.bt_meta.specs.Faults.{of_bencode}
use Rattle.bt_meta.specs.Layout.{Metainfo, sizes_checked}
use Rattle.bt_meta.specs.Metainfo.{is_path}

-- reading gives this fault, or memory ran out
abbrev pub Fails : {Y : Type 0} → MetaFault → Result Y MetaFault → Type 0
Fails NoMemory reading = Unit {0}
Fails fault reading = reading ≡ Err fault

-- what a function returned, its value seen by view, is what reading gives, unless memory ran out
abbrev pub Gives : {X Y : Type 0} → (X → Y) → Result X MetaFault → Result Y MetaFault → Type 0
Gives view (Ok x) reading = reading ≡ Ok (view x)
Gives view (Err fault) reading = Fails fault reading

-- the value at a key
unfoldable pub value_in : Term → Key → Result Term MetaFault
value_in t key = ok_or (get t (key_name key)) (Missing key)

-- the integer at a key, or the fault
unfoldable pub int_in : Term → Key → Result ℤ MetaFault
int_in t key = value_in t key >>= λ value. ok_or (int_of value) (WrongKind key)

-- the string at a key, or the fault
unfoldable pub text_in : Term → Key → Result (List ℕ) MetaFault
text_in t key = value_in t key >>= λ value. ok_or (text_of value) (WrongKind key)

-- the list at a key, or the fault
unfoldable pub items_in : Term → Key → Result (List Term) MetaFault
items_in t key = value_in t key >>= λ value. ok_or (items_of value) (WrongKind key)

-- a dictionary, or this fault
abbrev pub dictionary : Term → MetaFault → Result Term MetaFault
dictionary t fault = if is_some (entries_of t) then Ok t else Err fault

-- a length isn't negative
abbrev pub natural_of : ℤ → Result ℕ MetaFault
natural_of (pos n) = Ok n
natural_of (negsuc n) = Err (WrongKind key.Length)

-- the `length` of a file, in bytes
unfoldable pub length_in : Term → Result ℕ MetaFault
length_in t = int_in t key.Length >>= λ n. natural_of n

-- a piece length is 1 to 2^31 bytes
abbrev pub piece_length_of : ℤ → Result ℕ MetaFault
piece_length_of (pos n) = if n == 0 || nat_lt (2 ^ 31) n then Err PieceLength else Ok n
piece_length_of (negsuc n) = Err PieceLength

-- the `piece length`
unfoldable pub piece_length_in : Term → Result ℕ MetaFault
piece_length_in info = int_in info key.PieceLength >>= λ n. piece_length_of n

-- the `pieces`, digests of 20 bytes one behind the other
unfoldable pub pieces_in : Term → Result (List ℕ) MetaFault
pieces_in info = text_in info key.Pieces >>= λ bytes. if length bytes % 20 == 0 then Ok bytes else Err PiecesLength

-- whether there is a `path`: at least one string, in a list
unfoldable pub path_in : Term → Result (Unit {0}) MetaFault
path_in file = items_in file key.Path >>= λ parts. if is_path parts then Ok tt else Err (WrongKind key.Path)

-- the length of one file of several
unfoldable pub file_length_in : Term → Result ℕ MetaFault
file_length_in file =
    dictionary file (WrongKind key.Files) >>= λ _. length_in file >>= λ n. path_in file >>= λ _. Ok n

-- the lengths of the files in a list
unfoldable pub file_lengths_in : List Term → Result (List ℕ) MetaFault
file_lengths_in [] = Ok []
file_lengths_in (file ∷ files) = file_length_in file >>= λ n. file_lengths_in files >>= λ ns. Ok (n ∷ ns)

-- the lengths of the files, by what stands at `length` and at `files`
abbrev pub lengths_in_by : Term → Option Term → Option Term → Result (List ℕ) MetaFault
lengths_in_by info None None = Err NoContent
lengths_in_by info (Some one) (Some files) = Err BothLengthAndFiles
lengths_in_by info (Some one) None = length_in info >>= λ n. Ok (n ∷ [])
lengths_in_by info None (Some files) = ok_or (items_of files) (WrongKind key.Files) >>= λ items. file_lengths_in items

-- the lengths of the files that an info dictionary tells, or the fault
unfoldable pub lengths_in : Term → Result (List ℕ) MetaFault
lengths_in info = lengths_in_by info (get info (key_name key.Length)) (get info (key_name key.Files))

-- the torrent of these parts
abbrev pub assembled : List ℕ → ℕ → List ℕ → ℕ → ℕ → List ℕ → Metainfo
assembled name piece_length pieces total files infohash = record {
  layout = record { piece_length = piece_length; total = total; hashes = first_chunks 20 (length pieces / 20) pieces };
  infohash = infohash;
  name = name;
  files = files;
}

-- the torrent that an info dictionary with this SHA-1 describes
unfoldable pub torrent_by : Term → List ℕ → Result Metainfo MetaFault
torrent_by info infohash =
    text_in info key.Name >>= λ name.
    piece_length_in info >>= λ piece_length.
    pieces_in info >>= λ pieces.
    lengths_in info >>= λ lengths.
    sizes_checked piece_length (sum lengths) (length pieces / 20) >>= λ _.
    Ok (assembled name piece_length pieces (sum lengths) (length lengths) infohash)

-- the info dictionary of a file
unfoldable pub info_in : Term → Result Term MetaFault
info_in tree = dictionary tree NotDictionary >>= λ _. value_in tree key.Info >>= λ info. dictionary info (WrongKind key.Info)

-- a fault of bencode is one of the file
abbrev pub or_bencode : {A : Type 0} → Result A BenFault → Result A MetaFault
or_bencode (Ok x) = Ok x
or_bencode (Err fault) = Err (of_bencode fault)

-- the torrent whose metainfo file the bytes are
unfoldable pub torrent_of_file : List ℕ → Result Metainfo MetaFault
torrent_of_file source =
    or_bencode (tree_of source) >>= λ tree.
    info_in tree >>= λ info.
    torrent_by info (sha1 (part source (span_of info)))
