-- Which bytes are the metainfo file of which torrent (BEP 3).
use Rattle.std.specs.Prelude.{ℕ, ℤ, pos, negsuc, ◌≡◌, Bool, true, not, ◌==◌, ◌&&◌, List, [], ◌∷◌, length, sum, All, Option, Some, None}
use Rattle.std.specs.Prelude.{option_and_then, is_some, if◌then◌else◌}
use Rattle.std.specs.List.{concat}
use Rattle.sha1.specs.Sha1.{sha1}
use Rattle.bt_bencode.specs.Term.{Term, get, span_of, int_of, text_of, items_of}
use Rattle.bt_bencode.specs.Grammar.{Spells}
use Rattle.bt_bencode.specs.Placed.{placed, part}
use Rattle.bt_meta.specs.declared.key.Key.{Key}
use Rattle.bt_meta.specs.declared.key.Key.TheVariants.{Info, Name, PieceLength, Pieces, Length, Files, Path}
use Rattle.bt_meta.specs.Keys.{key_name}
use Rattle.bt_meta.specs.Layout.{IsLayout, Metainfo}

-- the integer at a key of a dictionary, where there is one
abbrev pub int_at : Term → Key → Option ℤ
int_at t key = option_and_then int_of (get t (key_name key))

-- the string at a key
abbrev pub text_at : Term → Key → Option (List ℕ)
text_at t key = option_and_then text_of (get t (key_name key))

-- the list at a key
abbrev pub items_at : Term → Key → Option (List Term)
items_at t key = option_and_then items_of (get t (key_name key))

-- an integer that isn't negative
abbrev pub natural : ℤ → Option ℕ
natural (pos n) = Some n
natural (negsuc n) = None

-- the `length` of a file, in bytes
abbrev pub length_at : Term → Option ℕ
length_at t = option_and_then natural (int_at t Length)

-- each of these is a string
abbrev pub all_texts : List Term → Bool
all_texts [] = true
all_texts (t ∷ ts) = is_some (text_of t) && all_texts ts

-- strings, at least one
abbrev pub is_path : List Term → Bool
is_path parts = not (length parts == 0) && all_texts parts

-- the length of one file of several, which has a `path` too
abbrev pub file_length : Term → Option ℕ
file_length file = option_and_then (λ parts. if is_path parts then length_at file else None) (items_at file Path)

-- the lengths of the files in a list, where each is one
abbrev pub file_lengths : List Term → Option (List ℕ)
file_lengths [] = Some []
file_lengths (file ∷ files) = option_and_then (λ n. option_and_then (λ ns. Some (n ∷ ns)) (file_lengths files)) (file_length file)

-- the lengths of the files, by what stands at `length` or at `files`: one of them is there, and not the other
abbrev pub lengths_by : Term → Option Term → Option Term → Option (List ℕ)
lengths_by info None None = None
lengths_by info (Some one) (Some files) = None
lengths_by info (Some one) None = option_and_then (λ n. Some (n ∷ [])) (length_at info)
lengths_by info None (Some files) = option_and_then file_lengths (items_of files)

-- the lengths of the files that an info dictionary tells
abbrev pub lengths : Term → Option (List ℕ)
lengths info = lengths_by info (get info (key_name Length)) (get info (key_name Files))

-- an info dictionary describes this torrent, its infohash aside
pub record Describes (info : Term) (t : Metainfo) : Type 0 where
  pub name : text_at info Name ≡ Some t.name
  pub piece_length : int_at info PieceLength ≡ Some (pos t.layout.piece_length)
  -- the hashes stand one behind the other
  pub pieces : text_at info Pieces ≡ Some (concat t.layout.hashes)
  pub digests : All (λ hash. length hash ≡ 20) t.layout.hashes
  -- the content is the concatenation of the files
  pub files : List ℕ
  pub files_are : lengths info ≡ Some files
  pub total : t.layout.total ≡ sum files
  pub count : t.files ≡ length files
  -- there are as many hashes as pieces, and all is within the limits
  pub layout : IsLayout t.layout

-- the bytes are the metainfo file of this torrent
pub record IsMeta (bytes : List ℕ) (t : Metainfo) : Type 0 where
  pub tree : Term
  pub info : Term
  pub spelled : Spells tree bytes
  -- each part of the tree has the span where it stands in the bytes
  pub spans : placed 0 tree ≡ tree
  pub info_is : get tree (key_name Info) ≡ Some info
  pub described : Describes info t
  -- SHA-1 over the info value, byte by byte as the file has it
  pub infohash : t.infohash ≡ sha1 (part bytes (span_of info))
