-- The files of an info dictionary that describes a torrent are the torrent's.
use Rattle.std.proofs.Common.{◌≡◌, ◌∙◌, ℕ, List, [], ◌∷◌, length, Option, Some, None, Result, Ok, Err, refl, sym, ap}
use Rattle.std.specs.Prelude.{map, sum, if◌then◌else◌}
use Rattle.std.specs.Option.{ok_or}
use Rattle.std.proofs.lemmas.List.{length-map}
use Rattle.bt_bencode.specs.Term.{Term, get, items_of}
use Rattle.bt_bencode.specs.Reading.{◌>>=◌}
use Rattle.bt_bencode.proofs.Results.{bind_ok, never, ok_is}
use Rattle.bt_meta.specs.declared.fault.MetaFault.{MetaFault}
use Rattle.bt_meta.specs.declared.fault.MetaFault.TheVariants.{BothLengthAndFiles, NoContent, WrongKind}
use Rattle.bt_meta.specs.declared.key.Key.TheVariants as key
use Rattle.bt_meta.specs.Files.{AreFilesOf, Listed, alone, file_in, files_by, files_in, files_within, within}
use Rattle.bt_meta.specs.Keys.{key_name}
use Rattle.bt_meta.specs.Layout.{Metainfo}
use Rattle.bt_meta.specs.Metainfo.{Describes, is_path}
use Rattle.bt_meta.specs.Reading.{dictionary, file_length_in, file_lengths_in, items_in, length_in, lengths_in, lengths_in_by, path_in, text_in}
use Rattle.bt_meta.proofs.ListedFiles.{at_list}
use Rattle.bt_meta.proofs.Found.{found_ok, lengths_found, text_found}

-- how long each of the files is
abbrev lengths_of : List Listed → List ℕ
lengths_of files = map (λ file. file.length) files

-- what has a length has a path too
path_there : (file : Term) (n : ℕ) → file_length_in file ≡ Ok n → (parts : List Term) × (items_in file key.Path ≡ Ok parts)
unfolding file_length_in path_in
path_there file n is =
    let there = bind_ok (dictionary file (WrongKind key.Files)) (λ _. length_in file >>= λ m. path_in file >>= λ _. Ok m) n is in
    let long = bind_ok (length_in file) (λ m. path_in file >>= λ _. Ok m) n there.2 in
    let path = bind_ok (path_in file) (λ _. Ok long.0) n long.2 in
    let parts = bind_ok (items_in file key.Path) (λ parts. if is_path parts then Ok tt else Err (WrongKind key.Path)) path.0 path.1 in
    (parts.0, parts.1)

one_there : (folder : List ℕ) (file : Term) (n : ℕ) → file_length_in file ≡ Ok n → (f : Listed) × (file_in folder file ≡ Ok f) × (f.length ≡ n)
unfolding file_in
one_there folder file n is =
    let parts = path_there file n is in
    (within folder n parts.0, rw (is, parts.1) refl, refl)

all_there : (folder : List ℕ) (items : List Term) (lengths : List ℕ) → file_lengths_in items ≡ Ok lengths
    → (files : List Listed) × (files_within folder items ≡ Ok files) × (lengths_of files ≡ lengths)
unfolding file_lengths_in files_within
all_there folder [] lengths is = ([], refl, ok_is [] lengths is)
all_there folder (t ∷ ts) lengths is =
    let n = bind_ok (file_length_in t) (λ n. file_lengths_in ts >>= λ ns. Ok (n ∷ ns)) lengths is in
    let ns = bind_ok (file_lengths_in ts) (λ ns. Ok (n.0 ∷ ns)) lengths n.2 in
    let f = one_there folder t n.0 n.1 in
    let fs = all_there folder ts ns.0 ns.1 in
    (f.0 ∷ fs.0, rw (f.1, fs.1) refl, rw (f.2, fs.2) (ok_is (n.0 ∷ ns.0) lengths ns.2))

by_keys : (info : Term) (name : List ℕ) (one several : Option Term) (lengths : List ℕ) → lengths_in_by info one several ≡ Ok lengths
    → (files : List Listed) × (files_by info name one several ≡ Ok files) × (lengths_of files ≡ lengths)
by_keys info name None None lengths is = absurd (never NoContent lengths is)
by_keys info name (Some one) (Some several) lengths is = absurd (never BothLengthAndFiles lengths is)
by_keys info name (Some one) None lengths is =
    let n = bind_ok (length_in info) (λ n. Ok (n ∷ [])) lengths is in
    (alone name n.0 ∷ [], by_length (length_in info) n.0 n.1, ok_is (n.0 ∷ []) lengths n.2)
  where
    by_length : (r : Result ℕ MetaFault) (m : ℕ) → r ≡ Ok m → (r >>= λ k. Ok (alone name k ∷ [])) ≡ Ok (alone name m ∷ [])
    by_length r m is = rw is refl
by_keys info name None (Some several) lengths is =
    let items = bind_ok (ok_or (items_of several) (WrongKind key.Files)) (λ items. file_lengths_in items) lengths is in
    let files = all_there name items.0 lengths items.2 in
    (files.0, at_list name several items.0 items.1 ∙ files.1, files.2)

-- they are as many, and as long together, as the torrent says
pub described_files : (info : Term) (t : Metainfo) → Describes info t → (files : List Listed) × (files_in info ≡ Ok files) × AreFilesOf t files
unfolding files_in lengths_in
described_files info t d =
    let name = found_ok (text_in info key.Name) t.name (text_found info key.Name ∙ d.name) in
    let lengths = found_ok (lengths_in info) d.files (lengths_found info ∙ d.files_are) in
    let files = by_keys info t.name (get info (key_name key.Length)) (get info (key_name key.Files)) d.files lengths in (
      files.0,
      rw name files.1,
      record {
        count = sym (length-map files.0 (λ file. file.length)) ∙ (ap length files.2 ∙ sym d.count);
        total = ap sum files.2 ∙ sym d.total;
      },
    )
