-- The torrent that is read is the one that the metainfo file describes, and the one that it describes is read.
use Rattle.std.proofs.Common.{◌≡◌, ℕ, ◌*◌, ◌/◌, ◌%◌, ◌<◌, ◌≤◌, ◌^◌, ℤ, pos, negsuc, List, length, Option, Some}
use Rattle.std.proofs.Common.{None, Result, Ok, Err, refl, sym, ap, ◌∙◌, arith, inl, inr, true, false, cond}
use Rattle.std.specs.Prelude.{sum, nat_lt, ◌==◌, ◌||◌, is_some, option_and_then}
use Rattle.std.specs.List.{concat}
use Rattle.std.specs.Simd.{first_chunks}
use Rattle.std.proofs.lemmas.Bool.Decides.{nat_tests}
use Rattle.sha1.specs.Sha1.{sha1}
use Rattle.bt_bencode.specs.Term.{Term, int, text, list, dict, get, span_of, text_of, entries_of}
use Rattle.bt_bencode.specs.Grammar.{Spells}
use Rattle.bt_bencode.specs.Placed.{placed, part}
use Rattle.bt_bencode.specs.Reading.{◌>>=◌, tree_of}
use Rattle.bt_bencode.proofs.Laws.{tree_again}
use Rattle.bt_bencode.proofs.Results.{bind_ok, chosen, ok_is, never}
use Rattle.bt_meta.specs.declared.key.Key.TheVariants as key
use Rattle.bt_meta.specs.declared.fault.MetaFault.{MetaFault}
use Rattle.bt_meta.specs.declared.fault.MetaFault.TheVariants.{NotDictionary, WrongKind, PieceLength, PiecesLength}
use Rattle.bt_meta.specs.Files.{AreFilesOf, Listed, files_of_file}
use Rattle.bt_meta.specs.Keys.{key_name}
use Rattle.bt_meta.specs.Layout.{IsLayout, Metainfo, sizes_checked}
use Rattle.bt_meta.specs.Metainfo.{Describes, IsMeta, int_at, text_at}
use Rattle.bt_meta.specs.Reading.{value_in, int_in, text_in, piece_length_in, piece_length_of, lengths_in, assembled}
use Rattle.bt_meta.specs.Reading.{torrent_by, dictionary, info_in, torrent_of_file, or_bencode}
use Rattle.bt_meta.specs.Reading as reading
use Rattle.bt_meta.proofs.FilesFound.{described_files}
use Rattle.bt_meta.proofs.Digests.{chunks_cut, length-concat, chunks-concat}
use Rattle.bt_meta.proofs.Found.{found_ok, ok_found, value_found, int_found, text_found, lengths_found}
use Rattle.bt_meta.proofs.Sizes.{Fit, sizes_fit, fit_passes}

-- ---- the piece length

-- a piece length within the limits
record InLimits (n : ℕ) : Type 0 where
  pub low : 0 < n
  pub high : n ≤ 2 ^ 31

limits_passed : (n : ℕ) → (n == 0 || nat_lt (2 ^ 31) n) ≡ false → InLimits n
limits_passed n h = record { low = grind (arith, nat_tests); high = grind (arith, nat_tests) }

passes_limits : (n : ℕ) → InLimits n → (n == 0 || nat_lt (2 ^ 31) n) ≡ false
passes_limits n within = let low : 0 < n = within.low in let high : n ≤ 2 ^ 31 = within.high in grind (arith, nat_tests)

length_of : (z : ℤ) (n : ℕ) → piece_length_of z ≡ Ok n → (z ≡ pos n) × InLimits n
length_of (pos m) n is =
    elim (chosen (m == 0 || nat_lt (2 ^ 31) m) _ _ _ is) [
      | inl bad ↦ absurd (never PieceLength n bad.1)
      | inr good ↦ let e : m ≡ n = ok_is m n good.1 in (ap (λ (k : ℕ). pos k) e, rw (← e) (limits_passed m good.0))
    ]
length_of (negsuc m) n is = absurd (never PieceLength n is)

piece_length_is : (info : Term) (n : ℕ) → piece_length_in info ≡ Ok n → (int_at info key.PieceLength ≡ Some (pos n)) × InLimits n
unfolding piece_length_in
piece_length_is info n is =
    let read = bind_ok (int_in info key.PieceLength) (λ z. piece_length_of z) n is in
    let known = length_of read.0 n read.2 in
    (sym (int_found info key.PieceLength) ∙ ok_found (int_in info key.PieceLength) read.0 read.1 ∙ ap (λ (z : ℤ). Some z) known.0, known.1)

piece_length_read : (info : Term) (n : ℕ) → int_at info key.PieceLength ≡ Some (pos n) → InLimits n → piece_length_in info ≡ Ok n
unfolding piece_length_in
piece_length_read info n is within =
    rw (found_ok (int_in info key.PieceLength) (pos n) (int_found info key.PieceLength ∙ is), passes_limits n within) refl

-- ---- the digests

pieces_are : (info : Term) (bytes : List ℕ) → reading.pieces_in info ≡ Ok bytes →
    (text_at info key.Pieces ≡ Some bytes) × (length bytes % 20 ≡ 0)
unfolding reading.pieces_in
pieces_are info bytes is =
    let read = bind_ok (text_in info key.Pieces) (λ bytes. cond (length bytes % 20 == 0) (Ok bytes) (Err PiecesLength)) bytes is in
    elim (chosen (length read.0 % 20 == 0) _ _ _ read.2) [
      | inr ragged ↦ absurd (never PiecesLength bytes ragged.1)
      | inl whole ↦
          let e : read.0 ≡ bytes = ok_is read.0 bytes whole.1 in
          let found = sym (text_found info key.Pieces) ∙ ok_found (text_in info key.Pieces) read.0 read.1 in
          let rest : length read.0 % 20 ≡ 0 = grind (arith, nat_tests, whole.0) in
          rw (← e) (found, rest)
    ]

pieces_read : (info : Term) (bytes : List ℕ) → text_at info key.Pieces ≡ Some bytes → length bytes % 20 ≡ 0 →
    reading.pieces_in info ≡ Ok bytes
unfolding reading.pieces_in
pieces_read info bytes is whole =
    let e : (length bytes % 20 == 0) ≡ true = grind (arith, nat_tests, whole) in
    rw (found_ok (text_in info key.Pieces) bytes (text_found info key.Pieces ∙ is), e) refl

-- ---- the info dictionary

-- the steps that are left when some of its values were read
abbrev by_lengths : List ℕ → List ℕ → ℕ → List ℕ → List ℕ → Result Metainfo MetaFault
by_lengths infohash name piece_length pieces files =
    sizes_checked piece_length (sum files) (length pieces / 20) >>= λ _.
    Ok (assembled name piece_length pieces (sum files) (length files) infohash)

abbrev by_pieces : Term → List ℕ → List ℕ → ℕ → List ℕ → Result Metainfo MetaFault
by_pieces info infohash name piece_length pieces = lengths_in info >>= λ files. by_lengths infohash name piece_length pieces files

abbrev by_piece_length : Term → List ℕ → List ℕ → ℕ → Result Metainfo MetaFault
by_piece_length info infohash name piece_length = reading.pieces_in info >>= λ pieces. by_pieces info infohash name piece_length pieces

abbrev by_name : Term → List ℕ → List ℕ → Result Metainfo MetaFault
by_name info infohash name = piece_length_in info >>= λ piece_length. by_piece_length info infohash name piece_length

layout_is : (piece_length : ℕ) (pieces : List ℕ) (total : ℕ) → InLimits piece_length → length pieces % 20 ≡ 0 →
    Fit piece_length total (length pieces / 20) →
    IsLayout (record { piece_length = piece_length; total = total; hashes = first_chunks 20 (length pieces / 20) pieces })
layout_is piece_length pieces total within whole fit =
    let cut = chunks_cut pieces whole in
    record {
      piece_length_low = within.low;
      piece_length_high = within.high;
      total_low = fit.some;
      total_high = fit.total_high;
      pieces_high = rw cut.count fit.pieces_high;
      count = cut.count ∙ fit.count;
    }

-- what an info dictionary says of a torrent, and its SHA-1
pub record Tells (info : Term) (infohash : List ℕ) (t : Metainfo) : Type 0 where
  pub described : Describes info t
  pub hash : t.infohash ≡ infohash

pub torrent_is : (info : Term) (infohash : List ℕ) (t : Metainfo) → torrent_by info infohash ≡ Ok t → Tells info infohash t
unfolding torrent_by
torrent_is info infohash t is =
    let name = bind_ok (text_in info key.Name) (λ name. by_name info infohash name) t is in
    let size = bind_ok (piece_length_in info) (λ n. by_piece_length info infohash name.0 n) t name.2 in
    let pieces = bind_ok (reading.pieces_in info) (λ bytes. by_pieces info infohash name.0 size.0 bytes) t size.2 in
    let files = bind_ok (lengths_in info) (λ lengths. by_lengths infohash name.0 size.0 pieces.0 lengths) t pieces.2 in
    let parts : Metainfo = assembled name.0 size.0 pieces.0 (sum files.0) (length files.0) infohash in
    let checked = bind_ok (sizes_checked size.0 (sum files.0) (length pieces.0 / 20)) (λ _. Ok parts) t files.2 in
    let size_is = piece_length_is info size.0 size.1 in
    let bytes_are = pieces_are info pieces.0 pieces.1 in
    let fit = sizes_fit size.0 (sum files.0) (length pieces.0 / 20) checked.0 checked.1 in
    let cut = chunks_cut pieces.0 bytes_are.1 in
    let described : Describes info parts = record {
      name = sym (text_found info key.Name) ∙ ok_found (text_in info key.Name) name.0 name.1;
      piece_length = size_is.0;
      pieces = bytes_are.0 ∙ ap (λ (bytes : List ℕ). Some bytes) (sym cut.joined);
      digests = cut.digests;
      files = files.0;
      files_are = sym (lengths_found info) ∙ ok_found (lengths_in info) files.0 files.1;
      total = refl;
      count = refl;
      layout = layout_is size.0 pieces.0 (sum files.0) size_is.1 bytes_are.1 fit;
    } in
    let same : parts ≡ t = ok_is parts t checked.2 in
    rw (← same) (record { described = described; hash = refl })

pub torrent_again : (info : Term) (t : Metainfo) → Describes info t → torrent_by info t.infohash ≡ Ok t
unfolding torrent_by
torrent_again info t d =
    let bytes : List ℕ = concat t.layout.hashes in
    let len : length bytes ≡ length t.layout.hashes * 20 = length-concat t.layout.hashes d.digests in
    let count : length bytes / 20 ≡ length t.layout.hashes = omega arith in
    let whole : length bytes % 20 ≡ 0 = omega arith in
    let name = found_ok (text_in info key.Name) t.name (text_found info key.Name ∙ d.name) in
    let within : InLimits t.layout.piece_length = record { low = d.layout.piece_length_low; high = d.layout.piece_length_high } in
    let size = piece_length_read info t.layout.piece_length d.piece_length within in
    let pieces = pieces_read info bytes d.pieces whole in
    let files = found_ok (lengths_in info) d.files (lengths_found info ∙ d.files_are) in
    let fit : Fit t.layout.piece_length t.layout.total (length t.layout.hashes) = record {
      some = d.layout.total_low;
      total_high = d.layout.total_high;
      pieces_high = d.layout.pieces_high;
      count = d.layout.count;
    } in
    let passes = fit_passes t.layout.piece_length t.layout.total (length t.layout.hashes) fit in
    let cut = chunks-concat t.layout.hashes d.digests in
    rw (name, size, pieces, files, count, ← d.total, passes, cut, ← d.count) refl

-- ---- the file

has_entries : (t : Term) (k : List ℕ) (value : Term) → get t k ≡ Some value → is_some (entries_of t) ≡ true
has_entries (int s n) k value h = absurd cc
has_entries (text s bytes) k value h = absurd cc
has_entries (list s ts) k value h = absurd cc
has_entries (dict s es) k value h = refl

value_there : {A : Type 0} (o : Option Term) (kind : Term → Option A) (x : A) → option_and_then kind o ≡ Some x →
    (value : Term) × (o ≡ Some value)
value_there None kind x h = absurd cc
value_there (Some value) kind x h = (value, refl)

dictionary_is : (t u : Term) (fault : MetaFault) → dictionary t fault ≡ Ok u → t ≡ u
dictionary_is t u fault is =
    elim (chosen (is_some (entries_of t)) _ _ _ is) [
      | inl good ↦ ok_is t u good.1
      | inr bad ↦ absurd (never fault u bad.1)
    ]

pub info_is : (tree info : Term) → info_in tree ≡ Ok info → get tree (key_name key.Info) ≡ Some info
unfolding info_in
info_is tree info is =
    let top = bind_ok (dictionary tree NotDictionary) (λ _. value_in tree key.Info >>= λ v. dictionary v (WrongKind key.Info)) info is in
    let value = bind_ok (value_in tree key.Info) (λ v. dictionary v (WrongKind key.Info)) info top.2 in
    let found = sym (value_found tree key.Info) ∙ ok_found (value_in tree key.Info) value.0 value.1 in
    found ∙ ap (λ (v : Term). Some v) (dictionary_is value.0 info (WrongKind key.Info) value.2)

info_again : (tree info : Term) (t : Metainfo) → get tree (key_name key.Info) ≡ Some info → Describes info t → info_in tree ≡ Ok info
unfolding info_in
info_again tree info t is described =
    let top = has_entries tree (key_name key.Info) info is in
    let name = value_there (get info (key_name key.Name)) text_of t.name described.name in
    let inner = has_entries info (key_name key.Name) name.0 name.1 in
    let value = found_ok (value_in tree key.Info) info (value_found tree key.Info ∙ is) in
    rw (top, value, inner) refl

pub file_is : (source : List ℕ) (tree info : Term) (t : Metainfo) → Spells tree source → placed 0 tree ≡ tree →
    info_in tree ≡ Ok info → torrent_by info (sha1 (part source (span_of info))) ≡ Ok t → IsMeta source t
file_is source tree info t spelled spans in_tree is =
    let tells = torrent_is info (sha1 (part source (span_of info))) t is in
    record {
      tree = tree;
      info = info;
      spelled = spelled;
      spans = spans;
      info_is = info_is tree info in_tree;
      described = tells.described;
      infohash = tells.hash;
    }

pub file_again : (source : List ℕ) (t : Metainfo) → IsMeta source t → torrent_of_file source ≡ Ok t
unfolding torrent_of_file
file_again source t m =
    let read : tree_of source ≡ Ok (placed 0 m.tree) = ap tree_of (sym m.spelled.spelled) ∙ tree_again m.tree m.spelled.is_tree in
    let info = info_again m.tree m.info t m.info_is m.described in
    rw (read, m.spans, info, ← m.infohash) (torrent_again m.info t m.described)

-- the files of a metainfo file are read, and are those of the torrent that it describes
pub files_again : (source : List ℕ) (t : Metainfo) → IsMeta source t → (files : List Listed) × (files_of_file source ≡ Ok files) × AreFilesOf t files
unfolding files_of_file
files_again source t m =
    let read : tree_of source ≡ Ok (placed 0 m.tree) = ap tree_of (sym m.spelled.spelled) ∙ tree_again m.tree m.spelled.is_tree in
    let info = info_again m.tree m.info t m.info_is m.described in
    let files = described_files m.info t m.described in
    (files.0, rw (read, m.spans, info) files.1, files.2)
