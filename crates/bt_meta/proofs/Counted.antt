-- Counting the content up to 2^64 - 1 bytes gives the same torrent and the same faults as adding the lengths up.
use Rattle.std.proofs.Common.{◌≡◌, ℕ, ◌-◌, ◌/◌, ◌≤◌, ◌^◌, min, List, length, Result, Ok, Err, true, refl, arith, inl, inr}
use Rattle.std.specs.Prelude.{sum, nat_le}
use Rattle.std.proofs.lemmas.Bool.{cases_lt}
use Rattle.std.proofs.lemmas.Bool.Decides.{nat_tests}
use Rattle.bt_bencode.specs.Term.{Term}
use Rattle.bt_bencode.specs.Reading.{◌>>=◌}
use Rattle.bt_meta.specs.declared.key.Key.TheVariants as key
use Rattle.bt_meta.specs.declared.fault.MetaFault.{MetaFault}
use Rattle.bt_meta.specs.declared.torrent.reading.Content.{Content}
use Rattle.bt_meta.specs.Layout.{Metainfo, sizes_checked}
use Rattle.bt_meta.specs.Counting.{content_of, content_in, torrent_counted}
use Rattle.bt_meta.specs.Reading.{text_in, piece_length_in, pieces_in, lengths_in, assembled, torrent_by}

abbrev counts : Content → Result Content MetaFault
counts content = Ok content

-- the torrent of these parts, where their sizes fit
abbrev sized : List ℕ → List ℕ → ℕ → List ℕ → ℕ → ℕ → Result Metainfo MetaFault
sized infohash name piece_length pieces total files =
    sizes_checked piece_length total (length pieces / 20) >>= λ _. Ok (assembled name piece_length pieces total files infohash)

too_large : (total limit : ℕ) → limit ≤ total → nat_le limit total ≡ true
too_large total limit h = grind (arith, nat_tests)

sized_same : (infohash name : List ℕ) (piece_length : ℕ) (pieces : List ℕ) (total files : ℕ) →
    sized infohash name piece_length pieces (min total (2 ^ 64 - 1)) files ≡ sized infohash name piece_length pieces total files
sized_same infohash name piece_length pieces total files =
    elim (cases_lt total (2 ^ 63)) [
      | inl small ↦ let e : min total (2 ^ 64 - 1) ≡ total = omega arith in rw e refl
      | inr large ↦
          let counted = too_large (min total (2 ^ 64 - 1)) (2 ^ 63) (omega arith) in
          let added = too_large total (2 ^ 63) large in
          rw (counted, added) refl
    ]

same_steps : (infohash : List ℕ) (name : Result (List ℕ) MetaFault) (piece_length : Result ℕ MetaFault) (pieces files : Result (List ℕ) MetaFault) →
    (name >>= λ n. piece_length >>= λ size. pieces >>= λ bytes. (files >>= λ lengths. counts (content_of lengths)) >>= λ content.
    sized infohash n size bytes content.total content.files)
    ≡ (name >>= λ n. piece_length >>= λ size. pieces >>= λ bytes. files >>= λ lengths.
    sized infohash n size bytes (sum lengths) (length lengths))
same_steps infohash (Err fault) piece_length pieces files = refl
same_steps infohash (Ok name) (Err fault) pieces files = refl
same_steps infohash (Ok name) (Ok size) (Err fault) files = refl
same_steps infohash (Ok name) (Ok size) (Ok bytes) (Err fault) = refl
same_steps infohash (Ok name) (Ok size) (Ok bytes) (Ok lengths) = sized_same infohash name size bytes (sum lengths) (length lengths)

pub torrent_counted_is : (info : Term) (infohash : List ℕ) → torrent_counted info infohash ≡ torrent_by info infohash
unfolding torrent_counted torrent_by content_in
torrent_counted_is info infohash =
    same_steps infohash (text_in info key.Name) (piece_length_in info) (pieces_in info) (lengths_in info)
