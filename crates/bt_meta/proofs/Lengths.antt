-- The lengths of files that are added one after the other, as a loop does.
use Rattle.std.proofs.Common.{◌≡◌, ℕ, ◌+◌, ◌-◌, ◌^◌, ◌<◌, min, List, [], ◌∷◌, length, Result, Ok, Err, Some, None, refl, sym, ap, arith}
use Rattle.std.specs.Prelude.{sum}
use Rattle.std.proofs.lemmas.List.Sums.{sum_by-cons}
use Rattle.std.specs.Option.{ok_or}
use Rattle.bt_bencode.specs.Term.{Term, get, items_of}
use Rattle.bt_bencode.specs.Reading.{◌>>=◌}
use Rattle.bt_meta.specs.declared.fault.MetaFault.{MetaFault}
use Rattle.bt_meta.specs.declared.fault.MetaFault.TheVariants.{WrongKind}
use Rattle.bt_meta.specs.declared.key.Key.TheVariants as key
use Rattle.bt_meta.specs.Keys.{key_name}
use Rattle.bt_meta.specs.declared.torrent.reading.Content.{Content}
use Rattle.bt_meta.specs.Reading.{file_length_in, file_lengths_in, lengths_in}
use Rattle.bt_meta.specs.Counting.{content_of, content_of_files, content_in, content_listed}

abbrev counts : Content → Result Content MetaFault
counts content = Ok content

-- the content of files of which some are counted already
abbrev pub content_with : ℕ → ℕ → List ℕ → Content
content_with total files lengths = record { total = min (total + sum lengths) (2 ^ 64 - 1); files = files + length lengths }

-- the content when these files are counted too
abbrev pub counted : ℕ → ℕ → List Term → Result Content MetaFault
counted total files rest = file_lengths_in rest >>= λ lengths. Ok (content_with total files lengths)

-- one file more
add_one : (total files n : ℕ) (lengths : List ℕ) →
    content_with total files (n ∷ lengths) ≡ content_with (min (total + n) (2 ^ 64 - 1)) (files + 1) lengths
add_one total files n lengths =
    let s : sum (n ∷ lengths) ≡ n + sum lengths = sum_by-cons (λ x. x) n lengths in
    let t : min (total + sum (n ∷ lengths)) (2 ^ 64 - 1) ≡ min (min (total + n) (2 ^ 64 - 1) + sum lengths) (2 ^ 64 - 1) = omega arith in
    let f : files + length (n ∷ lengths) ≡ files + 1 + length lengths = omega arith in
    rw (t, f) refl

with_one : (total files n : ℕ) (rest : Result (List ℕ) MetaFault) →
    ((rest >>= λ ns. Ok (n ∷ ns)) >>= λ lengths. Ok (content_with total files lengths))
    ≡ (rest >>= λ lengths. Ok (content_with (min (total + n) (2 ^ 64 - 1)) (files + 1) lengths))
with_one total files n (Ok lengths) = ap (λ (c : Content). counts c) (add_one total files n lengths)
with_one total files n (Err fault) = refl

pub counted_cons : (total files n : ℕ) (t : Term) (ts : List Term) → file_length_in t ≡ Ok n →
    counted total files (t ∷ ts) ≡ counted (min (total + n) (2 ^ 64 - 1)) (files + 1) ts
unfolding file_lengths_in
counted_cons total files n t ts is = rw is (with_one total files n (file_lengths_in ts))

-- a file that isn't one
pub counted_fault : (total files : ℕ) (t : Term) (ts : List Term) (fault : MetaFault) → file_length_in t ≡ Err fault →
    counted total files (t ∷ ts) ≡ Err fault
unfolding file_lengths_in
counted_fault total files t ts fault is = rw is refl

pub counted_all : (total files : ℕ) → total < 2 ^ 64 → counted total files [] ≡ Ok (record { total = total; files = files })
unfolding file_lengths_in
counted_all total files small =
    let t : min (total + 0) (2 ^ 64 - 1) ≡ total = omega arith in
    let f : files + 0 ≡ files = omega arith in
    rw (t, f) refl

-- ---- the files of a list

pub listed : (files : Term) (items : List Term) → ok_or (items_of files) (WrongKind key.Files) ≡ Ok items →
    content_listed files ≡ content_of_files items
unfolding content_listed
listed files items is = rw is refl

in_turn : (items : Result (List Term) MetaFault) →
    (items >>= λ files. content_of_files files) ≡ ((items >>= λ files. file_lengths_in files) >>= λ lengths. Ok (content_of lengths))
in_turn (Ok files) = refl
in_turn (Err fault) = refl

-- an info dictionary with several files
pub several_in : (info files : Term) → get info (key_name key.Length) ≡ None → get info (key_name key.Files) ≡ Some files →
    content_in info ≡ content_listed files
unfolding content_in lengths_in content_listed
several_in info files no_length is = rw (no_length, is) (sym (in_turn (ok_or (items_of files) (WrongKind key.Files))))
