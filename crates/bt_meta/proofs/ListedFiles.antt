-- The files that a loop lists one after the other, and how long they are together.
use Rattle.std.proofs.Common.{◌≡◌, ◌∙◌, ℕ, ◌++◌, List, [], ◌∷◌, Result, Ok, Err, refl, sym, ap}
use Rattle.std.proofs.lemmas.List.{append_assoc, append-nil}
use Rattle.std.specs.Option.{ok_or}
use Rattle.bt_bencode.specs.Term.{Term, items_of}
use Rattle.bt_bencode.specs.Reading.{◌>>=◌}
use Rattle.bt_meta.specs.declared.fault.MetaFault.{MetaFault}
use Rattle.bt_meta.specs.declared.fault.MetaFault.TheVariants.{WrongKind, NoMemory}
use Rattle.bt_meta.specs.declared.key.Key.TheVariants as key
use Rattle.bt_meta.specs.Files.{Listed, file_in, files_at, files_within}
use Rattle.bt_meta.specs.Reading.{Fails}

abbrev given : List Listed → Result (List Listed) MetaFault
given files = Ok files

-- some files, and those of a list behind them
abbrev pub listed_with : List Listed → List ℕ → List Term → Result (List Listed) MetaFault
listed_with files folder rest = files_within folder rest >>= λ more. Ok (files ++ more)

behind : (files : List Listed) (f : Listed) (rest : Result (List Listed) MetaFault)
    → ((rest >>= λ fs. Ok (f ∷ fs)) >>= λ more. Ok (files ++ more)) ≡ (rest >>= λ more. Ok ((files ++ (f ∷ [])) ++ more))
behind files f (Ok more) = ap (λ (fs : List Listed). given fs) (sym (append_assoc files (f ∷ []) more))
behind files f (Err fault) = refl

-- one file more
pub listed_cons : (files : List Listed) (folder : List ℕ) (t : Term) (ts : List Term) (f : Listed) → file_in folder t ≡ Ok f
    → listed_with files folder (t ∷ ts) ≡ listed_with (files ++ (f ∷ [])) folder ts
unfolding files_within
listed_cons files folder t ts f is = rw is (behind files f (files_within folder ts))

-- one that isn't a file
listed_fault : (files : List Listed) (folder : List ℕ) (t : Term) (ts : List Term) (fault : MetaFault) → file_in folder t ≡ Err fault
    → listed_with files folder (t ∷ ts) ≡ Err fault
unfolding files_within
listed_fault files folder t ts fault is = rw is refl

-- what fails by one reading fails by another one that has the same fault
fails_then : {X Y : Type 0} (fault : MetaFault) (part : Result X MetaFault) (whole : Result Y MetaFault) → (part ≡ Err fault → whole ≡ Err fault)
    → Fails fault part → Fails fault whole
fails_then NoMemory part whole follows is = tt
fails_then fault part whole follows is = follows is

-- the loop ends where a file is none, or where memory runs out
pub listed_fails : (files : List Listed) (folder : List ℕ) (t : Term) (ts : List Term) (fault : MetaFault) (whole : Result (List Listed) MetaFault)
    → Fails fault (file_in folder t) → listed_with files folder (t ∷ ts) ≡ whole → Fails fault whole
listed_fails files folder t ts fault whole fails is =
    fails_then fault (file_in folder t) whole (λ wrong. sym is ∙ listed_fault files folder t ts fault wrong) fails

-- no file more
pub listed_all : (files : List Listed) (folder : List ℕ) → listed_with files folder [] ≡ Ok files
unfolding files_within
listed_all files folder = ap (λ (fs : List Listed). given fs) (append-nil files)

-- what is at `files` is a list
pub at_list : (folder : List ℕ) (several : Term) (items : List Term) → ok_or (items_of several) (WrongKind key.Files) ≡ Ok items
    → files_at folder several ≡ files_within folder items
unfolding files_at
at_list folder several items is = rw is refl
