-- What reading finds, its faults aside, is what the metainfo file says.
use Rattle.std.proofs.Common.{◌≡◌, ℕ, ℤ, pos, negsuc, List, [], ◌∷◌, Option, Some, None, Result, Ok, Err, refl, ap, ◌∙◌, Bool, true, false, cond}
use Rattle.std.specs.Prelude.{option_and_then}
use Rattle.std.specs.Option.{ok_or}
use Rattle.std.specs.Result.{result_ok}
use Rattle.bt_bencode.specs.Term.{Term, Entries, int, text, list, dict, get, int_of, text_of, items_of}
use Rattle.bt_bencode.specs.Reading.{◌>>=◌}
use Rattle.bt_meta.specs.declared.key.Key.{Key}
use Rattle.bt_meta.specs.declared.key.Key.TheVariants as key
use Rattle.bt_meta.specs.declared.fault.MetaFault.{MetaFault}
use Rattle.bt_meta.specs.declared.fault.MetaFault.TheVariants.{Missing, WrongKind}
use Rattle.bt_meta.specs.Keys.{key_name}
use Rattle.bt_meta.specs.Metainfo.{int_at, text_at, items_at, natural, length_at, is_path, file_length, file_lengths, lengths}
use Rattle.bt_meta.specs.Metainfo as says
use Rattle.bt_meta.specs.Reading.{value_in, int_in, text_in, items_in, length_in, natural_of, dictionary, path_in, file_length_in, file_lengths_in}
use Rattle.bt_meta.specs.Reading.{lengths_in}
use Rattle.bt_meta.specs.Reading as reading

-- a value that was found is in an `Ok`, and the other way round
pub found_ok : {A : Type 0} (r : Result A MetaFault) (x : A) → result_ok r ≡ Some x → r ≡ Ok x
found_ok (Ok y) x h = cc
found_ok (Err fault) x h = absurd cc

pub ok_found : {A : Type 0} (r : Result A MetaFault) (x : A) → r ≡ Ok x → result_ok r ≡ Some x
ok_found r x h = ap (λ (q : Result _ MetaFault). result_ok q) h

ok-ok_or : {A : Type 0} (o : Option A) (fault : MetaFault) → result_ok (ok_or o fault) ≡ o
ok-ok_or None fault = refl
ok-ok_or (Some x) fault = refl

of_kind : {A : Type 0} (o : Option Term) (kind : Term → Option A) (missing wrong : MetaFault) →
    result_ok (ok_or o missing >>= λ value. ok_or (kind value) wrong) ≡ option_and_then kind o
of_kind None kind missing wrong = refl
of_kind (Some value) kind missing wrong = ok-ok_or (kind value) wrong

pub value_found : (t : Term) (k : Key) → result_ok (value_in t k) ≡ get t (key_name k)
unfolding value_in
value_found t k = ok-ok_or (get t (key_name k)) (Missing k)

pub int_found : (t : Term) (k : Key) → result_ok (int_in t k) ≡ int_at t k
unfolding int_in value_in
int_found t k = of_kind (get t (key_name k)) int_of (Missing k) (WrongKind k)

pub text_found : (t : Term) (k : Key) → result_ok (text_in t k) ≡ text_at t k
unfolding text_in value_in
text_found t k = of_kind (get t (key_name k)) text_of (Missing k) (WrongKind k)

items_found : (t : Term) (k : Key) → result_ok (items_in t k) ≡ items_at t k
unfolding items_in value_in
items_found t k = of_kind (get t (key_name k)) items_of (Missing k) (WrongKind k)

natural_found : (r : Result ℤ MetaFault) → result_ok (r >>= λ n. natural_of n) ≡ option_and_then natural (result_ok r)
natural_found (Ok (pos n)) = refl
natural_found (Ok (negsuc n)) = refl
natural_found (Err fault) = refl

pub length_found : (t : Term) → result_ok (length_in t) ≡ length_at t
unfolding length_in
length_found t = natural_found (int_in t key.Length) ∙ ap (λ (o : Option ℤ). option_and_then natural o) (int_found t key.Length)

-- the answer of a test
abbrev tested : Bool → MetaFault → Result (Unit {0}) MetaFault
tested passes fault = cond passes (Ok tt) (Err fault)

abbrev refused : MetaFault → Result (Unit {0}) MetaFault
refused fault = Err fault

-- a length, and behind it a path
with_path : (b : Bool) (r : Result ℕ MetaFault) (wrong : MetaFault) →
    result_ok (r >>= λ n. tested b wrong >>= λ _. Ok n) ≡ cond b (result_ok r) None
with_path true (Ok n) wrong = refl
with_path false (Ok n) wrong = refl
with_path true (Err fault) wrong = refl
with_path false (Err fault) wrong = refl

no_path : (r : Result ℕ MetaFault) (fault : MetaFault) → result_ok (r >>= λ n. refused fault >>= λ _. Ok n) ≡ None
no_path (Ok n) fault = refl
no_path (Err wrong) fault = refl

of_file : (r : Result ℕ MetaFault) (q : Result (List Term) MetaFault) (wrong : MetaFault) →
    result_ok (r >>= λ n. (q >>= λ parts. tested (is_path parts) wrong) >>= λ _. Ok n)
    ≡ option_and_then (λ parts. cond (is_path parts) (result_ok r) None) (result_ok q)
of_file r (Ok parts) wrong = with_path (is_path parts) r wrong
of_file r (Err fault) wrong = no_path r fault

in_dictionary : (s : _) (es : Entries) → result_ok (file_length_in (dict s es)) ≡ file_length (dict s es)
unfolding file_length_in path_in
in_dictionary s es =
    let file : Term = dict s es in
    of_file (length_in file) (items_in file key.Path) (WrongKind key.Path) ∙ rw (length_found file, items_found file key.Path) refl

pub file_length_found : (file : Term) → result_ok (file_length_in file) ≡ file_length file
unfolding file_length_in
file_length_found (int s n) = refl
file_length_found (text s bytes) = refl
file_length_found (list s ts) = refl
file_length_found (dict s es) = in_dictionary s es

more_lengths : (r : Result ℕ MetaFault) (q : Result (List ℕ) MetaFault) →
    result_ok (r >>= λ n. q >>= λ ns. Ok (n ∷ ns))
    ≡ option_and_then (λ n. option_and_then (λ ns. Some (n ∷ ns)) (result_ok q)) (result_ok r)
more_lengths (Ok n) (Ok ns) = refl
more_lengths (Ok n) (Err fault) = refl
more_lengths (Err fault) q = refl

file_lengths_found : (files : List Term) → result_ok (file_lengths_in files) ≡ file_lengths files
unfolding file_lengths_in
file_lengths_found [] = refl
file_lengths_found (file ∷ files) =
    more_lengths (file_length_in file) (file_lengths_in files) ∙ rw (file_length_found file, file_lengths_found files) refl

one_length : (r : Result ℕ MetaFault) → result_ok (r >>= λ n. Ok (n ∷ [])) ≡ option_and_then (λ n. Some (n ∷ [])) (result_ok r)
one_length (Ok n) = refl
one_length (Err fault) = refl

several_lengths : (o : Option (List Term)) (wrong : MetaFault) →
    result_ok (ok_or o wrong >>= λ items. file_lengths_in items) ≡ option_and_then file_lengths o
several_lengths None wrong = refl
several_lengths (Some items) wrong = file_lengths_found items

lengths_by_found : (info : Term) (one several : Option Term) →
    result_ok (reading.lengths_in_by info one several) ≡ says.lengths_by info one several
lengths_by_found info None None = refl
lengths_by_found info (Some one) (Some files) = refl
lengths_by_found info (Some one) None = one_length (length_in info) ∙ rw (length_found info) refl
lengths_by_found info None (Some files) = several_lengths (items_of files) (WrongKind key.Files)

pub lengths_found : (info : Term) → result_ok (lengths_in info) ≡ lengths info
unfolding lengths_in
lengths_found info = lengths_by_found info (get info (key_name key.Length)) (get info (key_name key.Files))
