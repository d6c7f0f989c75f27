-- The grammar of bencode (BEP 3), by cases on the tree: each tree has one spelling.
use Rattle.std.specs.Prelude.{ℕ, ◌<◌, ◌≤◌, ◌^◌, ◌≡◌, List, [], ◌∷◌, ◌++◌, length, Bool, true, ◌&&◌, IsTrue, decimal, FitsSigned}
use Rattle.std.specs.Fmt.{signed_decimal}
use Rattle.std.specs.Int.{w64}
use Rattle.std.specs.Ordering.{nat_cmp, is_lt}
use Rattle.std.specs.Cmp.Lexicographic.{slice_cmp}
use Rattle.bt_bencode.specs.declared.tree.TheConstants.{MAX_DEPTH}
use Rattle.bt_bencode.specs.Term.{Term, Terms, Entries, int, text, list, dict, no_terms, more_terms, no_entries, more_entries, depth}

-- `i`, `l`, `d`, `e`, `:`, `-` and `0` in ASCII
abbrev pub letter_i : ℕ
letter_i = 105

abbrev pub letter_l : ℕ
letter_l = 108

abbrev pub letter_d : ℕ
letter_d = 100

abbrev pub letter_e : ℕ
letter_e = 101

abbrev pub colon : ℕ
colon = 58

abbrev pub minus : ℕ
minus = 45

abbrev pub digit_zero : ℕ
digit_zero = 48

-- a string: its length in base ten, a colon, the bytes
abbrev pub string : List ℕ → List ℕ
string bytes = decimal (length bytes) ++ colon ∷ bytes

-- how a tree is spelled: numbers in base ten between `i` and `e`, lists between `l` and `e`, dictionaries as their entries between `d` and `e`
abbrev mutual
  pub spelling : Term → List ℕ
  spelling (int s n) = letter_i ∷ signed_decimal n ++ letter_e ∷ []
  spelling (text s bytes) = string bytes
  spelling (list s ts) = letter_l ∷ spelling_of_terms ts ++ letter_e ∷ []
  spelling (dict s es) = letter_d ∷ spelling_of_entries es ++ letter_e ∷ []

  pub spelling_of_terms : Terms → List ℕ
  spelling_of_terms no_terms = []
  spelling_of_terms (more_terms t ts) = spelling t ++ spelling_of_terms ts

  pub spelling_of_entries : Entries → List ℕ
  spelling_of_entries no_entries = []
  spelling_of_entries (more_entries k t es) = string k ++ (spelling t ++ spelling_of_entries es)

-- the key is below the first of these, where there is one, in the order of raw bytes
abbrev pub comes_before : List ℕ → Entries → Bool
comes_before key no_entries = true
comes_before key (more_entries k t es) = is_lt (slice_cmp nat_cmp key k)

-- the keys are in sorted order, none twice
abbrev pub keys_rise : Entries → Bool
keys_rise no_entries = true
keys_rise (more_entries k t es) = comes_before k es && keys_rise es

-- Integers are within i64, lengths within 64 bits, and keys rise.
abbrev mutual
  pub IsSound : Term → Type 0
  IsSound (int s n) = FitsSigned w64 n
  IsSound (text s bytes) = length bytes < 2 ^ 64
  IsSound (list s ts) = AreSound ts
  IsSound (dict s es) = IsTrue (keys_rise es) × EntriesAreSound es

  pub AreSound : Terms → Type 0
  AreSound no_terms = Unit {0}
  AreSound (more_terms t ts) = IsSound t × AreSound ts

  pub EntriesAreSound : Entries → Type 0
  EntriesAreSound no_entries = Unit {0}
  EntriesAreSound (more_entries k t es) = (length k < 2 ^ 64) × IsSound t × EntriesAreSound es

-- a tree of bencode: sound, and with no more levels of lists and dictionaries than are read
abbrev pub IsTree : Term → Type 0
IsTree t = IsSound t × (depth t ≤ MAX_DEPTH)

-- these bytes are the spelling of this tree
pub record Spells (t : Term) (bytes : List ℕ) : Type 0 where
  pub is_tree : IsTree t
  pub spelled : spelling t ≡ bytes
