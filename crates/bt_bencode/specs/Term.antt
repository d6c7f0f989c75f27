-- A bencoded value (BEP 3) as contracts see a `Tree` and a `Value`: one of BEP 3's four kinds, with the place of each part in the source.
use Rattle.std.specs.Prelude.{ℕ, suc, max, ℤ, List, [], ◌∷◌, Option, Some, None, if◌then◌else◌}
use Rattle.std.specs.Str.{bytes_eq}
use Rattle.bt_bencode.specs.declared.span.Span.{Span}

mutual
  pub data Term : Type 0 where
    int : Span → ℤ → Term
    text : Span → List ℕ → Term
    list : Span → Terms → Term
    dict : Span → Entries → Term

  -- the items of a list
  pub data Terms : Type 0 where
    no_terms : Terms
    more_terms : Term → Terms → Terms

  -- the keys of a dictionary, each with its value
  pub data Entries : Type 0 where
    no_entries : Entries
    more_entries : List ℕ → Term → Entries → Entries

-- where it stands in the source
abbrev pub span_of : Term → Span
span_of (int s n) = s
span_of (text s bytes) = s
span_of (list s ts) = s
span_of (dict s es) = s

-- its integer, where it is one
abbrev pub int_of : Term → Option ℤ
int_of (int s n) = Some n
int_of (text s bytes) = None
int_of (list s ts) = None
int_of (dict s es) = None

-- its bytes, where it is a string
abbrev pub text_of : Term → Option (List ℕ)
text_of (int s n) = None
text_of (text s bytes) = Some bytes
text_of (list s ts) = None
text_of (dict s es) = None

-- the terms as a list
abbrev pub list_of_terms : Terms → List Term
list_of_terms no_terms = []
list_of_terms (more_terms t ts) = t ∷ list_of_terms ts

-- the entries as a list of keys and values
abbrev pub list_of_entries : Entries → List (List ℕ × Term)
list_of_entries no_entries = []
list_of_entries (more_entries k t es) = (k, t) ∷ list_of_entries es

-- its items, where it is a list
abbrev pub items_of : Term → Option (List Term)
items_of (int s n) = None
items_of (text s bytes) = None
items_of (list s ts) = Some (list_of_terms ts)
items_of (dict s es) = None

-- its entries, where it is a dictionary
abbrev pub entries_of : Term → Option (List (List ℕ × Term))
entries_of (int s n) = None
entries_of (text s bytes) = None
entries_of (list s ts) = None
entries_of (dict s es) = Some (list_of_entries es)

-- the value at a key, among these entries
abbrev pub entry_at : List ℕ → Entries → Option Term
entry_at key no_entries = None
entry_at key (more_entries k t es) = if bytes_eq k key then Some t else entry_at key es

-- the value at a key, where it is a dictionary that has the key
abbrev pub get : Term → List ℕ → Option Term
get (int s n) key = None
get (text s bytes) key = None
get (list s ts) key = None
get (dict s es) key = entry_at key es

-- how many lists and dictionaries stand inside one another
abbrev mutual
  pub depth : Term → ℕ
  depth (int s n) = 0
  depth (text s bytes) = 0
  depth (list s ts) = suc (depth_of_terms ts)
  depth (dict s es) = suc (depth_of_entries es)

  pub depth_of_terms : Terms → ℕ
  depth_of_terms no_terms = 0
  depth_of_terms (more_terms t ts) = max (depth t) (depth_of_terms ts)

  pub depth_of_entries : Entries → ℕ
  depth_of_entries no_entries = 0
  depth_of_entries (more_entries k t es) = max (depth t) (depth_of_entries es)
