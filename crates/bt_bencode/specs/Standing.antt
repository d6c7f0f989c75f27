-- The terms that a `Value` and an `Items` stand for: what is read where they stand.
use Rattle.std.specs.Prelude.{ℕ, pos, ◌≡◌, ◌≤◌, ◌<◌, ◌^◌, List, length, Result, Ok, Err, None}
use Rattle.bt_bencode.specs.declared.fault.BenFault.{BenFault}
use Rattle.bt_bencode.specs.declared.tree.TheConstants.{MAX_DEPTH}
use Rattle.bt_bencode.specs.Term.{Term, Terms, Entries, int, no_terms, no_entries, list_of_terms}
use Rattle.bt_bencode.specs.Made.{no_span}
use Rattle.bt_bencode.specs.Reading.{value_at, items_at, entries_at, end_of}

-- the term that was read; where none was, which no `Value` has, an integer
abbrev pub term_read : Result (Term × ℕ) BenFault → Term
term_read (Ok x) = x.0
term_read (Err fault) = int no_span (pos 0)

-- the items that were read; where none were, which no `Items` has, no items
abbrev pub terms_read : Result (Terms × ℕ) BenFault → Terms
terms_read (Ok x) = x.0
terms_read (Err fault) = no_terms

-- the entries that were read; where none were, no entries
abbrev pub entries_read : Result (Entries × ℕ) BenFault → Entries
entries_read (Ok x) = x.0
entries_read (Err fault) = no_entries

-- the value at a place, with room for this many levels
abbrev pub term_at : ℕ → List ℕ → ℕ → Term
term_at room source at = term_read (value_at room source at)

-- the items of a list from a place on, each with room for this many levels
abbrev pub terms_standing : ℕ → List ℕ → ℕ → List Term
terms_standing room source at = list_of_terms (terms_read (items_at (value_at room source) source (length source) at))

-- the entries of a dictionary from its first on, each value with room for this many levels
abbrev pub entries_standing : ℕ → List ℕ → ℕ → Entries
entries_standing room source at = entries_read (entries_at (value_at room source) source (length source) None at)

-- a value with room for so many levels stands in the source, from `start` up to `end`
pub record IsValue (room : ℕ) (source : List ℕ) (start : ℕ) (end : ℕ) : Type 0 where
  pub deep : room ≤ MAX_DEPTH
  pub short : length source < 2 ^ 64
  pub read : end_of (value_at room source start) ≡ Ok end

-- the rest of a list stands there
pub record AreItems (room : ℕ) (source : List ℕ) (at : ℕ) : Type 0 where
  pub deep : room < MAX_DEPTH
  pub short : length source < 2 ^ 64
  pub end : ℕ
  pub read : end_of (items_at (value_at room source) source (length source) at) ≡ Ok end

-- the entries of a dictionary stand there
pub record AreEntries (room : ℕ) (source : List ℕ) (at : ℕ) : Type 0 where
  pub deep : room < MAX_DEPTH
  pub short : length source < 2 ^ 64
  pub end : ℕ
  pub read : end_of (entries_at (value_at room source) source (length source) None at) ≡ Ok end
