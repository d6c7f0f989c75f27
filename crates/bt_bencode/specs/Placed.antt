-- Where the parts of a tree stand in the source.
use Rattle.std.specs.Prelude.{ℕ, ◌+◌, ◌-◌, ◌≤◌, ◌≡◌, List, length, take, drop}
use Rattle.bt_bencode.specs.declared.span.Span.{Span}
use Rattle.bt_bencode.specs.Term.{Term, Terms, Entries, int, text, list, dict, no_terms, more_terms, no_entries, more_entries}
use Rattle.bt_bencode.specs.Grammar.{spelling, string}

-- from one place up to another
abbrev pub span : ℕ → ℕ → Span
span from to = record { start = from; end = to }

-- the tree with the spans that its parts have where its spelling begins at this place
abbrev mutual
  pub placed : ℕ → Term → Term
  placed at (int s n) = int (span at (at + length (spelling (int s n)))) n
  placed at (text s bytes) = text (span at (at + length (spelling (text s bytes)))) bytes
  placed at (list s ts) = list (span at (at + length (spelling (list s ts)))) (terms_placed (at + 1) ts)
  placed at (dict s es) = dict (span at (at + length (spelling (dict s es)))) (entries_placed (at + 1) es)

  pub terms_placed : ℕ → Terms → Terms
  terms_placed at no_terms = no_terms
  terms_placed at (more_terms t ts) = more_terms (placed at t) (terms_placed (at + length (spelling t)) ts)

  pub entries_placed : ℕ → Entries → Entries
  entries_placed at no_entries = no_entries
  entries_placed at (more_entries k t es) =
      more_entries k (placed (at + length (string k)) t) (entries_placed (at + length (string k) + length (spelling t)) es)

-- the bytes of the source that a span names
abbrev pub part : List ℕ → Span → List ℕ
part source s = take (s.end - s.start) (drop s.start source)

-- this text stands in the source where the span says
pub record StandsAt (source : List ℕ) (s : Span) (text : List ℕ) : Type 0 where
  pub order : s.start ≤ s.end
  pub within : s.end ≤ length source
  pub text_is : part source s ≡ text
