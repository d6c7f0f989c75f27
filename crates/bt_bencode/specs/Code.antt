-- By which a proof tells terms apart: each is stored as a tree of numbers.
use Rattle.std.specs.Prelude.{ℕ, ◌≡◌, List}
use Rattle.std.proofs.Common.{refl}
use Rattle.std.specs.Coded.{Coded, code_by, coded×, coded_ℕ, coded_ℤ, coded_list}
use base.Stored.{Gv, gnil, gnum, gcons}
use Rattle.bt_bencode.specs.declared.span.Span.{Span}
use Rattle.bt_bencode.specs.Term.{Term, Terms, Entries, int, text, list, dict, no_terms, more_terms, no_entries, more_entries}

-- a span as a pair of numbers
abbrev pub coded_span : Coded Span
coded_span = code_by (ℕ × ℕ) (coded× coded_ℕ coded_ℕ) (λ s. (s.start, s.end)) (λ p. record { start = p.0; end = p.1 }) (λ _. refl)

-- a string as a list of numbers
abbrev pub text_code : Coded (List ℕ)
text_code = coded_list coded_ℕ

abbrev mutual
  pub term_code : Term → Gv
  term_code (int s n) = gcons (gnum 0) (gcons (coded_span.code s) (coded_ℤ.code n))
  term_code (text s bytes) = gcons (gnum 1) (gcons (coded_span.code s) (text_code.code bytes))
  term_code (list s ts) = gcons (gnum 2) (gcons (coded_span.code s) (terms_code ts))
  term_code (dict s es) = gcons (gnum 3) (gcons (coded_span.code s) (entries_code es))

  pub terms_code : Terms → Gv
  terms_code no_terms = gnil
  terms_code (more_terms t ts) = gcons (term_code t) (terms_code ts)

  pub entries_code : Entries → Gv
  entries_code no_entries = gnil
  entries_code (more_entries k t es) = gcons (text_code.code k) (gcons (term_code t) (entries_code es))

mutual
  pub term_inj : (x y : Term) → term_code x ≡ term_code y → x ≡ y
  term_inj (int s n) (int r m) p =
      let a : coded_span.code s ≡ coded_span.code r = cc in
      let b : coded_ℤ.code n ≡ coded_ℤ.code m = cc in
      let e : s ≡ r = coded_span.inj s r a in
      let f : n ≡ m = coded_ℤ.inj n m b in
      cc
  term_inj (text s x) (text r y) p =
      let a : coded_span.code s ≡ coded_span.code r = cc in
      let b : text_code.code x ≡ text_code.code y = cc in
      let e : s ≡ r = coded_span.inj s r a in
      let f : x ≡ y = text_code.inj x y b in
      cc
  term_inj (list s x) (list r y) p =
      let a : coded_span.code s ≡ coded_span.code r = cc in
      let b : terms_code x ≡ terms_code y = cc in
      let e : s ≡ r = coded_span.inj s r a in
      let f : x ≡ y = terms_inj x y b in
      cc
  term_inj (dict s x) (dict r y) p =
      let a : coded_span.code s ≡ coded_span.code r = cc in
      let b : entries_code x ≡ entries_code y = cc in
      let e : s ≡ r = coded_span.inj s r a in
      let f : x ≡ y = entries_inj x y b in
      cc
  term_inj _ _ p = absurd cc

  pub terms_inj : (x y : Terms) → terms_code x ≡ terms_code y → x ≡ y
  terms_inj no_terms no_terms p = refl
  terms_inj (more_terms t ts) (more_terms u us) p =
      let a : term_code t ≡ term_code u = cc in
      let b : terms_code ts ≡ terms_code us = cc in
      let e : t ≡ u = term_inj t u a in
      let f : ts ≡ us = terms_inj ts us b in
      cc
  terms_inj _ _ p = absurd cc

  pub entries_inj : (x y : Entries) → entries_code x ≡ entries_code y → x ≡ y
  entries_inj no_entries no_entries p = refl
  entries_inj (more_entries k t ts) (more_entries l u us) p =
      let a : text_code.code k ≡ text_code.code l = cc in
      let b : term_code t ≡ term_code u = cc in
      let d : entries_code ts ≡ entries_code us = cc in
      let e : k ≡ l = text_code.inj k l a in
      let f : t ≡ u = term_inj t u b in
      let g : ts ≡ us = entries_inj ts us d in
      cc
  entries_inj _ _ p = absurd cc

-- a term as a tree of numbers, from which it can be read again
abbrev pub coded_term : Coded Term
coded_term = record { code = term_code; inj = term_inj }
