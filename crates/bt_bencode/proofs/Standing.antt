-- What stands at a place where a value was read.
use Rattle.std.proofs.Common.{◌≡◌, ◌≢◌, ℕ, zero, suc, ◌+◌, ◌-◌, ◌≤◌, ◌<◌, ℤ, List, ◌∷◌, length, get_or, drop, None, Some, Result, Ok, Err, refl, sym}
use Rattle.std.proofs.Common.{ap, ◌∙◌, arith, eqb, true, false, inl, inr}
use Rattle.std.specs.Prelude.{is_some}
use Rattle.std.specs.Char.{is_ascii_digit}
use Rattle.std.proofs.lemmas.Bool.{cases_lt, eqb-true, ne_eqb}
use Rattle.std.proofs.lemmas.Bool.Decides.{nat_tests}
use Rattle.bt_bencode.specs.declared.fault.BenFault.{BenFault}
use Rattle.bt_bencode.specs.declared.fault.BenFault.TheVariants.{Truncated, TooDeep, BadByte}
use Rattle.bt_bencode.specs.Term.{Term, Terms, Entries, int, text, list, dict, span_of, int_of, text_of, items_of, entries_of, get, list_of_terms}
use Rattle.bt_bencode.specs.Placed.{span}
use Rattle.bt_bencode.specs.Reading.{value_at, items_at, entries_at, items_in, entries_in, integer_at, string_at, value_behind, end_of}
use Rattle.bt_bencode.specs.Standing.{term_read, term_at}
use Rattle.bt_bencode.proofs.Results.{bind_ok, chosen, done, ok_is, never}
use Rattle.bt_bencode.proofs.Values.{value_here, value_past, items_deep, items_within, entries_deep, entries_within}

-- the term at a place up to an end, by the byte that it begins with
pub data Stands (room : ℕ) (source : List ℕ) (at : ℕ) (t : Term) (end : ℕ) : Type 0 where
  an_integer : (n : ℤ) → get_or source at 0 ≡ 105 → integer_at source (at + 1) ≡ Ok (n, end) → t ≡ int (span at end) n →
      Stands room source at t end
  a_string : (bytes : List ℕ) → is_ascii_digit (get_or source at 0) ≡ true → string_at source at ≡ Ok (bytes, end) →
      t ≡ text (span at end) bytes → Stands room source at t end
  a_list : (ts : Terms) → get_or source at 0 ≡ 108 → items_in room source (at + 1) ≡ Ok (ts, end) → t ≡ list (span at end) ts →
      Stands room source at t end
  a_dict : (es : Entries) → get_or source at 0 ≡ 100 → entries_in room source (at + 1) ≡ Ok (es, end) → t ≡ dict (span at end) es →
      Stands room source at t end

stand_behind : (room : ℕ) (source : List ℕ) (at : ℕ) (t : Term) (end c : ℕ) (cs : List ℕ) → get_or source at 0 ≡ c →
    value_behind (items_in room source) (entries_in room source) source at (c ∷ cs) ≡ Ok (t, end) → Stands room source at t end
stand_behind room source at t end c cs byte is =
    elim (chosen (eqb c 105) _ _ _ is) [
      | inl letter ↦
          let a = bind_ok (integer_at source (at + 1)) (λ n. Ok (int (span at n.1) n.0, n.1)) (t, end) letter.1 in
          let p = ok_is (int (span at a.0.1) a.0.0, a.0.1) (t, end) a.2 in
          let e : a.0.1 ≡ end = ap (λ (y : Term × ℕ). y.1) p in
          an_integer a.0.0 (byte ∙ eqb-true c 105 letter.0) (a.1 ∙ ap (λ (m : ℕ). done (a.0.0, m)) e)
          (sym (ap (λ (y : Term × ℕ). y.0) p) ∙ ap (λ (m : ℕ). int (span at m) a.0.0) e)
      | inr no_integer ↦ elim (chosen (is_ascii_digit c) _ _ _ no_integer.1) [
        | inl digit ↦
            let a = bind_ok (string_at source at) (λ b. Ok (text (span at b.1) b.0, b.1)) (t, end) digit.1 in
            let p = ok_is (text (span at a.0.1) a.0.0, a.0.1) (t, end) a.2 in
            let e : a.0.1 ≡ end = ap (λ (y : Term × ℕ). y.1) p in
            a_string a.0.0 (ap is_ascii_digit byte ∙ digit.0) (a.1 ∙ ap (λ (m : ℕ). done (a.0.0, m)) e)
            (sym (ap (λ (y : Term × ℕ). y.0) p) ∙ ap (λ (m : ℕ). text (span at m) a.0.0) e)
        | inr no_string ↦ elim (chosen (eqb c 108) _ _ _ no_string.1) [
          | inl letter ↦
              let a = bind_ok (items_in room source (at + 1)) (λ ts. Ok (list (span at ts.1) ts.0, ts.1)) (t, end) letter.1 in
              let p = ok_is (list (span at a.0.1) a.0.0, a.0.1) (t, end) a.2 in
              let e : a.0.1 ≡ end = ap (λ (y : Term × ℕ). y.1) p in
              a_list a.0.0 (byte ∙ eqb-true c 108 letter.0) (a.1 ∙ ap (λ (m : ℕ). done (a.0.0, m)) e)
              (sym (ap (λ (y : Term × ℕ). y.0) p) ∙ ap (λ (m : ℕ). list (span at m) a.0.0) e)
          | inr no_list ↦ elim (chosen (eqb c 100) _ _ _ no_list.1) [
            | inl letter ↦
                let a = bind_ok (entries_in room source (at + 1)) (λ es. Ok (dict (span at es.1) es.0, es.1)) (t, end) letter.1 in
                let p = ok_is (dict (span at a.0.1) a.0.0, a.0.1) (t, end) a.2 in
                let e : a.0.1 ≡ end = ap (λ (y : Term × ℕ). y.1) p in
                a_dict a.0.0 (byte ∙ eqb-true c 100 letter.0) (a.1 ∙ ap (λ (m : ℕ). done (a.0.0, m)) e)
                (sym (ap (λ (y : Term × ℕ). y.0) p) ∙ ap (λ (m : ℕ). dict (span at m) a.0.0) e)
            | inr other ↦ absurd (never BadByte _ other.1)
          ]
        ]
      ]
    ]

term_is : (r : Result (Term × ℕ) BenFault) (end : ℕ) → end_of r ≡ Ok end → r ≡ Ok (term_read r, end)
term_is (Ok (t, n)) end h = cc
term_is (Err fault) end h = absurd cc

pub value_is : (room : ℕ) (source : List ℕ) (at end : ℕ) → end_of (value_at room source at) ≡ Ok end →
    value_at room source at ≡ Ok (term_at room source at, end)
value_is room source at end h = term_is (value_at room source at) end h

-- a value begins before the end
pub value_inside : (room : ℕ) (source : List ℕ) (at end : ℕ) → end_of (value_at room source at) ≡ Ok end → at < length source
value_inside room source at end h =
    elim (cases_lt at (length source)) [
      | inl inside ↦ inside
      | inr past ↦ absurd (never Truncated (term_at room source at, end) (sym (value_past room source at past) ∙ value_is room source at end h))
    ]

pub stands : (room : ℕ) (source : List ℕ) (at end : ℕ) → end_of (value_at room source at) ≡ Ok end →
    Stands room source at (term_at room source at) end
stands room source at end h =
    let inside = value_inside room source at end h in
    stand_behind room source at (term_at room source at) end (get_or source at 0) (drop (at + 1) source) refl
    (sym (value_here room source at inside) ∙ value_is room source at end h)

pub span_stands : (room : ℕ) (source : List ℕ) (at : ℕ) (t : Term) (end : ℕ) → Stands room source at t end → span_of t ≡ span at end
span_stands room source at t end (an_integer n byte read is) = ap span_of is
span_stands room source at t end (a_string bytes byte read is) = ap span_of is
span_stands room source at t end (a_list ts byte read is) = ap span_of is
span_stands room source at t end (a_dict es byte read is) = ap span_of is

not_digit : (c n : ℕ) → c ≡ n → 57 < n → is_ascii_digit c ≡ true → ⊥
not_digit c n is high digit = grind (arith, nat_tests)

pub integer_stands : (room : ℕ) (source : List ℕ) (at : ℕ) (t : Term) (end : ℕ) → get_or source at 0 ≡ 105 →
    Stands room source at t end → (n : ℤ) × (integer_at source (at + 1) ≡ Ok (n, end)) × (int_of t ≡ Some n)
integer_stands room source at t end c (an_integer n byte read is) = (n, read, ap int_of is)
integer_stands room source at t end c (a_string bytes byte read is) = absurd (not_digit _ 105 c (omega arith) byte)
integer_stands room source at t end c (a_list ts byte read is) = absurd (omega arith)
integer_stands room source at t end c (a_dict es byte read is) = absurd (omega arith)

pub no_integer_stands : (room : ℕ) (source : List ℕ) (at : ℕ) (t : Term) (end : ℕ) → get_or source at 0 ≢ 105 →
    Stands room source at t end → int_of t ≡ None
no_integer_stands room source at t end c (an_integer n byte read is) = absurd (c byte)
no_integer_stands room source at t end c (a_string bytes byte read is) = ap int_of is
no_integer_stands room source at t end c (a_list ts byte read is) = ap int_of is
no_integer_stands room source at t end c (a_dict es byte read is) = ap int_of is

pub string_stands : (room : ℕ) (source : List ℕ) (at : ℕ) (t : Term) (end : ℕ) → is_ascii_digit (get_or source at 0) ≡ true →
    Stands room source at t end → (bytes : List ℕ) × (string_at source at ≡ Ok (bytes, end)) × (text_of t ≡ Some bytes)
string_stands room source at t end c (an_integer n byte read is) = absurd (not_digit _ 105 byte (omega arith) c)
string_stands room source at t end c (a_string bytes byte read is) = (bytes, read, ap text_of is)
string_stands room source at t end c (a_list ts byte read is) = absurd (not_digit _ 108 byte (omega arith) c)
string_stands room source at t end c (a_dict es byte read is) = absurd (not_digit _ 100 byte (omega arith) c)

pub no_string_stands : (room : ℕ) (source : List ℕ) (at : ℕ) (t : Term) (end : ℕ) → is_ascii_digit (get_or source at 0) ≡ false →
    Stands room source at t end → text_of t ≡ None
no_string_stands room source at t end c (an_integer n byte read is) = ap text_of is
no_string_stands room source at t end c (a_string bytes byte read is) = absurd cc
no_string_stands room source at t end c (a_list ts byte read is) = ap text_of is
no_string_stands room source at t end c (a_dict es byte read is) = ap text_of is

pub list_stands : (room : ℕ) (source : List ℕ) (at : ℕ) (t : Term) (end : ℕ) → get_or source at 0 ≡ 108 →
    Stands room source at t end → (ts : Terms) × (items_in room source (at + 1) ≡ Ok (ts, end)) × (items_of t ≡ Some (list_of_terms ts))
list_stands room source at t end c (an_integer n byte read is) = absurd (omega arith)
list_stands room source at t end c (a_string bytes byte read is) = absurd (not_digit _ 108 c (omega arith) byte)
list_stands room source at t end c (a_list ts byte read is) = (ts, read, ap items_of is)
list_stands room source at t end c (a_dict es byte read is) = absurd (omega arith)

pub no_list_stands : (room : ℕ) (source : List ℕ) (at : ℕ) (t : Term) (end : ℕ) → get_or source at 0 ≢ 108 →
    Stands room source at t end → items_of t ≡ None
no_list_stands room source at t end c (an_integer n byte read is) = ap items_of is
no_list_stands room source at t end c (a_string bytes byte read is) = ap items_of is
no_list_stands room source at t end c (a_list ts byte read is) = absurd (c byte)
no_list_stands room source at t end c (a_dict es byte read is) = ap items_of is

pub dict_stands : (room : ℕ) (source : List ℕ) (at : ℕ) (t : Term) (end : ℕ) → get_or source at 0 ≡ 100 →
    Stands room source at t end →
    (es : Entries) × (entries_in room source (at + 1) ≡ Ok (es, end)) × (t ≡ dict (span at end) es)
dict_stands room source at t end c (an_integer n byte read is) = absurd (omega arith)
dict_stands room source at t end c (a_string bytes byte read is) = absurd (not_digit _ 100 c (omega arith) byte)
dict_stands room source at t end c (a_list ts byte read is) = absurd (omega arith)
dict_stands room source at t end c (a_dict es byte read is) = (es, read, is)

pub nothing_stands : (room : ℕ) (source : List ℕ) (at : ℕ) (t : Term) (end : ℕ) (key : List ℕ) → get_or source at 0 ≢ 100 →
    Stands room source at t end → get t key ≡ None
nothing_stands room source at t end key c (an_integer n byte read is) = ap (λ (u : Term). get u key) is
nothing_stands room source at t end key c (a_string bytes byte read is) = ap (λ (u : Term). get u key) is
nothing_stands room source at t end key c (a_list ts byte read is) = ap (λ (u : Term). get u key) is
nothing_stands room source at t end key c (a_dict es byte read is) = absurd (c byte)

-- a list has one level at least
pub list_room : (room : ℕ) (source : List ℕ) (at : ℕ) (ts : Terms) (end : ℕ) → items_in room source at ≡ Ok (ts, end) → 1 ≤ room
list_room zero source at ts end is = absurd (never TooDeep (ts, end) (sym (items_deep 0 source at refl) ∙ is))
list_room (suc room) source at ts end is = omega arith

pub list_items : (room : ℕ) (source : List ℕ) (at : ℕ) (ts : Terms) (end : ℕ) → items_in room source at ≡ Ok (ts, end) →
    items_at (value_at (room - 1) source) source (length source) at ≡ Ok (ts, end)
list_items room source at ts end is = sym (items_within room source at (list_room room source at ts end is)) ∙ is

pub dict_room : (room : ℕ) (source : List ℕ) (at : ℕ) (es : Entries) (end : ℕ) → entries_in room source at ≡ Ok (es, end) → 1 ≤ room
dict_room zero source at es end is = absurd (never TooDeep (es, end) (sym (entries_deep 0 source at refl) ∙ is))
dict_room (suc room) source at es end is = omega arith

pub dict_entries : (room : ℕ) (source : List ℕ) (at : ℕ) (es : Entries) (end : ℕ) → entries_in room source at ≡ Ok (es, end) →
    entries_at (value_at (room - 1) source) source (length source) None at ≡ Ok (es, end)
dict_entries room source at es end is = sym (entries_within room source at (dict_room room source at es end is)) ∙ is

pub is_dict_stands : (room : ℕ) (source : List ℕ) (at : ℕ) (t : Term) (end : ℕ) → Stands room source at t end →
    is_some (entries_of t) ≡ eqb (get_or source at 0) 100
is_dict_stands room source at t end (an_integer n byte read is) = rw (is, byte) refl
is_dict_stands room source at t end (a_string bytes byte read is) =
    rw (is, ne_eqb (get_or source at 0) 100 (λ e. not_digit _ 100 e (omega arith) byte)) refl
is_dict_stands room source at t end (a_list ts byte read is) = rw (is, byte) refl
is_dict_stands room source at t end (a_dict es byte read is) = rw (is, byte) refl
