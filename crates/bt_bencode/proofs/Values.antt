-- What stands at a place, whatever the room.
use Rattle.std.proofs.Common.{◌≡◌, ℕ, zero, suc, ◌+◌, ◌-◌, ◌≤◌, ◌<◌, List, ◌∷◌, length, get_or, drop, None, Ok, Err}
use Rattle.std.proofs.Common.{refl, arith, eqb, true, false, ◌≢◌}
use Rattle.std.specs.Char.{is_ascii_digit}
use Rattle.std.proofs.lemmas.Bool.{ne_eqb}
use Rattle.std.proofs.lemmas.Bool.Decides.{nat_tests}
use Rattle.std.proofs.lemmas.List.{drop_more, drop_all}
use Rattle.bt_bencode.specs.declared.fault.BenFault.TheVariants.{Truncated, TooDeep, BadByte}
use Rattle.bt_bencode.specs.Term.{text}
use Rattle.bt_bencode.specs.Reading.{◌>>=◌, string_at, value_at, value_behind, items_at, entries_at, items_in, entries_in}
use Rattle.bt_bencode.specs.Placed.{span}

value_is : (room : ℕ) (source : List ℕ) (at : ℕ) →
    value_at room source at ≡ value_behind (items_in room source) (entries_in room source) source at (drop at source)
unfolding value_at items_in entries_in
value_is zero source at = refl
value_is (suc room) source at = refl

pub value_here : (room : ℕ) (source : List ℕ) (at : ℕ) → at < length source →
    value_at room source at ≡ value_behind (items_in room source) (entries_in room source) source at
    (get_or source at 0 ∷ drop (at + 1) source)
value_here room source at h = rw (value_is room source at, drop_more source at 0 h) refl

pub value_past : (room : ℕ) (source : List ℕ) (at : ℕ) → length source ≤ at → value_at room source at ≡ Err Truncated
value_past room source at h = rw (value_is room source at, drop_all at source h) refl

pub items_deep : (room : ℕ) (source : List ℕ) (at : ℕ) → room ≡ 0 → items_in room source at ≡ Err TooDeep
unfolding items_in
items_deep zero source at h = refl
items_deep (suc room) source at h = absurd (omega arith)

pub items_within : (room : ℕ) (source : List ℕ) (at : ℕ) → 0 < room →
    items_in room source at ≡ items_at (value_at (room - 1) source) source (length source) at
unfolding items_in
items_within zero source at h = absurd (omega arith)
items_within (suc room) source at h = let e : suc room - 1 ≡ room = omega arith in rw e refl

pub entries_deep : (room : ℕ) (source : List ℕ) (at : ℕ) → room ≡ 0 → entries_in room source at ≡ Err TooDeep
unfolding entries_in
entries_deep zero source at h = refl
entries_deep (suc room) source at h = absurd (omega arith)

pub entries_within : (room : ℕ) (source : List ℕ) (at : ℕ) → 0 < room →
    entries_in room source at ≡ entries_at (value_at (room - 1) source) source (length source) None at
unfolding entries_in
entries_within zero source at h = absurd (omega arith)
entries_within (suc room) source at h = let e : suc room - 1 ≡ room = omega arith in rw e refl

no_letter : (c n : ℕ) → 57 < n → is_ascii_digit c ≡ true → eqb c n ≡ false
no_letter c n h digit = ne_eqb c n (λ is. grind (arith, nat_tests))

-- a string
pub value_string : (room : ℕ) (source : List ℕ) (at : ℕ) → at < length source → is_ascii_digit (get_or source at 0) ≡ true →
    value_at room source at ≡ (string_at source at >>= λ b. Ok (text (span at b.1) b.0, b.1))
value_string room source at h digit = rw (value_here room source at h, no_letter (get_or source at 0) 105 (omega arith) digit, digit) refl

-- no value
pub value_other : (room : ℕ) (source : List ℕ) (at : ℕ) → at < length source → get_or source at 0 ≢ 105 → get_or source at 0 ≢ 108 →
    get_or source at 0 ≢ 100 → is_ascii_digit (get_or source at 0) ≡ false → value_at room source at ≡ Err BadByte
value_other room source at h i l d digit = rw (value_here room source at h, ne_eqb _ 105 i, ne_eqb _ 108 l, ne_eqb _ 100 d, digit) refl

-- what a proof of the reader of a value takes from this file
pub ruleset value_rules = (value_here, value_string, value_other, value_past, items_deep, items_within, entries_deep, entries_within)
