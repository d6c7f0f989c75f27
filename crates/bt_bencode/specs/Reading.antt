-- Reading from left to right, up to the first fault. A place is the offset of a byte in the source. What is read comes with
-- the place behind it.
use Rattle.std.specs.Prelude.{◌≡◌, ℕ, zero, suc, ◌+◌, ◌-◌, ◌^◌, ℤ, pos, Bool, false, ◌&&◌, ◌||◌, not, List, [], ◌∷◌, length, take, drop}
use Rattle.std.specs.Prelude.{take_while, Option, Some, None, Result, Ok, Err, nat_lt, ◌==◌, if◌then◌else◌, slice_index}
use Rattle.std.specs.Char.{is_ascii_digit}
use Rattle.std.specs.Str.Parse.{digits_value}
use Rattle.std.specs.Ordering.{nat_cmp, is_lt}
use Rattle.std.specs.Cmp.Lexicographic.{slice_cmp}
use lib.IntN.{neg_ℤ}
use Rattle.bt_bencode.specs.declared.fault.BenFault.{BenFault}
use Rattle.bt_bencode.specs.declared.fault.BenFault.TheVariants.{Truncated, BadInteger, IntegerRange, BadLength, KeyOrder, KeyKind, TooDeep}
use Rattle.bt_bencode.specs.declared.fault.BenFault.TheVariants.{Trailing, BadByte, NoMemory}
use Rattle.bt_bencode.specs.declared.tree.TheConstants.{MAX_DEPTH}
use Rattle.bt_bencode.specs.Term.{Term, Terms, Entries, int, text, list, dict, no_terms, more_terms, no_entries, more_entries}
use Rattle.bt_bencode.specs.Grammar.{letter_i, letter_l, letter_d, letter_e, colon, minus, digit_zero}
use Rattle.bt_bencode.specs.Placed.{span}

-- the next step of a reading that met no fault so far
infixl 10 ◌>>=◌
abbrev pub ◌>>=◌ : {A B E : Type 0} → Result A E → (A → Result B E) → Result B E
(Ok x) >>= f = f x
(Err fault) >>= f = Err fault

-- reading gives this fault, or memory ran out
abbrev pub Fails : {Y : Type 0} → BenFault → Result Y BenFault → Type 0
Fails NoMemory reading = Unit {0}
Fails fault reading = reading ≡ Err fault

-- what a function returned, its value seen by view, is what reading gives, unless memory ran out
abbrev pub Gives : {X Y : Type 0} → (X → Y) → Result X BenFault → Result Y BenFault → Type 0
Gives view (Ok x) reading = reading ≡ Ok (view x)
Gives view (Err fault) reading = Fails fault reading

-- a result with its value seen by view
abbrev pub seen : {X Y E : Type 0} → (X → Y) → Result X E → Result Y E
seen view (Ok x) = Ok (view x)
seen view (Err fault) = Err fault

-- the place behind what is read
abbrev pub end_of : {A : Type 0} → Result (A × ℕ) BenFault → Result ℕ BenFault
end_of (Ok x) = Ok x.1
end_of (Err fault) = Err fault

-- the longest run of digits at a place
abbrev pub run_at : List ℕ → ℕ → List ℕ
run_at source at = take_while is_ascii_digit (drop at source)

-- the run begins with a zero that isn't all of it
abbrev pub is_padded : List ℕ → Bool
is_padded run = nat_lt 1 (length run) && slice_index run 0 == digit_zero

-- the bytes of a string of this length, behind the colon
abbrev pub bytes_at : List ℕ → ℕ → ℕ → Result (List ℕ × ℕ) BenFault
bytes_at source at n = if nat_lt (length source - at) n then Err Truncated else Ok (take n (drop at source), at + n)

-- a string, behind the digits of its length
abbrev pub string_behind : List ℕ → ℕ → List ℕ → List ℕ → Result (List ℕ × ℕ) BenFault
string_behind source end run [] = Err Truncated
string_behind source end run (c ∷ cs) =
    if c == colon then (if is_padded run then Err BadLength else bytes_at source (end + 1) (digits_value 10 run))
    else Err BadLength

-- a string, at whose place a digit stands
unfoldable pub string_at : List ℕ → ℕ → Result (List ℕ × ℕ) BenFault
string_at source at =
    let run = run_at source at in
    let end = at + length run in
    string_behind source end run (drop end source)

-- the number with its sign
abbrev pub signed_of : Bool → ℕ → ℤ
signed_of negative n = if negative then neg_ℤ (pos n) else pos n

-- the number that a sign and a run of digits write, within i64
abbrev pub integer_of : Bool → List ℕ → Result ℤ BenFault
integer_of negative run =
    if length run == 0 || is_padded run || (negative && slice_index run 0 == digit_zero) then Err BadInteger
    else (if nat_lt (digits_value 10 run) (if negative then 2 ^ 63 + 1 else 2 ^ 63) then Ok (signed_of negative (digits_value 10 run))
    else Err IntegerRange)

-- an integer, behind its digits
abbrev pub integer_behind : ℕ → Bool → List ℕ → List ℕ → Result (ℤ × ℕ) BenFault
integer_behind end negative run [] = Err Truncated
integer_behind end negative run (c ∷ cs) =
    if c == letter_e then (integer_of negative run >>= λ n. Ok (n, end + 1)) else Err BadInteger

-- an integer, behind its `i`
unfoldable pub integer_at : List ℕ → ℕ → Result (ℤ × ℕ) BenFault
integer_at source at =
    let negative = slice_index source at == minus in
    let start = (if negative then at + 1 else at) in
    let run = run_at source start in
    let end = start + length run in
    integer_behind end negative run (drop end source)

-- items, by what reads one value and what reads the items behind it
abbrev pub items_behind : (ℕ → Result (Term × ℕ) BenFault) → (ℕ → Result (Terms × ℕ) BenFault) → ℕ → List ℕ → Result (Terms × ℕ) BenFault
items_behind value more at [] = Err Truncated
items_behind value more at (c ∷ cs) =
    if c == letter_e then Ok (no_terms, at + 1)
    else (value at >>= λ t. more t.1 >>= λ ts. Ok (more_terms t.0 ts.0, ts.1))

-- The items of a list up to its end. `turns` bounds their number: as many as there are bytes is always enough.
unfoldable pub items_at : (ℕ → Result (Term × ℕ) BenFault) → List ℕ → ℕ → ℕ → Result (Terms × ℕ) BenFault
items_at value source zero at = Err Truncated
items_at value source (suc turns) at = items_behind value (items_at value source turns) at (drop at source)

-- a key that should have come earlier: it is no greater than the last one
abbrev pub is_late : Option (List ℕ) → List ℕ → Bool
is_late None key = false
is_late (Some last) key = not (is_lt (slice_cmp nat_cmp last key))

-- why no key begins with this byte
abbrev pub no_key : ℕ → BenFault
no_key c = if c == letter_i || c == letter_l || c == letter_d then KeyKind else BadByte

-- the key at a place, behind the last one
unfoldable pub key_at : List ℕ → Option (List ℕ) → ℕ → Result (List ℕ × ℕ) BenFault
key_at source last at =
    if is_ascii_digit (slice_index source at) then (string_at source at >>= λ k. if is_late last k.0 then Err KeyOrder else Ok k)
    else Err (no_key (slice_index source at))

-- entries, by what reads one value and what reads the entries behind a key and its value
abbrev pub entries_behind : (ℕ → Result (Term × ℕ) BenFault) → (List ℕ → ℕ → Result (Entries × ℕ) BenFault) → List ℕ → Option (List ℕ) → ℕ →
    List ℕ → Result (Entries × ℕ) BenFault
entries_behind value more source last at [] = Err Truncated
entries_behind value more source last at (c ∷ cs) =
    if c == letter_e then Ok (no_entries, at + 1)
    else (if is_ascii_digit c then (string_at source at >>= λ k.
    if is_late last k.0 then Err KeyOrder
    else (value k.1 >>= λ t. more k.0 t.1 >>= λ es. Ok (more_entries k.0 t.0 es.0, es.1)))
    else Err (no_key c))

-- the entries of a dictionary up to its end, behind the last key
unfoldable pub entries_at : (ℕ → Result (Term × ℕ) BenFault) → List ℕ → ℕ → Option (List ℕ) → ℕ → Result (Entries × ℕ) BenFault
entries_at value source zero last at = Err Truncated
entries_at value source (suc turns) last at = entries_behind value (λ key. entries_at value source turns (Some key)) source last at
    (drop at source)

-- a value, by what reads the items of a list and the entries of a dictionary
abbrev pub value_behind : (ℕ → Result (Terms × ℕ) BenFault) → (ℕ → Result (Entries × ℕ) BenFault) → List ℕ → ℕ → List ℕ →
    Result (Term × ℕ) BenFault
value_behind items entries source at [] = Err Truncated
value_behind items entries source at (c ∷ cs) =
    if c == letter_i then (integer_at source (at + 1) >>= λ n. Ok (int (span at n.1) n.0, n.1))
    else (if is_ascii_digit c then (string_at source at >>= λ b. Ok (text (span at b.1) b.0, b.1))
    else (if c == letter_l then (items (at + 1) >>= λ ts. Ok (list (span at ts.1) ts.0, ts.1))
    else (if c == letter_d then (entries (at + 1) >>= λ es. Ok (dict (span at es.1) es.0, es.1))
    else Err BadByte)))

-- the value at a place, with room for this many levels of lists and dictionaries
unfoldable pub value_at : ℕ → List ℕ → ℕ → Result (Term × ℕ) BenFault
value_at zero source at = value_behind (λ _. Err TooDeep) (λ _. Err TooDeep) source at (drop at source)
value_at (suc room) source at =
    let items = items_at (value_at room source) source (length source) in
    let entries = entries_at (value_at room source) source (length source) None in
    value_behind items entries source at (drop at source)

-- the items of a list, in a value with room for so many levels
unfoldable pub items_in : ℕ → List ℕ → ℕ → Result (Terms × ℕ) BenFault
items_in zero source at = Err TooDeep
items_in (suc room) source at = items_at (value_at room source) source (length source) at

-- the entries of a dictionary, in a value with room for so many levels
unfoldable pub entries_in : ℕ → List ℕ → ℕ → Result (Entries × ℕ) BenFault
entries_in zero source at = Err TooDeep
entries_in (suc room) source at = entries_at (value_at room source) source (length source) None at

-- the value that all of the bytes are
unfoldable pub tree_of : List ℕ → Result Term BenFault
tree_of source = value_at MAX_DEPTH source 0 >>= λ t. if nat_lt t.1 (length source) then Err Trailing else Ok t.0
