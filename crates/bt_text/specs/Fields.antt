-- What stands in a line of a script: fields with one space between two, numbers and hexadecimal.
use Rattle.std.specs.Prelude.{◌≡◌, ◌-◌, ◌^◌, ℕ, Bool, true, false, ◌&&◌, ◌==◌, not, nat_lt, List, [], ◌∷◌, length, map, Option, Some, None}
use Rattle.std.specs.Prelude.{if◌then◌else◌, Result, Ok, Err, codes}
use Rattle.std.specs.List.{slice_split}
use Rattle.std.specs.Result.{result_ok}
use Rattle.std.specs.Str.{all_ascii_digits, bytes_eq}
use Rattle.std.specs.Str.Parse.{digits_value}
use Rattle.hex.specs.Hex.{decode_of, decode_sized}
use Rattle.bt_text.specs.declared.script.fault.LineFault.{LineFault}
use Rattle.bt_text.specs.declared.script.fault.LineFault.TheVariants.{NotAllowed, NoMemory}

-- what was read, its value seen by view, is what the text says; it says nothing where it isn't allowed. Memory may run out
abbrev pub Reads : {X Y : Type 0} → (X → Y) → Result X LineFault → Option Y → Type 0
Reads view (Ok x) said = said ≡ Some (view x)
Reads view (Err NotAllowed) said = said ≡ None
Reads view (Err NoMemory) said = Unit {0}

-- the fields of a line, with one space between two
abbrev pub fields_of : List ℕ → List (List ℕ)
fields_of line = slice_split (λ byte. byte == 32) line

-- digits, at least one
abbrev pub is_numeral : List ℕ → Bool
is_numeral text = not (length text == 0) && all_ascii_digits text

-- the number that digits write, where it is below the limit
abbrev pub number_below : ℕ → List ℕ → Option ℕ
number_below limit text = if is_numeral text && nat_lt (digits_value 10 text) limit then Some (digits_value 10 text) else None

-- a number of 64 bits
abbrev pub number_in : List ℕ → Option ℕ
number_in text = number_below (2 ^ 64) text

-- a number of 32 bits
abbrev pub small_number_in : List ℕ → Option ℕ
small_number_in text = number_below (2 ^ 32) text

-- a number of 8 bits
abbrev pub byte_in : List ℕ → Option ℕ
byte_in text = number_below (2 ^ 8) text

-- yes or no
abbrev pub yes_or_no_in : List ℕ → Option Bool
yes_or_no_in text = if bytes_eq text (codes "yes") then Some true else (if bytes_eq text (codes "no") then Some false else None)

-- what a digit counts
abbrev pub digit_value : ℕ → ℕ
digit_value digit = digit - 48

-- the values of digits, at least one
abbrev pub digits_in : List ℕ → Option (List ℕ)
digits_in text = if is_numeral text then Some (map digit_value text) else None

-- the bytes that hexadecimal digits write, at least one
abbrev pub bytes_in : List ℕ → Option (List ℕ)
bytes_in [] = None
bytes_in (c ∷ cs) = result_ok (decode_of (c ∷ cs))

-- the 20 bytes that hexadecimal digits write
abbrev pub digest_in : List ℕ → Option (List ℕ)
digest_in text = result_ok (decode_sized text 20)
