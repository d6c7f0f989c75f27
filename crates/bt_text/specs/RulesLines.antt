-- The line of a script that sets the picker's rules.
use Rattle.std.specs.Prelude.{ℕ, ◌&&◌, nat_le, List, [], ◌∷◌, Option, Some, None, option_and_then, codes, if◌then◌else◌}
use Rattle.std.specs.Str.{bytes_eq}
use Rattle.bt_history.specs.declared.rules.Rules.{Rules}
use Rattle.bt_history.specs.declared.rules.TheConstants.{MOST_DEPTH, MOST_OPEN, MOST_TOLD_DEPTH}
use Rattle.bt_history.specs.Setting.{usual_rules}
use Rattle.bt_text.specs.Fields.{fields_of, small_number_in, yes_or_no_in}

-- a depth that a picker takes
abbrev pub depth_within : ℕ → Option ℕ
depth_within n = if nat_le 1 n && nat_le n MOST_DEPTH then Some n else None

-- the depth that the text says
abbrev pub depth_in : List ℕ → Option ℕ
depth_in text = option_and_then depth_within (small_number_in text)

-- a number of pieces that are picked at random: no more than there are
abbrev pub random_within : ℕ → ℕ → Option ℕ
random_within pieces n = if nat_le n pieces then Some n else None

-- the number of pieces at random that the text says
abbrev pub random_in : ℕ → List ℕ → Option ℕ
random_in pieces text = option_and_then (random_within pieces) (small_number_in text)

-- the number, if it is no more than this
abbrev pub at_most : ℕ → ℕ → Option ℕ
at_most most n = if nat_le n most then Some n else None

-- the two numbers together, if each can be read, with the usual rest
abbrev pub rules_of : Option ℕ → Option ℕ → Option Rules
rules_of (Some depth) (Some random) = Some (record usual_rules { depth = depth; random = random })
rules_of depth random = None

-- the rules that the word and the first two numbers say
abbrev pub rules_told : ℕ → List ℕ → List ℕ → List ℕ → Option Rules
rules_told pieces word depth random =
    if bytes_eq word (codes "rules") then rules_of (depth_in depth) (random_in pieces random) else None

-- the rules with a field as the text says it, if both can be read
abbrev pub with_field : {A : Type 0} → (Rules → A → Rules) → Option Rules → Option A → Option Rules
with_field put (Some rules) (Some value) = Some (put rules value)
with_field put rules value = None

-- with as many open pieces as the text says
abbrev pub opened : Option Rules → List ℕ → Option Rules
opened rules text = with_field (λ r n. record r { «open» = n }) rules (option_and_then (at_most MOST_OPEN) (small_number_in text))

-- with so few blocks at a peer that endgame asks it for one again
abbrev pub rushing : Option Rules → List ℕ → Option Rules
rushing rules text = with_field (λ r n. record r { rush = n }) rules (option_and_then (at_most MOST_TOLD_DEPTH) (small_number_in text))

-- with an endgame that waits for shown pieces alone, or for all
abbrev pub waiting : Option Rules → List ℕ → Option Rules
waiting rules text = with_field (λ r answer. record r { shown = answer }) rules (yes_or_no_in text)

-- the rules that these fields say: from the end each may be left out but the first two numbers
abbrev pub rules_of_fields : ℕ → List (List ℕ) → Option Rules
rules_of_fields pieces (word ∷ depth ∷ random ∷ []) = rules_told pieces word depth random
rules_of_fields pieces (word ∷ depth ∷ random ∷ most ∷ []) = opened (rules_told pieces word depth random) most
rules_of_fields pieces (word ∷ depth ∷ random ∷ most ∷ rush ∷ []) = rushing (opened (rules_told pieces word depth random) most) rush
rules_of_fields pieces (word ∷ depth ∷ random ∷ most ∷ rush ∷ shown ∷ []) =
    waiting (rushing (opened (rules_told pieces word depth random) most) rush) shown
rules_of_fields pieces fields = None

-- the rules that this text says for a torrent of so many pieces
abbrev pub rules_in : ℕ → List ℕ → Option Rules
rules_in pieces text = rules_of_fields pieces (fields_of text)
