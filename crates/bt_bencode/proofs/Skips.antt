-- Items and entries that are gone over one after the other, by what is behind each.
use Rattle.std.proofs.Common.{◌≡◌, ℕ, zero, suc, ◌+◌, ◌≤◌, ◌<◌, List, length, Option, None, Some, Result, Ok, Err, refl, sym}
use Rattle.std.proofs.Common.{◌∙◌, ◌≢◌, ◌-◌, arith, get_or, true, false}
use Rattle.std.specs.Char.{is_ascii_digit}
use Rattle.std.proofs.lemmas.List.{drop_more, drop_all}
use Rattle.std.proofs.lemmas.Bool.{ne_eqb}
use Rattle.bt_bencode.specs.declared.fault.BenFault.{BenFault}
use Rattle.bt_bencode.specs.declared.fault.BenFault.TheVariants.{Truncated, TooDeep, BadByte}
use Rattle.bt_bencode.specs.Term.{Term, int, text, list, dict, more_terms, more_entries}
use Rattle.bt_bencode.specs.Placed.{span}
use Rattle.bt_bencode.specs.Reading.{◌>>=◌, value_at, items_at, entries_at, items_in, entries_in, key_at, string_at, integer_at, end_of}
use Rattle.bt_bencode.proofs.Values.{value_here, value_string, value_other, value_past, items_deep, items_within, entries_deep, entries_within}
use Rattle.bt_bencode.proofs.Loops.{entry_turn}

-- what ends somewhere was read, and what fails wasn't
pub read_to : {A : Type 0} (r : Result (A × ℕ) BenFault) (end : ℕ) → end_of r ≡ Ok end → (x : A) × (r ≡ Ok (x, end))
read_to (Ok (x, at)) end h = (x, cc)
read_to (Err fault) end h = absurd cc

pub not_read : {A : Type 0} (r : Result (A × ℕ) BenFault) (fault : BenFault) → end_of r ≡ Err fault → r ≡ Err fault
not_read (Ok x) fault h = absurd cc
not_read (Err e) fault h = cc

-- what is read behind a part ends the whole
pub end_behind : {A B : Type 0} (r : Result (A × ℕ) BenFault) (f : A → B) → end_of (r >>= λ x. Ok (f x.0, x.1)) ≡ end_of r
end_behind (Ok x) f = refl
end_behind (Err fault) f = refl

made_behind : {A B : Type 0} (r : Result (A × ℕ) BenFault) (f : A × ℕ → B) → end_of (r >>= λ x. Ok (f x, x.1)) ≡ end_of r
made_behind (Ok x) f = refl
made_behind (Err fault) f = refl

-- ---- one value

pub end_integer : (room : ℕ) (source : List ℕ) (at : ℕ) → at < length source → get_or source at 0 ≡ 105 →
    end_of (value_at room source at) ≡ end_of (integer_at source (at + 1))
end_integer room source at h c = rw (value_here room source at h, c)
    (made_behind (integer_at source (at + 1)) (λ n. int (span at n.1) n.0))

pub end_string : (room : ℕ) (source : List ℕ) (at : ℕ) → at < length source → is_ascii_digit (get_or source at 0) ≡ true →
    end_of (value_at room source at) ≡ end_of (string_at source at)
end_string room source at h digit = rw (value_string room source at h digit)
    (made_behind (string_at source at) (λ b. text (span at b.1) b.0))

pub end_list : (room : ℕ) (source : List ℕ) (at : ℕ) → at < length source → get_or source at 0 ≡ 108 →
    end_of (value_at room source at) ≡ end_of (items_in room source (at + 1))
end_list room source at h c = rw (value_here room source at h, c)
    (made_behind (items_in room source (at + 1)) (λ ts. list (span at ts.1) ts.0))

pub end_dict : (room : ℕ) (source : List ℕ) (at : ℕ) → at < length source → get_or source at 0 ≡ 100 →
    end_of (value_at room source at) ≡ end_of (entries_in room source (at + 1))
end_dict room source at h c = rw (value_here room source at h, c)
    (made_behind (entries_in room source (at + 1)) (λ es. dict (span at es.1) es.0))

pub end_other : (room : ℕ) (source : List ℕ) (at : ℕ) → at < length source → get_or source at 0 ≢ 105 → get_or source at 0 ≢ 108 →
    get_or source at 0 ≢ 100 → is_ascii_digit (get_or source at 0) ≡ false → end_of (value_at room source at) ≡ Err BadByte
end_other room source at h i l d digit = rw (value_other room source at h i l d digit) refl

pub end_past : (room : ℕ) (source : List ℕ) (at : ℕ) → length source ≤ at → end_of (value_at room source at) ≡ Err Truncated
end_past room source at h = rw (value_past room source at h) refl

pub end_items_deep : (room : ℕ) (source : List ℕ) (at : ℕ) → room ≡ 0 → end_of (items_in room source at) ≡ Err TooDeep
end_items_deep room source at h = rw (items_deep room source at h) refl

pub end_entries_deep : (room : ℕ) (source : List ℕ) (at : ℕ) → room ≡ 0 → end_of (entries_in room source at) ≡ Err TooDeep
end_entries_deep room source at h = rw (entries_deep room source at h) refl

-- what a proof of the function that goes over a value takes from this file
pub ruleset skip_rules = (end_integer, end_string, end_list, end_dict, end_other, end_past, end_items_deep, end_entries_deep)

-- ---- items

-- In as many turns as there are bytes left at least, what is left of the items ends the whole.
pub record ItemsEnd (value : ℕ → Result (Term × ℕ) BenFault) (source : List ℕ) (place : ℕ) (whole : Result ℕ BenFault) : Type 0 where
  pub turns : ℕ
  pub enough : length source ≤ place + turns
  pub left : end_of (items_at value source turns place) ≡ whole

pub skips_begin : (room : ℕ) (source : List ℕ) (at : ℕ) → 0 < room →
    ItemsEnd (value_at (room - 1) source) source at (end_of (items_in room source at))
skips_begin room source at h =
    record { turns = length source; enough = omega arith; left = rw (items_within room source at h) refl }

end_turn : (value : ℕ → Result (Term × ℕ) BenFault) (source : List ℕ) (turns place : ℕ) (whole : Result ℕ BenFault) →
    place < length source → get_or source place 0 ≡ 101 → length source ≤ place + turns →
    end_of (items_at value source turns place) ≡ whole → whole ≡ Ok (place + 1)
unfolding items_at
end_turn value source zero place whole h c enough left = absurd (omega arith)
end_turn value source (suc n) place whole h c enough left =
    sym left ∙ rw (drop_more source place 0 h, c) refl

pub skips_end : (value : ℕ → Result (Term × ℕ) BenFault) (source : List ℕ) (place : ℕ) (whole : Result ℕ BenFault) →
    place < length source → get_or source place 0 ≡ 101 → ItemsEnd value source place whole → whole ≡ Ok (place + 1)
skips_end value source place whole h c l = end_turn value source l.turns place whole h c l.enough l.left

out_turn : (value : ℕ → Result (Term × ℕ) BenFault) (source : List ℕ) (turns place : ℕ) (whole : Result ℕ BenFault) →
    length source ≤ place → end_of (items_at value source turns place) ≡ whole → whole ≡ Err Truncated
unfolding items_at
out_turn value source zero place whole h left = sym left
out_turn value source (suc n) place whole h left =
    sym left ∙ rw (drop_all place source h) refl

pub skips_out : (value : ℕ → Result (Term × ℕ) BenFault) (source : List ℕ) (place : ℕ) (whole : Result ℕ BenFault) →
    length source ≤ place → ItemsEnd value source place whole → whole ≡ Err Truncated
skips_out value source place whole h l = out_turn value source l.turns place whole h l.left

-- an item, and those behind it
pub item_turn : (value : ℕ → Result (Term × ℕ) BenFault) (source : List ℕ) (n place : ℕ) → place < length source →
    get_or source place 0 ≢ 101 →
    items_at value source (suc n) place ≡ (value place >>= λ t. items_at value source n t.1 >>= λ ts. Ok (more_terms t.0 ts.0, ts.1))
unfolding items_at
item_turn value source n place h c = rw (drop_more source place 0 h, ne_eqb (get_or source place 0) 101 c) refl

pub skips_fail : (fault : BenFault) (value : ℕ → Result (Term × ℕ) BenFault) (source : List ℕ) (place : ℕ) (whole : Result ℕ BenFault) →
    place < length source → get_or source place 0 ≢ 101 → end_of (value place) ≡ Err fault → ItemsEnd value source place whole →
    whole ≡ Err fault
skips_fail fault value source place whole h c is l = fail l.turns l.enough l.left
  where
    fail : (turns : ℕ) → length source ≤ place + turns → end_of (items_at value source turns place) ≡ whole → whole ≡ Err fault
    fail zero enough left = absurd (omega arith)
    fail (suc n) enough left = sym left ∙ rw (item_turn value source n place h c, not_read (value place) fault is) refl

pub skips_more : (value : ℕ → Result (Term × ℕ) BenFault) (source : List ℕ) (place : ℕ) (whole : Result ℕ BenFault) (end : ℕ) →
    place < length source → get_or source place 0 ≢ 101 → end_of (value place) ≡ Ok end → place < end →
    ItemsEnd value source place whole → ItemsEnd value source end whole
skips_more value source place whole end h c is further l = more l.turns l.enough l.left
  where
    more : (turns : ℕ) → length source ≤ place + turns → end_of (items_at value source turns place) ≡ whole →
        ItemsEnd value source end whole
    more zero enough left = absurd (omega arith)
    more (suc n) enough left =
        let t = read_to (value place) end is in
        let one : end_of (items_at value source (suc n) place) ≡ end_of (items_at value source n end) =
        rw (item_turn value source n place h c, t.1) (end_behind (items_at value source n end) (λ ts. more_terms t.0 ts)) in
        record { turns = n; enough = omega arith; left = sym one ∙ left }

-- ---- entries

-- In as many turns as there are bytes left at least, what is left of the entries ends the whole.
pub record EntriesEnd (value : ℕ → Result (Term × ℕ) BenFault) (source : List ℕ) (last : Option (List ℕ)) (place : ℕ)
    (whole : Result ℕ BenFault) : Type 0 where
  pub turns : ℕ
  pub enough : length source ≤ place + turns
  pub left : end_of (entries_at value source turns last place) ≡ whole

pub entry_skips_begin : (room : ℕ) (source : List ℕ) (at : ℕ) → 0 < room →
    EntriesEnd (value_at (room - 1) source) source None at (end_of (entries_in room source at))
entry_skips_begin room source at h =
    record { turns = length source; enough = omega arith; left = rw (entries_within room source at h) refl }

entries_end_turn : (value : ℕ → Result (Term × ℕ) BenFault) (source : List ℕ) (turns : ℕ) (last : Option (List ℕ)) (place : ℕ)
    (whole : Result ℕ BenFault) → place < length source → get_or source place 0 ≡ 101 → length source ≤ place + turns →
    end_of (entries_at value source turns last place) ≡ whole → whole ≡ Ok (place + 1)
unfolding entries_at
entries_end_turn value source zero last place whole h c enough left = absurd (omega arith)
entries_end_turn value source (suc n) last place whole h c enough left =
    sym left ∙ rw (drop_more source place 0 h, c) refl

pub entry_skips_end : (value : ℕ → Result (Term × ℕ) BenFault) (source : List ℕ) (last : Option (List ℕ)) (place : ℕ)
    (whole : Result ℕ BenFault) → place < length source → get_or source place 0 ≡ 101 → EntriesEnd value source last place whole →
    whole ≡ Ok (place + 1)
entry_skips_end value source last place whole h c l = entries_end_turn value source l.turns last place whole h c l.enough l.left

entries_out_turn : (value : ℕ → Result (Term × ℕ) BenFault) (source : List ℕ) (turns : ℕ) (last : Option (List ℕ)) (place : ℕ)
    (whole : Result ℕ BenFault) → length source ≤ place → end_of (entries_at value source turns last place) ≡ whole →
    whole ≡ Err Truncated
unfolding entries_at
entries_out_turn value source zero last place whole h left = sym left
entries_out_turn value source (suc n) last place whole h left =
    sym left ∙ rw (drop_all place source h) refl

pub entry_skips_out : (value : ℕ → Result (Term × ℕ) BenFault) (source : List ℕ) (last : Option (List ℕ)) (place : ℕ)
    (whole : Result ℕ BenFault) → length source ≤ place → EntriesEnd value source last place whole → whole ≡ Err Truncated
entry_skips_out value source last place whole h l = entries_out_turn value source l.turns last place whole h l.left

pub entry_skips_bad_key : (fault : BenFault) (value : ℕ → Result (Term × ℕ) BenFault) (source : List ℕ) (last : Option (List ℕ))
    (place : ℕ) (whole : Result ℕ BenFault) → place < length source → get_or source place 0 ≢ 101 →
    key_at source last place ≡ Err fault → EntriesEnd value source last place whole → whole ≡ Err fault
entry_skips_bad_key fault value source last place whole h c is l = fail l.turns l.enough l.left
  where
    fail : (turns : ℕ) → length source ≤ place + turns → end_of (entries_at value source turns last place) ≡ whole → whole ≡ Err fault
    fail zero enough left = absurd (omega arith)
    fail (suc n) enough left = sym left ∙ rw (entry_turn value source n last place h c, is) refl

pub entry_skips_fail : (fault : BenFault) (value : ℕ → Result (Term × ℕ) BenFault) (source : List ℕ) (last : Option (List ℕ))
    (place : ℕ) (whole : Result ℕ BenFault) (key : List ℕ) (start : ℕ) → place < length source → get_or source place 0 ≢ 101 →
    key_at source last place ≡ Ok (key, start) → end_of (value start) ≡ Err fault → EntriesEnd value source last place whole →
    whole ≡ Err fault
entry_skips_fail fault value source last place whole key start h c is bad l = fail l.turns l.enough l.left
  where
    fail : (turns : ℕ) → length source ≤ place + turns → end_of (entries_at value source turns last place) ≡ whole → whole ≡ Err fault
    fail zero enough left = absurd (omega arith)
    fail (suc n) enough left = sym left ∙ rw (entry_turn value source n last place h c, is, not_read (value start) fault bad) refl

pub entry_skips_more : (value : ℕ → Result (Term × ℕ) BenFault) (source : List ℕ) (last : Option (List ℕ)) (place : ℕ)
    (whole : Result ℕ BenFault) (key : List ℕ) (start end : ℕ) → place < length source → get_or source place 0 ≢ 101 →
    key_at source last place ≡ Ok (key, start) → end_of (value start) ≡ Ok end → place < end →
    EntriesEnd value source last place whole → EntriesEnd value source (Some key) end whole
entry_skips_more value source last place whole key start end h c is good further l = more l.turns l.enough l.left
  where
    more : (turns : ℕ) → length source ≤ place + turns → end_of (entries_at value source turns last place) ≡ whole →
        EntriesEnd value source (Some key) end whole
    more zero enough left = absurd (omega arith)
    more (suc n) enough left =
        let t = read_to (value start) end good in
        let one : end_of (entries_at value source (suc n) last place) ≡ end_of (entries_at value source n (Some key) end) =
        rw (entry_turn value source n last place h c, is, t.1)
        (end_behind (entries_at value source n (Some key) end) (λ es. more_entries key t.0 es)) in
        record { turns = n; enough = omega arith; left = sym one ∙ left }
