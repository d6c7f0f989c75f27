-- Rows of bytes as the bitfields that they spell: what one of them tells, and what a row that changes makes of them.
use Rattle.std.proofs.Common.{◌≡◌, ℕ, zero, suc, ◌<◌, ◌^◌, Bool, true, false, List, [], ◌∷◌, length, get_or, set, map, replicate, refl, ap, sym, ◌∙◌}
use Rattle.std.proofs.Common.{subst, arith}
use Rattle.std.proofs.lemmas.List.{get_or-map, get_or_past, get_or-set_other, get_or-set_same, length-map, length-replicate, length-set}
use mathlib.Core.Logic.{dite}
use native.Mathlib.Decide.{ℕ_discrete}
use Rattle.bt_meta.specs.WireBits.{IsPayload, IsSpelled, flags_of, wire_len}
use Rattle.bt_meta.proofs.Payloads.{length_flags, zero_flags, zero_payload}
use Rattle.bt_tables.specs.Showing.{ArePayloads, AreShown, AreUnset, flags_at, spelled_rows}
use Rattle.bt_tables.specs.Stripes.{stripe}
use Rattle.bt_tables.specs.Tables.{edit}
use Rattle.bt_tables.proofs.Tabled.{get_or_edit_other, get_or_edit_same, get_or_table, length_edit, length_table, map_table, same_table}
use Rattle.bt_history.specs.Counting.{table}

-- what is known of a row that a call names
pub record IsRow (pieces : ℕ) (rows : List (List ℕ)) (shows : List (List Bool)) (w : ℕ) : Type 0 where
  pub within : w < length rows
  pub payload : IsPayload pieces (stripe rows w)
  pub flags_are : flags_of pieces (stripe rows w) ≡ flags_at shows w
  pub long : length (flags_at shows w) ≡ pieces

pub is_row : (pieces : ℕ) (rows : List (List ℕ)) (shows : List (List Bool)) (w : ℕ) → spelled_rows pieces rows ≡ shows
    → ArePayloads pieces rows → w < length shows → IsRow pieces rows shows w
is_row pieces rows shows w is payloads lw =
    let within : w < length rows = omega (arith, lw, ap length is, length-map rows (flags_of pieces)) in
    let read : flags_at (spelled_rows pieces rows) w ≡ flags_of pieces (stripe rows w) = get_or-map (flags_of pieces) rows w [] [] within in
    let flags : flags_of pieces (stripe rows w) ≡ flags_at shows w = sym read ∙ ap (λ (l : List (List Bool)). flags_at l w) is in
    record { within = within; payload = payloads w within; flags_are = flags; long = sym (ap length flags) ∙ length_flags pieces (stripe rows w) }

map_edit : {A B : Type 0} (h : A → B) (xs : List A) (i : ℕ) (f : A → A) (g : B → B) (d : A) → i < length xs
    → h (f (get_or xs i d)) ≡ g (h (get_or xs i d)) → map h (edit xs i f) ≡ edit (map h xs) i g
map_edit h [] i f g d lt same = absurd (omega arith)
map_edit h (x ∷ xs) zero f g d lt same = ap (λ y. y ∷ map h xs) same
map_edit h (x ∷ xs) (suc i) f g d lt same = ap (λ ys. h x ∷ ys) (map_edit h xs i f g d (omega arith) same)

-- a row changes, and with it the flags of its peer
pub spelled_edit : (pieces : ℕ) (rows : List (List ℕ)) (shows : List (List Bool)) (w : ℕ) (f : List ℕ → List ℕ) (g : List Bool → List Bool)
    → spelled_rows pieces rows ≡ shows → w < length rows → flags_of pieces (f (stripe rows w)) ≡ g (flags_of pieces (stripe rows w))
    → spelled_rows pieces (edit rows w f) ≡ edit shows w g
spelled_edit pieces rows shows w f g is lw same =
    map_edit (flags_of pieces) rows w f g [] lw same ∙ ap (λ (l : List (List Bool)). edit l w g) is

pub payloads_edit : (pieces : ℕ) (rows : List (List ℕ)) (w : ℕ) (f : List ℕ → List ℕ) → ArePayloads pieces rows → w < length rows
    → IsPayload pieces (f (stripe rows w)) → ArePayloads pieces (edit rows w f)
payloads_edit pieces rows w f payloads lw here v lv = dite (ℕ_discrete v w)
    (λ same. subst (λ (u : ℕ). IsPayload pieces (stripe (edit rows w f) u)) (sym same)
    (subst (IsPayload pieces) (sym (get_or_edit_same rows w f [] lw)) here))
    (λ other. subst (IsPayload pieces) (sym (get_or_edit_other rows w v f [] other)) (payloads v (omega (arith, lv, length_edit rows w f))))

-- a row changes, and with it whether its peer is said to show nothing
pub shown_edit : (pieces : ℕ) (rows : List (List ℕ)) (empty : List Bool) (w : ℕ) (f : List ℕ → List ℕ) (is : Bool) → AreShown pieces rows empty
    → w < length rows → IsPayload pieces (f (stripe rows w)) → (is ≡ true → AreUnset (flags_of pieces (f (stripe rows w))))
    → AreShown pieces (edit rows w f) (set empty w is)
shown_edit pieces rows empty w f is are lw payload none = record {
  payloads = payloads_edit pieces rows w f are.payloads lw payload;
  each = length-set empty w is ∙ (are.each ∙ sym (length_edit rows w f));
  none = λ v d lv says. dite (ℕ_discrete v w)
      (λ same. subst (λ (u : ℕ). AreUnset (flags_of pieces (stripe (edit rows w f) u))) (sym same)
      (subst (λ (row : List ℕ). AreUnset (flags_of pieces row)) (sym (get_or_edit_same rows w f [] lw))
      (none (sym (get_or-set_same empty w is d (omega (arith, lw, are.each))) ∙ (ap (λ (u : ℕ). get_or (set empty w is) u d) (sym same) ∙ says)))))
      (λ other. subst (λ (row : List ℕ). AreUnset (flags_of pieces row)) (sym (get_or_edit_other rows w v f [] other))
      (are.none v d (omega (arith, lv, length_edit rows w f)) (sym (get_or-set_other empty w v is d other) ∙ says)));
}

-- no flag is set
pub none_set : (n : ℕ) → AreUnset (replicate n false)
none_set zero p = refl
none_set (suc n) zero = refl
none_set (suc n) (suc p) = none_set n p

-- and none is once one more is cleared
pub none_cleared : (flags : List Bool) (p : ℕ) → AreUnset flags → AreUnset (set flags p false)
none_cleared [] p none q = none q
none_cleared (flag ∷ flags) zero none zero = refl
none_cleared (flag ∷ flags) zero none (suc q) = none (suc q)
none_cleared (flag ∷ flags) (suc p) none zero = none zero
none_cleared (flag ∷ flags) (suc p) none (suc q) = none_cleared flags p (λ n. none (suc n)) q

unset_flags_are : (flags : List Bool) → AreUnset flags → flags ≡ replicate (length flags) false
unset_flags_are [] none = refl
unset_flags_are (flag ∷ flags) none =
    ap (λ (x : Bool). x ∷ flags) (none zero) ∙ ap (λ (l : List Bool). false ∷ l) (unset_flags_are flags (λ p. none (suc p)))

-- a peer that shows nothing has no flag to clear
pub cleared_before : (shows : List (List Bool)) (w : ℕ) → AreUnset (flags_at shows w)
    → shows ≡ edit shows w (λ flags. replicate (length flags) false)
cleared_before [] w none = refl
cleared_before (flags ∷ shows) zero none = ap (λ (x : List Bool). x ∷ shows) (unset_flags_are flags none)
cleared_before (flags ∷ shows) (suc w) none = ap (λ (l : List (List Bool)). flags ∷ l) (cleared_before shows w none)

-- what spells flags is a payload
pub spelled_payload : (pieces : ℕ) (flags : List Bool) (bytes : List ℕ) → pieces < 2 ^ 32 → length flags ≡ pieces → IsSpelled flags bytes
    → IsPayload pieces bytes
spelled_payload pieces flags bytes few long spells = record {
  len = spells.len ∙ ap wire_len long;
  clear = λ place behind below. spells.bits place below ∙ get_or_past flags place false (omega (arith, long, behind));
  few = few;
}

-- peers that show nothing
pub empty_rows : (workers pieces width : ℕ)
    → spelled_rows pieces (table workers (λ w. replicate width 0)) ≡ table workers (λ w. replicate pieces false)
empty_rows workers pieces width =
    map_table (flags_of pieces) workers (λ w. replicate width 0)
    ∙ same_table workers (λ w. flags_of pieces (replicate width 0)) (λ w. replicate pieces false) (λ w lw. zero_flags pieces width)

empty_payloads : (workers pieces width : ℕ) → pieces < 2 ^ 32 → width ≡ wire_len pieces
    → ArePayloads pieces (table workers (λ w. replicate width 0))
empty_payloads workers pieces width few is w lw =
    let zeros : ℕ → List ℕ = λ w. replicate width 0 in
    subst (IsPayload pieces) (sym (get_or_table workers zeros w [] (omega (arith, lw, length_table workers zeros))))
    (zero_payload pieces width few is)

pub empty_shown : (workers pieces width : ℕ) → pieces < 2 ^ 32 → width ≡ wire_len pieces
    → AreShown pieces (table workers (λ w. replicate width 0)) (replicate workers true)
empty_shown workers pieces width few is =
    let zeros : ℕ → List ℕ = λ w. replicate width 0 in
    record {
      payloads = empty_payloads workers pieces width few is;
      each = length-replicate workers true ∙ sym (length_table workers zeros);
      none = λ w d lw says. subst (λ (row : List ℕ). AreUnset (flags_of pieces row))
          (sym (get_or_table workers zeros w [] (omega (arith, lw, length_table workers zeros))))
          (subst AreUnset (sym (zero_flags pieces width)) (none_set pieces));
    }
