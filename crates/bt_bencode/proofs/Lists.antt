-- Terms and entries as the lists that they are made from.
use Rattle.std.proofs.Common.{◌≡◌, ℕ, suc, ◌<◌, ◌≤◌, true, List, [], ◌∷◌, length, refl, ap, sym, ◌∙◌, ◌-◌, get_or, arith, Vec}
use Rattle.std.specs.Global.{Global}
use Rattle.bt_bencode.specs.Term.{Term, list_of_terms, list_of_entries, depth, depth_of_terms, depth_of_entries}
use Rattle.bt_bencode.specs.Grammar.{keys_rise, IsSound, AreSound, EntriesAreSound}
use Rattle.bt_bencode.specs.Reading.{is_late}
use Rattle.std.specs.Prelude.{Bool, false, ◌&&◌, not, max, Some, ◌^◌, ◌++◌}
use Rattle.std.specs.Ordering.{nat_cmp, is_lt}
use Rattle.std.specs.Cmp.Lexicographic.{slice_cmp}
use Rattle.bt_bencode.specs.View.{terms_from, entries_from, pairs, last_key}

pub list_from : (ts : List Term) → list_of_terms (terms_from ts) ≡ ts
list_from [] = refl
list_from (t ∷ ts) = ap (λ (r : List Term). t ∷ r) (list_from ts)

pub pairs_from : (es : List (Vec ℕ Global × Term)) → list_of_entries (entries_from es) ≡ pairs es
pairs_from [] = refl
pairs_from (e ∷ es) = ap (λ (r : List (List ℕ × Term)). (e.0.items, e.1) ∷ r) (pairs_from es)

-- one key alone rises
pub one_rises : (es : List (Vec ℕ Global × Term)) → length es ≤ 1 → keys_rise (entries_from es) ≡ true
one_rises [] h = refl
one_rises (e ∷ []) h = refl
one_rises (e ∷ f ∷ es) h = absurd (omega arith)

-- ---- one more at the end

pub depth_push : (ts : List Term) (t : Term) → depth_of_terms (terms_from (ts ++ t ∷ [])) ≡ max (depth t) (depth_of_terms (terms_from ts))
depth_push [] t = refl
depth_push (u ∷ ts) t = omega (arith, depth_push ts t)

pub sound_push : (ts : List Term) (t : Term) → AreSound (terms_from ts) → IsSound t → AreSound (terms_from (ts ++ t ∷ []))
sound_push [] t h s = (s, tt)
sound_push (u ∷ ts) t h s = (h.0, sound_push ts t h.1 s)

pub depth_entries_push : (es : List (Vec ℕ Global × Term)) (e : Vec ℕ Global × Term) →
    depth_of_entries (entries_from (es ++ e ∷ [])) ≡ max (depth e.1) (depth_of_entries (entries_from es))
depth_entries_push [] e = refl
depth_entries_push (f ∷ es) e = omega (arith, depth_entries_push es e)

pub sound_entries_push : (es : List (Vec ℕ Global × Term)) (e : Vec ℕ Global × Term) → EntriesAreSound (entries_from es) →
    length e.0.items < 2 ^ 64 → IsSound e.1 → EntriesAreSound (entries_from (es ++ e ∷ []))
sound_entries_push [] e h l s = (l, s, tt)
sound_entries_push (f ∷ es) e h l s = (h.0, h.1, sound_entries_push es e h.2 l s)

pub last_push : (es : List (Vec ℕ Global × Term)) (e : Vec ℕ Global × Term) → last_key (es ++ e ∷ []) ≡ Some e.0.items
last_push [] e = refl
last_push (f ∷ []) e = refl
last_push (f ∷ g ∷ es) e = last_push (g ∷ es) e

pub is_above : (b : Bool) → not b ≡ false → b ≡ true
is_above true h = refl
is_above false h = cc

rise_on : (b c d : Bool) → b && c ≡ true → (c ≡ true → d ≡ true) → b && d ≡ true
rise_on true c d h f = f h
rise_on false c d h f = h

pub rise_push : (es : List (Vec ℕ Global × Term)) (e : Vec ℕ Global × Term) → keys_rise (entries_from es) ≡ true →
    is_late (last_key es) e.0.items ≡ false → keys_rise (entries_from (es ++ e ∷ [])) ≡ true
rise_push [] e h l = refl
rise_push (f ∷ []) e h l = rw (is_above (is_lt (slice_cmp nat_cmp f.0.items e.0.items)) l) refl
rise_push (f ∷ g ∷ es) e h l = rise_on (is_lt (slice_cmp nat_cmp f.0.items g.0.items)) (keys_rise (entries_from (g ∷ es)))
    (keys_rise (entries_from (g ∷ es ++ e ∷ []))) h (λ k. rise_push (g ∷ es) e k l)

pub last_is : (es : List (Vec ℕ Global × Term)) (x : Vec ℕ Global × Term) → 0 < length es → x ≡ get_or es (length es - 1) x →
    last_key es ≡ Some x.0.items
last_is [] x h e = absurd (omega arith)
last_is (f ∷ []) x h e = ap (λ (y : Vec ℕ Global × Term). Some y.0.items) (sym e)
last_is (f ∷ g ∷ es) x h e =
    let n : length (f ∷ g ∷ es) - 1 ≡ suc (length (g ∷ es) - 1) = omega arith in
    last_is (g ∷ es) x (omega arith) (e ∙ ap (λ (k : ℕ). get_or (f ∷ g ∷ es) k x) n)
