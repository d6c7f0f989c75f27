-- What the loop of `news` knows, and what it gives.
use Rattle.std.proofs.Common.{◌≡◌, ◌⊎◌, ◌↔◌, ℕ, zero, suc, ◌+◌, ◌*◌, ◌/◌, ◌%◌, ◌^◌, ◌<◌, List, [], ◌∷◌, ◌++◌, length, set, sym, refl, ap, subst}
use Rattle.std.proofs.Common.{◌∙◌, inl, inr, ⊎_elim, bit_or, append_assoc, length-append, arith, div-add-mod', lt_of_not-le}
use Rattle.std.specs.Prelude.{slice_index}
use Rattle.std.specs.Int.{bit_at}
use Rattle.std.proofs.lemmas.List.{get_or_append_left, get_or_past}
use Rattle.std.proofs.lemmas.Nat.{div-mul-add, mod-mul-add}
use Rattle.std.proofs.lemmas.Nat.Bits.{bit_at-zero}
use mathlib.Core.Logic.{dite}
use native.Mathlib.Decide.{dec_le, ℕ_discrete}
use Rattle.bt_board.specs.declared.view.Load.{Load}
use Rattle.bt_board.specs.declared.view.BoardView.{BoardView}
use Rattle.bt_board.specs.Steps.{Finds, Gives, GivesNone}
use Rattle.bt_board.specs.Story.{Has, IsSet, view, load, with_load, with_loads, loads_from, Seen}
use Rattle.bt_board.proofs.Lists.{has_front, has_parts}
use Rattle.bt_board.proofs.BitRows.{with_bit, set_here, still_set, newly_set}

-- The first n words were loaded, with the values found. Each bit that was found was given before, and what had been seen was found
pub record Looked (v : BoardView) (given : List ℕ) (n : ℕ) (w : BoardView) : Type 0 where
  pub found : List ℕ
  pub count : length found ≡ n
  pub now : w ≡ with_loads v found
  pub old : (q : ℕ) → IsSet found q → IsSet given q
  pub known : (q : ℕ) → q / 64 < n → Seen v q → IsSet found q

-- one more word was loaded: the values found then
pub record Next (v : BoardView) (given : List ℕ) (n : ℕ) (w : BoardView) (value : ℕ) : Type 0 where
  pub found : List ℕ
  pub count : length found ≡ n + 1
  pub now : w ≡ with_loads v found
  pub here : (q : ℕ) → q / 64 ≡ n → bit_at value (q % 64) ≡ 1 → IsSet found q
  pub old : (q : ℕ) → IsSet found q → IsSet given q ⊎ ((q / 64 ≡ n) × (bit_at value (q % 64) ≡ 1))
  pub known : (q : ℕ) → q / 64 < n + 1 → Seen v q → IsSet found q

no_bit : (q : ℕ) → ¬ (bit_at 0 (q % 64) ≡ 1)
no_bit q h = let none_there = bit_at-zero (q % 64) in omega arith

loads_more : (a : ℕ) (xs : List ℕ) (y n : ℕ) → a + length xs ≡ n → loads_from a (xs ++ y ∷ []) ≡ loads_from a xs ++ load n y ∷ []
loads_more a [] y n e = let here : a ≡ n = omega arith in ap (λ (k : ℕ). load k y ∷ []) here
loads_more a (x ∷ xs) y n e = ap (λ (l : List Load). load a x ∷ l) (loads_more (a + 1) xs y n (omega arith))

last_is : (xs : List ℕ) (y n : ℕ) → length xs ≡ n → slice_index (xs ++ y ∷ []) n ≡ y
last_is [] y zero e = refl
last_is [] y (suc n) e = absurd (omega arith)
last_is (x ∷ xs) y zero e = absurd (omega arith)
last_is (x ∷ xs) y (suc n) e = last_is xs y n (omega arith)

seen_more : (v : BoardView) (found : List ℕ) (q : ℕ) → Seen v q → Seen (with_loads v found) q
seen_more v found q seen = ⊎_elim (λ m. inl m) (λ l. inr (has_front (λ (x : Load). (x.word ≡ q / 64) × (bit_at x.found (q % 64) ≡ 1)) v.loads
    (loads_from 0 found) l)) seen

pub next : (v : BoardView) (given : List ℕ) (n pieces : ℕ) (w w' : BoardView) (value : ℕ) → Looked v given n w → Finds pieces w n value w' →
    Next v given n w' value
next v given n pieces w w' value so_far load_found =
    let step = load_found.lists in
    let seen = load_found.known in
    let xs = so_far.found in
    let ys = xs ++ value ∷ [] in
    let Bit : ℕ → ℕ → Type 0 = λ q k. bit_at k (q % 64) ≡ 1 in
    let before : (q : ℕ) → q / 64 < n → slice_index ys (q / 64) ≡ slice_index xs (q / 64) =
    λ q lt. get_or_append_left xs (value ∷ []) 0 (q / 64) (let c = so_far.count in omega arith) in
    let at : (q : ℕ) → q / 64 ≡ n → slice_index ys (q / 64) ≡ value = λ q e. ap (slice_index ys) e ∙ last_is xs value n so_far.count in
    let long : length ys ≡ n + 1 = length-append xs (value ∷ []) ∙ ap (λ (k : ℕ). k + 1) so_far.count in
    let shown : (q : ℕ) → Seen v q → Seen w q = λ q s. subst (λ (u : BoardView). Seen u q) (sym so_far.now) (seen_more v xs q s) in
    record {
      found = ys;
      count = long;
      now = step ∙ ap (λ (u : BoardView). with_load u (load n value)) so_far.now
          ∙ ap (λ (l : List Load). view v.marks l v.seats) (append_assoc v.loads (loads_from 0 xs) (load n value ∷ []) ∙
          ap (λ (l : List Load). v.loads ++ l) (sym (loads_more 0 xs value n (let c = so_far.count in omega arith))));
      here = λ q e h. subst (Bit q) (sym (at q e)) h;
      old = λ q h. dite (ℕ_discrete (q / 64) n) (λ e. inr (e, subst (Bit q) (at q e) h))
          (λ ne. dite (dec_le n (q / 64)) (λ high. absurd (no_bit q (subst (Bit q) (get_or_past ys (q / 64) 0 (omega arith)) h)))
          (λ low. inl (so_far.old q (subst (Bit q) (before q (lt_of_not-le low)) h))));
      known = λ q lt s. dite (ℕ_discrete (q / 64) n) (λ e. subst (Bit q) (sym (at q e)) (seen q e (shown q s)))
          (λ ne. let low : q / 64 < n = omega arith in subst (Bit q) (sym (before q low)) (so_far.known q low s));
    }

-- where the word had no bit that is new
pub goes_on : (v : BoardView) (given given' : List ℕ) (n : ℕ) (w : BoardView) (value : ℕ) → Next v given n w value → GivesNone n value given given' →
    Looked v given (n + 1) w
goes_on v given given' n w value more none_new = record {
  found = more.found;
  count = more.count;
  now = more.now;
  old = λ q h. ⊎_elim (λ before. before)
      (λ (here : (q / 64 ≡ n) × (bit_at value (q % 64) ≡ 1)). subst (λ (k : ℕ). bit_at (slice_index given k) (q % 64) ≡ 1) (sym here.0)
      (none_new.all (q % 64) here.1)) (more.old q h);
  known = more.known;
}

pub row_of : (n b : ℕ) → b < 64 → (n * 64 + b) / 64 ≡ n
row_of n b lt = div-mul-add n 64 b lt

pub bit_in : (n b : ℕ) → b < 64 → (n * 64 + b) % 64 ≡ b
bit_in n b lt = mod-mul-add n 64 b lt

-- where the piece p of the word is the least that is new
pub gives : (v : BoardView) (given given' : List ℕ) (n : ℕ) (w : BoardView) (value p : ℕ) → Next v given n w value → Gives n value given given' p
    → (found : List ℕ) × (length found ≡ p / 64 + 1) × (w ≡ with_loads v found) × IsSet found p × (¬ IsSet given p) ×
    ((q : ℕ) → q < p → IsSet found q → IsSet given q)
gives v given given' n w value p more one =
    let at = one.word_is in
    let count = more.count in (
      more.found,
      (let here : length more.found ≡ p / 64 + 1 = omega arith in here),
      more.now,
      more.here p at one.is_set,
      one.is_new,
      (λ q below h. ⊎_elim (λ before. before)
          (λ (here : (q / 64 ≡ n) × (bit_at value (q % 64) ≡ 1)). let row = here.0 in let whole = div-add-mod' q 64 in let all = div-add-mod' p 64 in
          let same : q / 64 * 64 ≡ p / 64 * 64 = ap (λ (k : ℕ). k * 64) (row ∙ sym at) in
          subst (λ (k : ℕ). bit_at (slice_index given k) (q % 64) ≡ 1) (sym row) (one.least (q % 64) (omega arith) here.1)) (more.old q h)),
    )

-- the bit b of the word n was added to what was given
pub gave : (given : List ℕ) (n b x : ℕ) → b < 64 → n < length given → x ≡ slice_index given n → (q : ℕ) →
    IsSet (set given n (bit_or x (1 * 2 ^ b % 2 ^ 64))) q ↔ (IsSet given q ⊎ (q ≡ n * 64 + b))
gave given n b x lt within is q =
    let p = n * 64 + b in
    let row = row_of n b lt in
    let col = bit_in n b lt in
    let same : set given n (bit_or x (1 * 2 ^ b % 2 ^ 64)) ≡ with_bit given p
    = (λ i. set given (sym row i) (bit_or (is i) (1 * 2 ^ (sym col i) % 2 ^ 64))) ∙
    ap (λ (k : ℕ). set given (p / 64) (bit_or (slice_index given k) (1 * 2 ^ (p % 64) % 2 ^ 64))) (sym row) in
    let inside : p / 64 < length given = rw row within in
    let P : List ℕ → Type 0 = λ l. IsSet l q ↔ (IsSet given q ⊎ (q ≡ p)) in
    subst P (sym same) (
      (λ h. ⊎_elim (λ old. inl old) (λ e. inr (sym e)) (newly_set given p q inside h)),
      (λ h. ⊎_elim (λ old. still_set given p q inside old) (λ (e : q ≡ p).
          subst (λ (k : ℕ). IsSet (with_bit given p) k) (sym e) (set_here given p inside)) h),
    )

-- where the bit b is the least of the word's that is new, and was added
pub gives_bit : (given given' : List ℕ) (n b value x : ℕ) → b < 64 → bit_at value b ≡ 1 → bit_at (slice_index given n) b ≡ 0
    → ((i : ℕ) → i < b → bit_at value i ≡ 1 → bit_at (slice_index given n) i ≡ 1) → n < length given → x ≡ slice_index given n
    → given' ≡ set given n (bit_or x (1 * 2 ^ b % 2 ^ 64)) → Gives n value given given' (n * 64 + b)
gives_bit given given' n b value x lt is isnt least within was now =
    let row = row_of n b lt in
    let col = bit_in n b lt in record {
      word_is = row;
      is_set = subst (λ (k : ℕ). bit_at value k ≡ 1) (sym col) is;
      is_new = λ before. let same : bit_at (slice_index given n) b ≡ 1 = (λ i. bit_at (slice_index given (sym row i)) (sym col i)) ∙ before in
          omega arith;
      least = λ i below. least i (omega arith);
      adds = λ q. subst (λ (l : List ℕ). IsSet l q ↔ (IsSet given q ⊎ (q ≡ n * 64 + b))) (sym now) (gave given n b x lt within was q);
    }

loaded_in : (a : ℕ) (xs : List ℕ) (q : ℕ) → Has (λ (x : Load). (x.word ≡ q / 64) × (bit_at x.found (q % 64) ≡ 1)) (loads_from a xs) →
    (k : ℕ) × (a + k ≡ q / 64) × (bit_at (slice_index xs k) (q % 64) ≡ 1)
loaded_in a [] q h = absurd h
loaded_in a (x ∷ xs) q h = ⊎_elim (λ (here : (a ≡ q / 64) × (bit_at x (q % 64) ≡ 1)). (0, (let e = here.0 in omega arith), here.1))
    (λ there. let r = loaded_in (a + 1) xs q there in let e = r.1 in (suc r.0, omega arith, r.2)) h

-- where all words were loaded, each piece that was seen was given
pub complete : (v : BoardView) (given : List ℕ) (n : ℕ) (w : BoardView) → Looked v given n w → (q : ℕ) → q / 64 < n → Seen w q → IsSet given q
complete v given n w all q lt seen = ⊎_elim
    (λ m. all.old q (all.known q lt (inl m)))
    (λ l. ⊎_elim (λ before. all.old q (all.known q lt (inr before)))
    (λ new. let r = loaded_in 0 all.found q new in let e = r.1 in let at : r.0 ≡ q / 64 = omega arith in
    all.old q (subst (λ (k : ℕ). bit_at (slice_index all.found k) (q % 64) ≡ 1) at r.2))
    (has_parts (λ (x : Load). (x.word ≡ q / 64) × (bit_at x.found (q % 64) ≡ 1)) v.loads (loads_from 0 all.found) l))
    (subst (λ (u : BoardView). Seen u q) all.now seen)
