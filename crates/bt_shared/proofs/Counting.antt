-- Workers of a desk, each once, and how many entries they have together.
use Rattle.std.proofs.Common.{◌≡◌, ◌⊎◌, ℕ, ◌+◌, ◌<◌, ◌==◌, Bool, true, false, List, [], ◌∷◌, cond, length, length-append, refl, sym, ap, ◌∙◌, subst}
use Rattle.std.proofs.Common.{arith, eq-eqb, ne_eqb, inl, inr, ⊎_elim}
use Rattle.std.specs.Prelude.{sum_by}
use Rattle.std.specs.List.{AllByRecursion, IsDistinct, list_any}
use native.Mathlib.Decide.{ℕ_discrete}
use mathlib.Core.Logic.{dite}
use lib.Dec.{eqb}
use Rattle.std.proofs.lemmas.List.Sums.{sum_by-cons}
use Rattle.std.proofs.lemmas.Map.Steps.{length-le_from_distinct_below}
use Rattle.bt_history.specs.declared.event.Event.{Event}
use Rattle.bt_history.specs.History.{History}
use Rattle.bt_history.specs.Legal.{IsAllowed, IsLegal}
use Rattle.bt_history.specs.Logs.{mark_of, marks_of}
use Rattle.bt_history.specs.Setting.{Setting}
use Rattle.bt_shared.specs.Closing.{AreCounted, EachKnows, EachOwn, IsEveryone, workers_of}
use Rattle.bt_shared.specs.Passes.{PassState}
use Rattle.bt_shared.specs.Seen.{AreApart, IsAmong}
use Rattle.bt_shared.proofs.Marked.{marks_continue}

-- ---- as many different workers as the desk has are all of them

among_from_any : (w : ℕ) (xs : List ℕ) → list_any (eqb w) xs ≡ true → IsAmong w xs
among_from_any w [] has = absurd cc
among_from_any w (x ∷ xs) has = dite (ℕ_discrete x w)
    (λ is. inl is)
    (λ away. let off : eqb w x ≡ false = ne_eqb w x (λ e. away (sym e)) in inr (among_from_any w xs (rw off at has)))

off_from_apart : (w : ℕ) (xs : List ℕ) → (IsAmong w xs → ⊥) → AllByRecursion (λ x. eqb w x ≡ false) xs
off_from_apart w [] away = tt
off_from_apart w (x ∷ xs) away = (ne_eqb w x (λ e. away (inl (sym e))), off_from_apart w xs (λ there. away (inr there)))

distinct_from_apart : (xs : List ℕ) → AreApart xs → IsDistinct eqb xs
unfolding IsDistinct
distinct_from_apart [] apart = tt
distinct_from_apart (x ∷ xs) apart = (off_from_apart x xs apart.0, distinct_from_apart xs apart.1)

is_among : (w : ℕ) (xs : List ℕ) → IsAmong w xs ⊎ (IsAmong w xs → ⊥)
is_among w [] = inr (λ none. none)
is_among w (x ∷ xs) = dite (ℕ_discrete x w)
    (λ is. inl (inl is))
    (λ away. ⊎_elim (λ there. inl (inr there)) (λ off. inr (λ h. ⊎_elim away off h)) (is_among w xs))

pub everyone : (s : Setting) (xs : List ℕ) → AreCounted s xs → length xs ≡ s.workers → IsEveryone s xs
everyone s xs counted all w below = ⊎_elim
    (λ there. there)
    (λ away.
    let few = length-le_from_distinct_below (w ∷ xs) s.workers (distinct_from_apart (w ∷ xs) (away, counted.once))
    (λ q has. ⊎_elim (λ is. subst (λ (x : ℕ). x < s.workers) is below) (counted.below q) (among_from_any q (w ∷ xs) has)) in
    absurd (omega (arith, few, all)))
    (is_among w xs)

-- ---- each entry is one of one of them

abbrev one_if : Bool → ℕ
one_if b = cond b 1 0

none_alike : (w : ℕ) (xs : List ℕ) → (IsAmong w xs → ⊥) → sum_by (λ (x : ℕ). one_if (w == x)) xs ≡ 0
none_alike w [] away = refl
none_alike w (x ∷ xs) away =
    let off : (w == x) ≡ false = ne_eqb w x (λ e. away (inl (sym e))) in
    let here : one_if (w == x) ≡ 0 = ap one_if off in
    omega (arith, sum_by-cons (λ (y : ℕ). one_if (w == y)) x xs, here, none_alike w xs (λ there. away (inr there)))

one_alike : (w : ℕ) (xs : List ℕ) → AreApart xs → IsAmong w xs → sum_by (λ (x : ℕ). one_if (w == x)) xs ≡ 1
one_alike w [] apart none = absurd none
one_alike w (x ∷ xs) apart among =
    let whole = sum_by-cons (λ (y : ℕ). one_if (w == y)) x xs in
    dite (ℕ_discrete x w)
    (λ is.
    let on : one_if (w == x) ≡ 1 = ap one_if (eq-eqb w x (sym is)) in
    omega (arith, whole, on, none_alike w xs (λ there. apart.0 (subst (λ (y : ℕ). IsAmong y xs) (sym is) there))))
    (λ away.
    let off : one_if (w == x) ≡ 0 = ap one_if (ne_eqb w x (λ e. away (sym e))) in
    omega (arith, whole, off, one_alike w xs apart.1 (⊎_elim (λ is. absurd (away is)) (λ there. there) among)))

-- how many entries of the worker the history has
abbrev entries : History → ℕ → ℕ
entries h w = length (marks_of h w)

one_mark : (b : Bool) (e : Event) (n : ℕ) → length (cond b (mark_of n e ∷ []) []) ≡ one_if b
one_mark true e n = refl
one_mark false e n = refl

entries_more : (e : Event) (h : History) (xs : List ℕ) → sum_by (entries (e ∷ h)) xs ≡ sum_by (entries h) xs + sum_by
    (λ (x : ℕ). one_if (e.worker == x)) xs
entries_more e h [] = refl
entries_more e h (x ∷ xs) =
    let more : entries (e ∷ h) x ≡ entries h x + one_if (e.worker == x)
    = length-append (marks_of h x) (cond (e.worker == x) (mark_of (length h) e ∷ []) []) ∙
    ap (λ (n : ℕ). entries h x + n) (one_mark (e.worker == x) e (length h)) in
    omega (
      arith,
      more,
      entries_more e h xs,
      sum_by-cons (entries (e ∷ h)) x xs,
      sum_by-cons (entries h) x xs,
      sum_by-cons (λ (y : ℕ). one_if (e.worker == y)) x xs,
    )

no_entries : (xs : List ℕ) → sum_by (entries []) xs ≡ 0
no_entries [] = refl
no_entries (x ∷ xs) = omega (arith, sum_by-cons (entries []) x xs, no_entries xs)

worker_of : (s : Setting) (h : History) (e : Event) → IsAllowed s h e → e.worker < s.workers
unfolding IsAllowed
worker_of s h e allowed = allowed.0

all_entries : (s : Setting) (xs : List ℕ) → AreApart xs → IsEveryone s xs → (h : History) → IsLegal s h → sum_by (entries h) xs ≡ length h
all_entries s xs apart all [] legal = no_entries xs
all_entries s xs apart all (e ∷ h) legal =
    let among : IsAmong e.worker xs = all e.worker (worker_of s h e legal.1) in
    omega (arith, entries_more e h xs, all_entries s xs apart all h legal.0, one_alike e.worker xs apart among)

-- ---- the passes' marks

own_entries : (h : History) (passes : List PassState) → EachKnows h passes → EachOwn passes →
    sum_by (λ (p : PassState). length p.log) passes ≡ sum_by (entries h) (workers_of passes)
own_entries h [] knows own = refl
own_entries h (p ∷ ps) knows own =
    let same = marks_continue p.worker p.seen h record { begins = knows.0.begins; same = knows.0.complete p.worker (inl refl) } in
    let mine : length p.log ≡ entries h p.worker = ap length (own.0.exact ∙ sym same) in
    omega (
      arith,
      mine,
      own_entries h ps knows.1 own.1,
      sum_by-cons (λ (q : PassState). length q.log) p ps,
      sum_by-cons (entries h) p.worker (workers_of ps),
    )

-- with a pass of each worker no entry is missing
pub all_marks : (s : Setting) (h : History) (passes : List PassState) → IsLegal s h → EachKnows h passes → EachOwn passes →
    AreCounted s (workers_of passes)
    → IsEveryone s (workers_of passes) → sum_by (λ (p : PassState). length p.log) passes ≡ length h
all_marks s h passes legal knows own counted all = own_entries h passes knows own ∙ all_entries s (workers_of passes) counted.once all h legal
