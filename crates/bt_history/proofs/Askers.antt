-- A block is asked of no more peers than may be.
use Rattle.std.proofs.Common.{◌≡◌, ◌⊎◌, ℕ, zero, suc, ◌==◌, ◌+◌, ◌<◌, ◌≤◌, Bool, true, false, ◌||◌, [], ◌∷◌, refl, ap, sym, ◌∙◌, arith, ⊎_elim}
use Rattle.std.specs.Prelude.{if◌then◌else◌, nat_lt}
use Rattle.std.specs.List.{list_any}
use Rattle.std.proofs.lemmas.Bool.{ltb-true, eq-eqb, ne_eqb, cases_eq, false≢true}
use Rattle.bt_meta.specs.declared.block.Block.{Block}
use Rattle.bt_history.specs.declared.event.Event.{Event}
use Rattle.bt_history.specs.Counting.{count_below}
use Rattle.bt_history.specs.Setting.{Setting}
use Rattle.bt_history.specs.History.{History, same_begin, requested}
use Rattle.bt_history.specs.Peers.{asked, asks, expected}
use Rattle.bt_history.specs.Pieces.{asked_of_some, asker_count}
use Rattle.bt_history.specs.Legal.{IsLegal, IsAllowed}
use Rattle.bt_history.proofs.Below.{any_fails, count_at, count_none, count_same, one_if}
use Rattle.bt_history.proofs.Allowed.{request_facts, worker_below}
use Rattle.bt_history.proofs.Delays.{expected_at, expected_cases}
use Rattle.bt_history.proofs.HeldLaws.{asking}
use Rattle.bt_history.proofs.LineLaws.{Asks, asks_or_none}

-- fewer pass a test that is harder
pub count_less : (n : ℕ) (f g : ℕ → Bool) → ((k : ℕ) → k < n → f k ≡ true → g k ≡ true) → count_below n f ≤ count_below n g
count_less zero f g harder = omega arith
count_less (suc n) f g harder =
    let step = count_less n f g (λ k lk. harder k (omega (arith, lk))) in
    let last = by_test (f n) (g n) (harder n (omega arith)) in
    omega (arith, step, last)
  where
    by_test : (x y : Bool) → (x ≡ true → y ≡ true) → one_if x ≤ one_if y
    by_test true true less = omega arith
    by_test true false less = absurd (false≢true (less refl))
    by_test false true less = omega arith
    by_test false false less = omega arith

-- an entry that asks of nobody for the block adds no asker
none_more : (s : Setting) (h : History) (e : Event) (b : Block) → ((q : ℕ) → asks q e b ≡ false) → asker_count s (e ∷ h) b ≤ asker_count s h b
none_more s h e b none = count_less s.workers (λ q. expected (e ∷ h) q b) (λ q. expected h q b) (λ q lq is. ⊎_elim
    (λ (now : asks q e b ≡ true). absurd (false≢true (sym (none q) ∙ now)))
    (λ (before : expected h q b ≡ true). before)
    (expected_cases h e q b is))

-- an entry adds one at most
one_more : (s : Setting) (h : History) (e : Event) (b : Block) → e.worker < s.workers → asker_count s (e ∷ h) b ≤ asker_count s h b + 1
one_more s h e b lw =
    let new : ℕ → Bool = λ q. expected (e ∷ h) q b in
    let others : ℕ → Bool = λ q. if q == e.worker then false else new q in
    let at = count_at s.workers new others e.worker lw
    (λ q lq apart. sym (ap (λ (x : Bool). if x then false else new q) (ne_eqb q e.worker apart))) in
    let most : one_if (new e.worker) ≤ 1 = at_most (new e.worker) in
    let less = count_less s.workers others (λ q. expected h q b) (λ q lq is. by_worker q (cases_eq q e.worker) is) in
    omega (arith, at, most, less)
  where
    at_most : (x : Bool) → one_if x ≤ 1
    at_most true = omega arith
    at_most false = omega arith

    by_worker : (q : ℕ) → (q ≡ e.worker) ⊎ (q ≡ e.worker → ⊥) → (if q == e.worker then false else expected (e ∷ h) q b) ≡ true → expected h q b ≡ true
    by_worker q which is = ⊎_elim
        (λ (same : q ≡ e.worker). absurd (false≢true (sym (ap (λ (x : Bool). if x then false else expected (e ∷ h) q b) (eq-eqb q e.worker same)) ∙ is)))
        (λ (apart : q ≡ e.worker → ⊥). ⊎_elim
        (λ (now : asks q e b ≡ true). absurd (apart (sym (asking q e b now).1.worker)))
        (λ (before : expected h q b ≡ true). before)
        (expected_cases h e q b (sym (ap (λ (x : Bool). if x then false else expected (e ∷ h) q b) (ne_eqb q e.worker apart)) ∙ is)))
        which

askers_step : (s : Setting) (h : History) (e : Event) (b : Block) → IsAllowed s h e → 1 ≤ s.askers → asker_count s h b ≤ s.askers
    → asker_count s (e ∷ h) b ≤ s.askers
askers_step s h e b allowed some before = ⊎_elim
    (λ (named : (c : Block) × Asks e.worker e c). by_place named.0 named.1 (same_begin named.0 b) refl)
    (λ (none : requested e.worker e ≡ []). nobody (λ q. asks_none q none))
    (asks_or_none e.worker e)
  where
    nobody : ((q : ℕ) → asks q e b ≡ false) → asker_count s (e ∷ h) b ≤ s.askers
    nobody none = (let less = none_more s h e b none in omega (arith, less, before))

    refused : (x : Bool) → (x ≡ true → ⊥) → x ≡ false
    refused true isnt = absurd (isnt refl)
    refused false isnt = refl

    asks_none : (q : ℕ) → requested e.worker e ≡ [] → asks q e b ≡ false
    asks_none q none = refused (asks q e b) (λ now.
        let found = asking q e b now in
        let same : asks q e b ≡ asks e.worker e b = ap (λ (w : ℕ). asks w e b) (sym found.1.worker) in
        false≢true (sym (same ∙ ap (list_any (λ a. same_begin a b)) none) ∙ now))

    by_place : (c : Block) → Asks e.worker e c → (x : Bool) → same_begin c b ≡ x → asker_count s (e ∷ h) b ≤ s.askers
    by_place c asks_c false apart = nobody (λ q. refused (asks q e b) (λ now.
        let found = asking q e b now in
        let same : asks q e b ≡ asks e.worker e b = ap (λ (w : ℕ). asks w e b) (sym found.1.worker) in
        let only : asks e.worker e b ≡ false = ap (list_any (λ a. same_begin a b)) asks_c.only ∙ ap (λ (y : Bool). y || false) apart in
        false≢true (sym (same ∙ only) ∙ now)))
    by_place c asks_c true here =
        let facts = request_facts s h e c allowed asks_c.reply in
        let more = one_more s h e b (worker_below s h e allowed) in
        let same : asker_count s h b ≡ asker_count s h c =
        count_same s.workers (λ q. expected h q b) (λ q. expected h q c) (λ q lq. expected_at h q c b here) in
        ⊎_elim
        (λ (alone : asked_of_some s h c ≡ false).
        let none : asker_count s h c ≡ 0 = count_none s.workers (λ q. expected h q c) (λ q lq. any_fails s.workers (λ w. expected h w c) q alone lq) in
        omega (arith, more, same, none, some))
        (λ (few : nat_lt (asker_count s h c) s.askers ≡ true).
        let less = ltb-true (asker_count s h c) s.askers few in
        omega (arith, more, same, less))
        facts.few

pub askers_few : (s : Setting) (h : History) (b : Block) → IsLegal s h → 1 ≤ s.askers → asker_count s h b ≤ s.askers
unfolding asked
askers_few s [] b legal some = (let none = count_none s.workers (λ q. false) (λ q lq. refl) in omega (arith, none, some))
askers_few s (e ∷ h) b legal some = askers_step s h e b legal.1 some (askers_few s h b legal.0 some)
