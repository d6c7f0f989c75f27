-- A peer's line of asked blocks and its line of due cancels hold just the blocks that are asked and due.
use Rattle.std.proofs.Common.{◌≡◌, ℕ, ◌==◌, Bool, true, false, not, ◌&&◌, ◌||◌, List, [], ◌∷◌, ◌++◌, refl, ap, sym, ◌∙◌}
use Rattle.std.specs.Prelude.{is_none, is_some, if◌then◌else◌, Option, None, Some}
use Rattle.std.specs.List.{filter, list_any}
use Rattle.std.proofs.lemmas.Bool.{and_parts}
use Rattle.std.proofs.lemmas.Map.Views.{any-filter_same}
use Rattle.std.proofs.Math.Bool.{or_assoc}
use Rattle.bt_meta.specs.declared.block.Block.{Block}
use Rattle.bt_history.specs.declared.call.Reply.{Reply}
use Rattle.bt_history.specs.declared.call.Reply.TheVariants.{Cancel, Stored, Completed}
use Rattle.bt_history.specs.declared.event.Action.{Action}
use Rattle.bt_history.specs.declared.event.Action.TheVariants.{Lack, Release}
use Rattle.bt_history.specs.declared.event.Event.{Event}
use Rattle.bt_history.specs.History.{History, own_call, same_begin, stored, stores, requested, cancelled, cancelled_by, bytes_for}
use Rattle.bt_history.specs.Peers.{asked, asks, outstanding, has_place, due, dues, resets, releases, lasts}
use Rattle.bt_history.proofs.SameBegin.{resized, stored_at, same_but_len}

pub any_append : {A : Type 0} (test : A → Bool) (xs ys : List A) → list_any test (xs ++ ys) ≡ (list_any test xs || list_any test ys)
any_append test [] ys = refl
any_append test (x ∷ xs) ys = ap (λ (b : Bool). test x || b) (any_append test xs ys) ∙ sym (or_assoc (test x) (list_any test xs) (list_any test ys))

any_either : (resetting : Bool) (test : Block → Bool) (xs : List Block) →
    list_any test (if resetting then [] else xs) ≡ (not resetting && list_any test xs)
any_either true test xs = refl
any_either false test xs = refl

releases_resized : (call : Option Action) (b : Block) (n : ℕ) → releases call (resized b n) ≡ releases call b
releases_resized (Some (Release p begin)) b n = refl
releases_resized (Some (Lack p)) b n = refl
releases_resized _ b n = refl

-- whether a block stays asked depends on where it begins alone
pub lasts_at : (q : ℕ) (e : Event) (a b : Block) → same_begin a b ≡ true → lasts q e a ≡ lasts q e b
lasts_at q e a b same =
    let released : releases (own_call q e) b ≡ releases (own_call q e) a =
    ap (releases (own_call q e)) (same_but_len a b same) ∙ releases_resized (own_call q e) a b.len in
    λ i. is_none (sym (stored_at e a b same) i) && not (sym released i)

-- the blocks asked of a peer are those in its line
pub asked_outstanding : (h : History) (q : ℕ) (b : Block) → asked h q b ≡ has_place b (outstanding h q)
unfolding asked outstanding
asked_outstanding [] q b = refl
asked_outstanding (e ∷ h) q b =
    let lasting : Block → Bool = lasts q e in
    let older : (lasts q e b && asked h q b) ≡ has_place b (filter lasting (outstanding h q)) =
    ap (λ (x : Bool). lasts q e b && x) (asked_outstanding h q b)
    ∙ sym (any-filter_same (λ (a : Block). same_begin a b) lasting (lasts q e b) (λ a same. lasts_at q e a b same)
    (outstanding h q)) in
    sym (any_either (resets (own_call q e)) (λ (a : Block). same_begin a b) (filter lasting (outstanding h q) ++ requested q e)
    ∙ ap (λ (x : Bool). not (resets (own_call q e)) && x)
    (any_append (λ (a : Block). same_begin a b) (filter lasting (outstanding h q)) (requested q e) ∙ ap (λ (x : Bool). x || asks q e b) (sym older)))

-- whether a line has a block of a place depends on that alone
pub place_resized : (bs : List Block) (a b : Block) → same_begin a b ≡ true → has_place b bs ≡ has_place a bs
place_resized [] a b same = refl
place_resized (c ∷ bs) a b same =
    ap (λ (x : Block). same_begin c x || has_place b bs) (same_but_len a b same)
    ∙ ap (λ (y : Bool). same_begin c a || y) (place_resized bs a b same)

-- and so does whether a block is asked
pub asked_at : (h : History) (q : ℕ) (a b : Block) → same_begin a b ≡ true → asked h q b ≡ asked h q a
asked_at h q a b same = asked_outstanding h q b ∙ (place_resized (outstanding h q) a b same ∙ sym (asked_outstanding h q a))

-- an entry that cancels stores nothing
cancel_stores_nothing : (reply : Reply) (b : Block) → cancelled_by reply b ≡ true → stores reply ≡ false
cancel_stores_nothing Stored b is = absurd (cc is)
cancel_stores_nothing Completed b is = absurd (cc is)
cancel_stores_nothing reply b is = refl

cancelled_at : (q : ℕ) (e : Event) (a b : Block) → same_begin a b ≡ true → cancelled q e a ≡ cancelled q e b
cancelled_at q e a b same = ap (λ (x : Bool). (e.worker == q) && x)
    (sym (ap (cancelled_by e.reply) (same_but_len a b same) ∙ resized_reply e.reply a b.len)) where
      resized_reply : (reply : Reply) (c : Block) (n : ℕ) →
          cancelled_by reply (record { piece = c.piece; begin = c.begin; len = n }) ≡ cancelled_by reply
          c
      resized_reply (Cancel a) c n = refl
      resized_reply reply c n = refl

-- the blocks whose cancel is due at a peer are those in its line of cancels
pub due_dues : (h : History) (q : ℕ) (b : Block) → due h q b ≡ has_place b (dues h q)
unfolding due dues
due_dues [] q b = refl
due_dues (e ∷ h) q b =
    let keeps : Block → Bool = λ a. not (cancelled q e a) in
    let arrived : Block → Bool = λ a. is_some (stored e a) in
    let here : Block → Bool = λ a. same_begin a b in
    let older : (not (cancelled q e b) && due h q b) ≡ has_place b (filter keeps (dues h q)) =
    ap (λ (x : Bool). not (cancelled q e b) && x) (due_dues h q b)
    ∙ sym (any-filter_same here keeps (not (cancelled q e b)) (λ a same. ap not (cancelled_at q e a b same)) (dues h q)) in
    let newer : (is_some (stored e b) && (not (e.worker == q) && asked h q b)) ≡ has_place b
    (if e.worker == q then [] else filter arrived (outstanding h q)) =
    shuffled (is_some (stored e b)) (e.worker == q) (asked h q b)
    ∙ (ap (λ (x : Bool). not (e.worker == q) && (is_some (stored e b) && x)) (asked_outstanding h q b)
    ∙ (ap (λ (x : Bool). not (e.worker == q) && x) (sym (any-filter_same here arrived (is_some (stored e b))
    (λ a same. ap is_some (sym (stored_at e a b same))) (outstanding h q)))
    ∙ sym (any_either (e.worker == q) here (filter arrived (outstanding h q))))) in
    sym (any_either (resets (own_call q e)) here (filter keeps (dues h q) ++ (if e.worker == q then [] else filter arrived (outstanding h q)))
    ∙ ap (λ (x : Bool). not (resets (own_call q e)) && x)
    (any_append here (filter keeps (dues h q)) (if e.worker == q then [] else filter arrived (outstanding h q))
    ∙ (ap (λ (x : Bool). x || has_place b (if e.worker == q then [] else filter arrived (outstanding h q))) (sym older)
    ∙ (ap (λ (x : Bool). (not (cancelled q e b) && due h q b) || x) (sym newer)
    ∙ joined_tests (cancelled q e b) (due h q b) (is_some (stored e b)) (not (e.worker == q) && asked h q b) (stores_none b))))) where
      shuffled : (x y z : Bool) → (x && (not y && z)) ≡ (not y && (x && z))
      shuffled true y z = refl
      shuffled false true z = refl
      shuffled false false z = refl

      joined_tests : (cancels is_due stores others : Bool) → (cancels ≡ true → stores ≡ false)
          → ((not cancels && is_due) || (stores && others)) ≡ (not cancels && (is_due || (stores && others)))
      joined_tests true is_due true others none = absurd (cc (none refl))
      joined_tests true is_due false others none = refl
      joined_tests false is_due stores others none = refl

      stores_none : (a : Block) → cancelled q e a ≡ true → is_some (stored e a) ≡ false
      stores_none a is = ap (λ (x : Bool). is_some (if x then bytes_for a e.action else None))
          (cancel_stores_nothing e.reply a (and_parts (e.worker == q) (cancelled_by e.reply a) is).1)
