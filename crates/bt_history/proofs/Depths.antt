-- What holds of the depth of a peer.
use Rattle.std.proofs.Common.{◌≡◌, ℕ, ◌==◌, ◌≤◌, Bool, true, false, not, ◌&&◌, [], ◌∷◌, Option, None, Some, refl, ap, sym, ◌∙◌, ltb-false}
use Rattle.std.specs.Prelude.{if◌then◌else◌, nat_lt, unwrap_or, max}
use Rattle.std.proofs.Math.Nat.{le_refl, le-max_left, le-max_right, le_trans, max-eq_left, max-le}
use Rattle.std.proofs.lemmas.Bool.{and_parts, not-true, false≢true, or_parts}
use Rattle.bt_history.specs.declared.call.Reply.{Reply}
use Rattle.bt_history.specs.declared.call.Reply.TheVariants.{Refused}
use Rattle.bt_history.specs.declared.event.Action.{Action}
use Rattle.bt_history.specs.declared.event.Action.TheVariants.{Join, Depth}
use Rattle.bt_history.specs.declared.event.Event.{Event}
use Rattle.bt_history.specs.Setting.{Setting, deepest_told, deepest_line}
use Rattle.bt_history.specs.History.{History, counts, own_call}
use Rattle.bt_history.specs.Peers.{resets, told_depth, told_after, depth_of, depth_so_far}
use Rattle.bt_history.specs.Legal.{IsLegal, IsAllowed, refusal, causes}
use Rattle.bt_history.specs.Before.{is_depth, never_deepens}
use Rattle.bt_history.proofs.Allowed.{no_cause, none_holds}

-- ---- where none was told

told_none : (call : Option Action) → ((a : Action) → call ≡ Some a → is_depth a ≡ false) → told_after call None ≡ None
told_none None isnt = refl
told_none (Some (Depth n)) isnt = absurd (false≢true (sym (isnt (Depth n) refl)))
told_none (Some Join) isnt = refl
told_none (Some call) isnt = refl

own_is : (q : ℕ) (e : Event) (a : Action) → own_call q e ≡ Some a → e.action ≡ a
own_is q e a is = by_test (counts e.reply && (e.worker == q)) is where
  by_test : (x : Bool) → (if x then Some e.action else None) ≡ Some a → e.action ≡ a
  by_test true is = ap (λ (o : Option Action). unwrap_or o a) is
  by_test false is = absurd (cc is)

pub none_told : (h : History) (q : ℕ) → never_deepens h ≡ true → told_depth h q ≡ None
unfolding told_depth never_deepens
none_told [] q never = refl
none_told (e ∷ h) q never =
    let parts = and_parts (not (is_depth e.action)) (never_deepens h) never in
    ap (told_after (own_call q e)) (none_told h q parts.1)
    ∙ told_none (own_call q e) (λ a is. ap is_depth (sym (own_is q e a is)) ∙ not-true (is_depth e.action) parts.0)

pub depth_as_before : (s : Setting) (h : History) (q : ℕ) → never_deepens h ≡ true → depth_of s h q ≡ s.depth
depth_as_before s h q never = ap (λ (o : Option ℕ). unwrap_or o s.depth) (none_told h q never)

pub so_far_as_before : (s : Setting) (h : History) (q : ℕ) → never_deepens h ≡ true → depth_so_far s h q ≡ s.depth
unfolding depth_so_far never_deepens
so_far_as_before s [] q never = refl
so_far_as_before s (e ∷ h) q never =
    let parts = and_parts (not (is_depth e.action)) (never_deepens h) never in
    let now = depth_as_before s (e ∷ h) q never in
    let before = so_far_as_before s h q parts.1 in
    (λ i. if resets (own_call q e) then now i else max (now i) (before i)) ∙ same (resets (own_call q e)) s.depth
  where
    same : (x : Bool) (n : ℕ) → (if x then n else max n n) ≡ n
    same true n = refl
    same false n = max-eq_left (le_refl n)

-- ---- no depth is beyond the deepest

told_bound : (s : Setting) (h : History) (w n : ℕ) → refusal s h w (Depth n) ≡ None → n ≤ deepest_told s
told_bound s h w n is = ltb-false (deepest_told s) n (or_parts (nat_lt n 1) _ (none_holds (causes s h w (Depth n)) is).1.0).1

-- where a call counts it was not refused
pub counting : (s : Setting) (h : History) (q : ℕ) (e : Event) (a : Action) → IsAllowed s h e → own_call q e ≡ Some a → refusal s h e.worker a ≡ None
counting s h q e a allowed is =
    ap (refusal s h e.worker) (sym (own_is q e a is)) ∙ no_cause s h e (λ reason refused. unrefused reason refused) allowed
  where
    unrefused : (reason : _) → e.reply ≡ Refused reason → ⊥
    unrefused reason refused = none (sym (ap (λ (r : Reply). if counts r && (e.worker == q) then Some e.action else None) refused) ∙ is) where
      none : None ≡ Some a → ⊥
      none same = cc same

pub depth_bounded : (s : Setting) (h : History) (q : ℕ) → IsLegal s h → depth_of s h q ≤ deepest_line s
unfolding told_depth
depth_bounded s [] q legal = le-max_left s.depth (deepest_told s)
depth_bounded s (e ∷ h) q legal = by_call (own_call q e) refl (depth_bounded s h q legal.0) where
  by_call : (call : Option Action) → own_call q e ≡ call → unwrap_or (told_depth h q) s.depth ≤ deepest_line s →
      unwrap_or (told_after call (told_depth h q)) s.depth ≤ deepest_line s
  by_call None is before = before
  by_call (Some (Depth n)) is before =
      le_trans (told_bound s h e.worker n (counting s h q e (Depth n) legal.1 is)) (le-max_right s.depth (deepest_told s))
  by_call (Some Join) is before = le-max_left s.depth (deepest_told s)
  by_call (Some call) is before = before

pub so_far_bounded : (s : Setting) (h : History) (q : ℕ) → IsLegal s h → depth_so_far s h q ≤ deepest_line s
unfolding depth_so_far
so_far_bounded s [] q legal = le-max_left s.depth (deepest_told s)
so_far_bounded s (e ∷ h) q legal =
    by_reset (resets (own_call q e)) (depth_bounded s (e ∷ h) q legal) (so_far_bounded s h q legal.0) where
      by_reset : (x : Bool) → depth_of s (e ∷ h) q ≤ deepest_line s → depth_so_far s h q ≤ deepest_line s →
          (if x then depth_of s (e ∷ h) q else max (depth_of s (e ∷ h) q) (depth_so_far s h q)) ≤ deepest_line s
      by_reset true now before = now
      by_reset false now before = max-le now before
