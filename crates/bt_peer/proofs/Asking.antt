-- Next calls, one after another.
use Rattle.std.proofs.Common.{◌≡◌, ℕ, zero, suc, ◌+◌, ◌<◌, ◌≤◌, List, [], ◌∷◌, ◌++◌, length, Bool, true, false, refl, sym, ap, subst, ◌∙◌, arith, inl}
use Rattle.std.proofs.Common.{inr, ◌⊎◌, length-append, append_assoc}
use Rattle.std.specs.Prelude.{MatchBool, ◌||◌}
use Rattle.std.specs.List.{list_any}
use Rattle.std.proofs.lemmas.List.{append-nil}
use Rattle.bt_history.specs.declared.event.Action.{Action}
use Rattle.bt_history.specs.declared.event.Action.TheVariants as actions
use Rattle.bt_history.specs.declared.call.Reply.{Reply}
use Rattle.bt_history.specs.declared.call.Reply.TheVariants as replies
use Rattle.bt_history.specs.declared.call.Reason.{Reason}
use Rattle.bt_peer.specs.declared.fault.SessionFault.{SessionFault}
use Rattle.bt_peer.specs.declared.fault.SessionFault.TheVariants as faults
use Rattle.bt_peer.specs.Acts.{Act, Called, is_refusal, is_refused_call}
use Rattle.bt_peer.specs.Turns.{Asks, has_more, NoneRefused}
use Rattle.bt_peer.specs.Outlets.{Outlet, Performs, PerformsUpTo, StopsCall, EndsCalls, IsCut}
use Rattle.bt_peer.specs.Parts.{AskingDone, AskingStops, CallStops}
use Rattle.bt_peer.proofs.Stretches.{Performs-join, Performs-stops}

-- Next calls whose replies all have more
abbrev pub HaveMore : List Act → Type 0
HaveMore [] = Unit {0}
HaveMore (Called (actions.Next word) reply ∷ es) = (has_more reply ≡ true) × HaveMore es
HaveMore _ = ⊥

HaveMore-more : (es : List Act) (word : ℕ) (reply : Reply) → HaveMore es → has_more reply ≡ true →
    HaveMore (es ++ Called (actions.Next word) reply ∷ [])
HaveMore-more [] word reply h more = (more, tt)
HaveMore-more (Called (actions.Next w) r ∷ es) word reply h more = (h.0, HaveMore-more es word reply h.1 more)
HaveMore-more (_ ∷ es) word reply h more = absurd h

-- any number of Next calls may be the first of some
pub asks_some : (most : ℕ) → (rest : List Act) × Asks most rest
asks_some zero = ([], refl)
asks_some (suc most) = (Called (actions.Next 0) replies.Idle ∷ [], refl)

asks_after : (most : ℕ) (reply : Reply) (b : Bool) → (rest : List Act) × MatchBool b (Asks most rest) (rest ≡ [])
asks_after most reply true = asks_some most
asks_after most reply false = ([], refl)

asks_one : (most : ℕ) (es : List Act) (word : ℕ) (reply : Reply) → HaveMore es → length es < most →
    (rest : List Act) × Asks most (es ++ Called (actions.Next word) reply ∷ rest)
asks_one zero es word reply h lt = absurd (omega arith)
asks_one (suc most) [] word reply h lt = asks_after most reply (has_more reply)
asks_one (suc most) (Called (actions.Next w) r ∷ es) word reply h lt =
    let others = asks_one most es word reply h.1 (omega arith) in (
      others.0,
      subst (λ b. MatchBool b (Asks most (es ++ Called (actions.Next word) reply ∷ others.0))
          (es ++ Called (actions.Next word) reply ∷ others.0 ≡ [])) (sym h.0) others.1,
    )
asks_one (suc most) (_ ∷ es) word reply h lt = absurd h

asks_begun : (most : ℕ) (es : List Act) → HaveMore es → length es ≤ most → (rest : List Act) × Asks most (es ++ rest)
asks_begun most [] h lt = asks_some most
asks_begun zero (e ∷ es) h lt = absurd (omega arith)
asks_begun (suc most) (Called (actions.Next w) r ∷ es) h lt =
    let others = asks_begun most es h.1 (omega arith) in
    (others.0, subst (λ b. MatchBool b (Asks most (es ++ others.0)) (es ++ others.0 ≡ [])) (sym h.0) others.1)
asks_begun (suc most) (_ ∷ es) h lt = absurd h

asks_last : (most : ℕ) (es : List Act) (word : ℕ) (reply : Reply) → HaveMore es → length es < most → has_more reply ≡ false →
    Asks most (es ++ Called (actions.Next word) reply ∷ [])
asks_last zero es word reply h lt last = absurd (omega arith)
asks_last (suc most) [] word reply h lt last = let none : List Act = [] in let same : none ≡ none = refl in
    subst (λ b. MatchBool b (Asks most none) (none ≡ none)) (sym last) same
asks_last (suc most) (Called (actions.Next w) r ∷ es) word reply h lt last =
    subst (λ b. MatchBool b (Asks most (es ++ Called (actions.Next word) reply ∷ [])) (es ++ Called (actions.Next word) reply ∷ [] ≡ [])) (sym h.0)
    (asks_last most es word reply h.1 (omega arith) last)
asks_last (suc most) (_ ∷ es) word reply h lt last = absurd h

asks_full : (most : ℕ) (es : List Act) → HaveMore es → length es ≡ most → Asks most es
asks_full zero [] h len = refl
asks_full zero (e ∷ es) h len = absurd (omega arith)
asks_full (suc most) [] h len = absurd (omega arith)
asks_full (suc most) (Called (actions.Next w) r ∷ es) h len =
    subst (λ b. MatchBool b (Asks most es) (es ≡ [])) (sym h.0) (asks_full most es h.1 (omega arith))
asks_full (suc most) (_ ∷ es) h len = absurd h

more_accepted : (reply : Reply) → has_more reply ≡ true → is_refusal reply ≡ false
more_accepted (replies.Cancel block) h = refl
more_accepted (replies.Request block) h = refl
more_accepted _ h = absurd cc

none_refused_one : (es : List Act) (word : ℕ) (reply : Reply) → HaveMore es → is_refusal reply ≡ false →
    NoneRefused (es ++ Called (actions.Next word) reply ∷ [])
none_refused_one [] word reply h accepted = ap (λ b. b || false) accepted
none_refused_one (Called (actions.Next w) r ∷ es) word reply h accepted =
    ap (λ b. b || list_any is_refused_call (es ++ Called (actions.Next word) reply ∷ [])) (more_accepted r h.0)
    ∙ none_refused_one es word reply h.1 accepted
none_refused_one (_ ∷ es) word reply h accepted = absurd h

none_refused : (es : List Act) → HaveMore es → NoneRefused es
none_refused [] h = refl
none_refused (Called (actions.Next w) r ∷ es) h = ap (λ b. b || list_any is_refused_call es) (more_accepted r h.0) ∙ none_refused es h.1
none_refused (_ ∷ es) h = absurd h

-- so many Next calls were made, and there is more
pub record Asking (a b : Outlet) (n : ℕ) : Type 0 where
  pub asking : List Act
  pub more : HaveMore asking
  pub count : length asking ≡ n
  pub does : Performs a asking b

pub Asking-more : (word : ℕ) (reply : Reply) (a b c : Outlet) (n : ℕ) → Asking a b n → Performs b (Called (actions.Next word) reply ∷ []) c →
    has_more reply ≡ true → Asking a c (n + 1)
Asking-more word reply a b c n s does more =
    record {
      asking = s.asking ++ Called (actions.Next word) reply ∷ [];
      more = HaveMore-more s.asking word reply s.more more;
      count = omega (arith, s.count, length-append s.asking (Called (actions.Next word) reply ∷ []));
      does = Performs-join a b c s.asking (Called (actions.Next word) reply ∷ []) s.does does;
    }

-- the last call had nothing more
pub Asking-last : (word : ℕ) (reply : Reply) (a b c : Outlet) (n most : ℕ) → Asking a b n → n < most →
    Performs b (Called (actions.Next word) reply ∷ []) c → is_refusal reply ≡ false → has_more reply ≡ false → AskingDone most a c
Asking-last word reply a b c n most s lt does accepted last = record {
  acts = s.asking ++ Called (actions.Next word) reply ∷ [];
  asks = asks_last most s.asking word reply s.more (omega (arith, s.count)) last;
  accepted = none_refused_one s.asking word reply s.more accepted;
  performs = Performs-join a b c s.asking (Called (actions.Next word) reply ∷ []) s.does does;
}

-- as many as there may be
pub Asking-full : (a b : Outlet) (n most : ℕ) → Asking a b n → n ≡ most → AskingDone most a b
Asking-full a b n most s is = record {
  acts = s.asking;
  asks = asks_full most s.asking s.more (s.count ∙ is);
  accepted = none_refused s.asking s.more;
  performs = s.does;
}

pub ends_cut : (fault : SessionFault) (es : List Act) → IsCut fault → NoneRefused es → EndsCalls fault es
ends_cut fault es cut none =
    elim cut [
      | inl is ↦ subst (λ (f : SessionFault). EndsCalls f es) (sym is) none
      | inr is ↦ subst (λ (f : SessionFault). EndsCalls f es) (sym is) none
    ]

-- the two ways in which a call stops
pub stops_ways : (call : Action) (fault : SessionFault) (acts : List Act) → StopsCall call fault acts →
    ((reason : Reason) × ((fault ≡ faults.Refused reason) × (acts ≡ Called call (replies.Refused reason) ∷ [])))
    ⊎ (IsCut fault × ((acts ≡ []) ⊎ ((reply : Reply) × ((is_refusal reply ≡ false) × (acts ≡ Called call reply ∷ [])))))
stops_ways call (faults.Refused reason) acts h = inl (reason, (refl, h))
stops_ways call _ acts h = inr h

stops_refused : (word : ℕ) (reason : Reason) (a b c : Outlet) (n most : ℕ) → Asking a b n → n < most →
    PerformsUpTo (faults.Refused reason) b (Called (actions.Next word) (replies.Refused reason) ∷ []) c → AskingStops (faults.Refused reason) most a c
stops_refused word reason a b c n most s lt stops =
    let last : Act = Called (actions.Next word) (replies.Refused reason) in
    let made = asks_last most s.asking word (replies.Refused reason) s.more (omega (arith, s.count)) refl in
    record {
      acts = s.asking ++ last ∷ [];
      rest = [];
      asks = subst (Asks most) (sym (append-nil (s.asking ++ last ∷ []))) made;
      ends = (actions.Next word, record { before = s.asking; accepted = none_refused s.asking s.more; refused = refl; last = refl });
      performs = Performs-stops (faults.Refused reason) a b c s.asking (last ∷ []) s.does stops;
    }

stops_none : (fault : SessionFault) (a b c : Outlet) (n most : ℕ) → Asking a b n → n < most → IsCut fault → PerformsUpTo fault b [] c →
    AskingStops fault most a c
stops_none fault a b c n most s lt cut stops =
    let begun = asks_begun most s.asking s.more (omega (arith, s.count)) in
    record {
      acts = s.asking;
      rest = begun.0;
      asks = begun.1;
      ends = ends_cut fault s.asking cut (none_refused s.asking s.more);
      performs = subst (λ (es : List Act). PerformsUpTo fault a es c) (append-nil s.asking) (Performs-stops fault a b c s.asking [] s.does stops);
    }

stops_one : (word : ℕ) (reply : Reply) (fault : SessionFault) (a b c : Outlet) (n most : ℕ) → Asking a b n → n < most → IsCut fault →
    is_refusal reply ≡ false → PerformsUpTo fault b (Called (actions.Next word) reply ∷ []) c → AskingStops fault most a c
stops_one word reply fault a b c n most s lt cut accepted stops =
    let last : Act = Called (actions.Next word) reply in
    let begun = asks_one most s.asking word reply s.more (omega (arith, s.count)) in
    record {
      acts = s.asking ++ last ∷ [];
      rest = begun.0;
      asks = subst (Asks most) (sym (append_assoc s.asking (last ∷ []) begun.0)) begun.1;
      ends = ends_cut fault (s.asking ++ last ∷ []) cut (none_refused_one s.asking word reply s.more accepted);
      performs = Performs-stops fault a b c s.asking (last ∷ []) s.does stops;
    }

-- a call that stopped
pub Asking-stops : (word : ℕ) (fault : SessionFault) (a b c : Outlet) (n most : ℕ) → Asking a b n → n < most →
    CallStops fault (actions.Next word) b c → AskingStops fault most a c
Asking-stops word fault a b c n most s lt stopped =
    let at = λ (es : List Act) (is : stopped.acts ≡ es). subst (λ (acts : List Act). PerformsUpTo fault b acts c) is stopped.performs in
    elim (stops_ways (actions.Next word) fault stopped.acts stopped.stops) [
      | inl refused ↦ subst (λ (f : SessionFault). AskingStops f most a c) (sym refused.1.0)
          (stops_refused word refused.0 a b c n most s lt
          (subst (λ (f : SessionFault). PerformsUpTo f b (Called (actions.Next word) (replies.Refused refused.0) ∷ []) c) refused.1.0
          (at _ refused.1.1)))
      | inr cut ↦ elim cut.1 [
        | inl none ↦ stops_none fault a b c n most s lt cut.0 (at [] none)
        | inr some ↦ stops_one word some.0 fault a b c n most s lt cut.0 some.1.0 (at _ some.1.1)
      ]
    ]
