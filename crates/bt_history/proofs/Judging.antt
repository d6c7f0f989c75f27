-- Whether histories are legal, by a test that computes.
use Rattle.std.proofs.Common.{◌≡◌, ℕ, ◌&&◌, not, nat_lt, Bool, true, false, List, [], ◌∷◌, ◌++◌, refl, reverse, take, ltb-true, lt-ltb, sym, subst}
use Rattle.std.proofs.lemmas.Bool.{and_parts, false≢true}
use Rattle.bt_meta.specs.Layout.{Layout}
use Rattle.bt_history.specs.contracts.call.ReplyPartialEq.TheImpl as replies
use Rattle.bt_history.specs.declared.call.Reply.{Reply}
use Rattle.bt_history.specs.declared.call.Reply.TheVariants.{Cancel, Request}
use Rattle.bt_history.specs.declared.event.Event.{Event}
use Rattle.bt_history.specs.Setting.{Setting, is_block}
use Rattle.bt_history.specs.History.{History}
use Rattle.bt_history.specs.Next.{Answer, Exactly, CancelOf, RequestOf}
use Rattle.bt_history.specs.Legal.{IsLegal, IsAllowed, Permits, answer_unless, refusal, answer}
use Rattle.bt_history.specs.Examples.{Example, AreJudged, AreWrong}
use Rattle.bt_history.proofs.Marks.{same_reply, reply_is_itself}

-- whether the answer permits the reply
abbrev permits : Layout → Answer → Reply → Bool
permits t (Exactly r) reply = replies.ghosts.eq reply r
permits t (CancelOf test) (Cancel b) = is_block t b && test b
permits t (RequestOf test) (Request b) = is_block t b && test b
permits t a reply = false

permitted : (t : Layout) (a : Answer) (r : Reply) → permits t a r ≡ true → Permits t a r
permitted t (Exactly r) reply is = same_reply reply r is
permitted t (CancelOf test) (Cancel b) is = let p = and_parts (is_block t b) (test b) is in (b, refl, p.0, p.1)
permitted t (RequestOf test) (Request b) is = let p = and_parts (is_block t b) (test b) is in (b, refl, p.0, p.1)
permitted t (CancelOf test) reply is = absurd (false≢true is)
permitted t (RequestOf test) reply is = absurd (false≢true is)

both_true : (a b : Bool) → a ≡ true → b ≡ true → (a && b) ≡ true
both_true true true x y = refl
both_true false b x y = absurd (false≢true x)
both_true true false x y = absurd (false≢true y)

permits_all : (t : Layout) (a : Answer) (r : Reply) → Permits t a r → permits t a r ≡ true
permits_all t (Exactly r) reply is = subst (λ (x : Reply). replies.ghosts.eq x r ≡ true) (sym is) (reply_is_itself r)
permits_all t (CancelOf test) reply h =
    subst (λ (x : Reply). permits t (CancelOf test) x ≡ true) (sym h.1) (both_true (is_block t h.0) (test h.0) h.2 h.3)
permits_all t (RequestOf test) reply h =
    subst (λ (x : Reply). permits t (RequestOf test) x ≡ true) (sym h.1) (both_true (is_block t h.0) (test h.0) h.2 h.3)

-- whether the entry may come after the history
abbrev allows : Setting → History → Event → Bool
allows s h e =
    nat_lt e.worker s.workers && permits s.torrent (answer_unless (refusal s h e.worker e.action) (answer s h e.worker e.action)) e.reply

allowed : (s : Setting) (h : History) (e : Event) → allows s h e ≡ true → IsAllowed s h e
unfolding IsAllowed
allowed s h e is =
    let p = and_parts (nat_lt e.worker s.workers) _ is in
    (ltb-true e.worker s.workers p.0, permitted s.torrent _ e.reply p.1)

allows_all : (s : Setting) (h : History) (e : Event) → IsAllowed s h e → allows s h e ≡ true
unfolding IsAllowed
allows_all s h e is = both_true (nat_lt e.worker s.workers) _ (lt-ltb e.worker s.workers is.0) (permits_all s.torrent _ e.reply is.1)

-- whether the history is legal
abbrev legal : Setting → History → Bool
legal s [] = true
legal s (e ∷ h) = legal s h && allows s h e

is_legal : (s : Setting) (h : History) → legal s h ≡ true → IsLegal s h
is_legal s [] is = tt
is_legal s (e ∷ h) is = let p = and_parts (legal s h) (allows s h e) is in (is_legal s h p.0, allowed s h e p.1)

-- whether none of the wrong entries is allowed
abbrev refuses : Example → List (ℕ × Event) → Bool
refuses x [] = true
refuses x (w ∷ ws) = not (allows x.setting (reverse (take w.0 x.entries)) w.1) && refuses x ws

not_true : (b : Bool) → not b ≡ true → b ≡ true → ⊥
not_true true is also = false≢true is
not_true false is also = false≢true also

are_wrong : (x : Example) (ws : List (ℕ × Event)) → refuses x ws ≡ true → AreWrong x ws
are_wrong x [] is = tt
are_wrong x (w ∷ ws) is =
    let h = reverse (take w.0 x.entries) in
    let p = and_parts (not (allows x.setting h w.1)) (refuses x ws) is in
    ((λ a. not_true (allows x.setting h w.1) p.0 (allows_all x.setting h w.1 a)), are_wrong x ws p.1)

-- whether each example is as it says
abbrev judges : List Example → Bool
judges [] = true
judges (x ∷ xs) = legal x.setting (reverse x.entries) && (refuses x x.wrong && judges xs)

pub judged : (xs : List Example) → judges xs ≡ true → AreJudged xs
judged [] is = tt
judged (x ∷ xs) is =
    let p = and_parts (legal x.setting (reverse x.entries)) (refuses x x.wrong && judges xs) is in
    let q = and_parts (refuses x x.wrong) (judges xs) p.1 in
    (is_legal x.setting (reverse x.entries) p.0, are_wrong x x.wrong q.0, judged xs q.1)

-- those of two lists are judged where both lists are
pub both_judged : (xs ys : List Example) → AreJudged xs → AreJudged ys → AreJudged (xs ++ ys)
both_judged [] ys first later = later
both_judged (x ∷ xs) ys first later = (first.0, first.1, both_judged xs ys first.2 later)
