-- What is known of a history stays so while it grows.
use Rattle.std.proofs.Common.{◌≡◌, ◌≢◌, ℕ, ◌==◌, ◌⊎◌, Bool, true, false, List, [], ◌∷◌, ◌++◌, cond, refl, sym, ap, ◌∙◌, subst, inl, inr, ⊎_elim}
use Rattle.std.proofs.Common.{append-nil, ne_eqb, length, length-append, ◌+◌, ◌≤◌, arith}
use Rattle.std.proofs.lemmas.List.{nil_from_length}
use Rattle.bt_history.specs.declared.event.Event.{Event}
use Rattle.bt_history.specs.History.{History}
use Rattle.bt_shared.specs.Seen.{AreApart, Each, own, StartsWith, IsAmong, Knows, Grows, GoesOn}

if_append : (b : Bool) (x : Event) (xs ys zs : History) → xs ≡ ys ++ zs → cond b (x ∷ xs) xs ≡ cond b (x ∷ ys) ys ++ zs
if_append true x xs ys zs e = ap (λ l. x ∷ l) e
if_append false x xs ys zs e = e

pub own_append : (w : ℕ) (xs ys : History) → own w (xs ++ ys) ≡ own w xs ++ own w ys
own_append w [] ys = refl
own_append w (x ∷ xs) ys = if_append (x.worker == w) x (own w (xs ++ ys)) (own w xs) (own w ys) (own_append w xs ys)

-- an entry of another worker
pub own_other : (w : ℕ) (h : History) (e : Event) → e.worker ≢ w → own w (e ∷ h) ≡ own w h
own_other w h e other = let b : (e.worker == w) ≡ false = ne_eqb e.worker w other in rw b refl

pub starts_self : (h : History) → StartsWith h h
starts_self h = record { newer = []; is = refl }

pub starts_more : (h seen : History) (e : Event) → StartsWith h seen → StartsWith (e ∷ h) seen
starts_more h seen e p = record { newer = e ∷ p.newer; is = ap (λ l. e ∷ l) p.is }

pub starts_empty : (h : History) → StartsWith h []
starts_empty h = record { newer = h; is = sym (append-nil h) }

pub knows_all : (h : History) (workers : List ℕ) → Knows h workers h
knows_all h workers = record { begins = starts_self h; complete = λ w _. refl }

pub knows_nothing : (h : History) → Knows h [] []
knows_nothing h = record { begins = starts_empty h; complete = λ w none. absurd none }

-- one entry at most was added
pub goes_one : (makers : List ℕ) (h h' : History) → Grows makers h h' → GoesOn makers h h'
goes_one makers h h' (inl same) = record { newer = []; theirs = tt; is = same }
goes_one makers h h' (inr more) = record { newer = more.0 ∷ []; theirs = (more.1, tt); is = more.2 }

module _ (makers workers : List ℕ) (apart : (w : ℕ) → IsAmong w workers → IsAmong w makers → ⊥) (h seen : History) (k : Knows h workers seen) where
  knows_newer : (newer : History) → Each (λ (e : Event). IsAmong e.worker makers) newer → Knows (newer ++ h) workers seen
  knows_newer [] theirs = k
  knows_newer (e ∷ newer) theirs =
      let rest = knows_newer newer theirs.1 in
      record {
        begins = starts_more (newer ++ h) seen e rest.begins;
        complete = λ w among. own_other w (newer ++ h) e (λ is. apart w among (subst (λ (x : ℕ). IsAmong x makers) is theirs.0))
            ∙ rest.complete w among;
      }

-- what is known stays so when workers that are not among these make calls
pub knows_more : (h h' : History) (makers workers : List ℕ) (seen : History) → GoesOn makers h h' →
    ((w : ℕ) → IsAmong w workers → IsAmong w makers → ⊥) → Knows h workers seen → Knows h' workers seen
knows_more h h' makers workers seen goes apart k =
    let P : History → Type 0 = λ l. Knows l workers seen in
    subst P (sym goes.is) (knows_newer makers workers apart h seen k goes.newer goes.theirs)

pub among_append : (w : ℕ) (xs ys : List ℕ) → IsAmong w (xs ++ ys) → IsAmong w xs ⊎ IsAmong w ys
among_append w [] ys h = inr h
among_append w (x ∷ xs) ys (inl e) = inl (inl e)
among_append w (x ∷ xs) ys (inr h) = ⊎_elim (λ l. inl (inr l)) inr (among_append w xs ys h)

-- of two ends of one list the shorter ends the longer
ends_shorter : (xs ys a b : History) → xs ++ a ≡ ys ++ b → length a ≤ length b → StartsWith b a
ends_shorter xs [] a b e le = record { newer = xs; is = sym e }
ends_shorter [] (y ∷ ys) a b e le = absurd (omega (arith, le, ap length e, length-append ys b))
ends_shorter (x ∷ xs) (y ∷ ys) a b e le = let tails : xs ++ a ≡ ys ++ b = cc e in ends_shorter xs ys a b tails le

-- of two beginnings of one history the shorter begins the longer
pub starts_shorter : (h a b : History) → StartsWith h a → StartsWith h b → length a ≤ length b → StartsWith b a
starts_shorter h a b p q le = ends_shorter p.newer q.newer a b (sym p.is ∙ q.is) le

-- a longer beginning has the same entries of those that the shorter has all of
pub knows_longer : (h : History) (workers : List ℕ) (a b : History) → StartsWith h b → StartsWith b a → Knows h workers a → Knows h workers b
knows_longer h workers a b p q k = record {
  begins = p;
  complete = λ w among.
      let whole : own w h ≡ own w p.newer ++ own w b = ap (own w) p.is ∙ own_append w p.newer b in
      let part : own w b ≡ own w q.newer ++ own w a = ap (own w) q.is ∙ own_append w q.newer a in
      let l : length (own w a) ≡ length (own w p.newer) + length (own w b) =
      ap length (sym (k.complete w among) ∙ whole) ∙ length-append (own w p.newer) (own w b) in
      let m : length (own w b) ≡ length (own w q.newer) + length (own w a) = ap length part ∙ length-append (own w q.newer) (own w a) in
      let none : own w q.newer ≡ [] = nil_from_length (own w q.newer) (omega arith) in
      k.complete w among ∙ sym (part ∙ ap (λ l. l ++ own w a) none);
}

pub among_left : (w : ℕ) (xs ys : List ℕ) → IsAmong w xs → IsAmong w (xs ++ ys)
among_left w [] ys h = absurd h
among_left w (x ∷ xs) ys (inl e) = inl e
among_left w (x ∷ xs) ys (inr h) = inr (among_left w xs ys h)

pub among_right : (w : ℕ) (xs ys : List ℕ) → IsAmong w ys → IsAmong w (xs ++ ys)
among_right w [] ys h = h
among_right w (x ∷ xs) ys h = inr (among_right w xs ys h)

pub apart_append : (xs ys : List ℕ) → AreApart xs → AreApart ys → ((w : ℕ) → IsAmong w xs → IsAmong w ys → ⊥) → AreApart (xs ++ ys)
apart_append [] ys a b off = b
apart_append (x ∷ xs) ys a b off = (
  λ among. ⊎_elim a.0 (off x (inl refl)) (among_append x xs ys among),
  apart_append xs ys a.1 b (λ w mine theirs. off w (inr mine) theirs),
)

pub each_map : {A : Type 0} (P Q : A → Type 0) (xs : List A) → ((x : A) → P x → Q x) → Each P xs → Each Q xs
each_map P Q [] f ps = tt
each_map P Q (x ∷ xs) f ps = (f x ps.0, each_map P Q xs f ps.1)

pub each_append : {A : Type 0} (P : A → Type 0) (xs ys : List A) → Each P xs → Each P ys → Each P (xs ++ ys)
each_append P [] ys a b = b
each_append P (x ∷ xs) ys a b = (a.0, each_append P xs ys a.1 b)
