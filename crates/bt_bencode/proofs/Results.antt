-- Results and tests, by their cases.
use Rattle.std.proofs.Common.{◌≡◌, Result, Ok, Err, refl, ap, cond, true, false, Bool, inl, inr, ◌⊎◌}
use Rattle.bt_bencode.specs.Reading.{◌>>=◌}

-- what went before a step that was taken
pub bind_ok : {A B E : Type 0} (r : Result A E) (f : A → Result B E) (y : B) → (r >>= f) ≡ Ok y →
    (x : A) × (r ≡ Ok x) × (f x ≡ Ok y)
bind_ok (Ok x) f y e = (x, refl, e)
bind_ok (Err fault) f y e = absurd cc

-- which way a test went
pub chosen : {A : Type 0} (b : Bool) (x y z : A) → cond b x y ≡ z → ((b ≡ true) × (x ≡ z)) ⊎ ((b ≡ false) × (y ≡ z))
chosen true x y z e = inl (refl, e)
chosen false x y z e = inr (refl, e)

abbrev pub done : {A E : Type 0} → A → Result A E
done x = Ok x

pub ok_is : {A E : Type 0} (x y : A) → done {E = E} x ≡ done y → x ≡ y
ok_is x y e = cc

abbrev pub failed : {A E : Type 0} → E → Result A E
failed fault = Err fault

pub never : {A E : Type 0} (fault : E) (x : A) → failed fault ≡ Ok x → ⊥
never fault x h = absurd cc

-- two pairs that are given alike
pub same_pair : {A B E : Type 0} (x y : A) (m n : B) → done {A = A × B} {E = E} (x, m) ≡ done (y, n) → (x ≡ y) × (m ≡ n)
same_pair {A = A} {B = B} {E = E} x y m n h =
    let p = ok_is {A = A × B} {E = E} (x, m) (y, n) h in
    (ap (λ (z : A × B). z.0) p, ap (λ (z : A × B). z.1) p)
