-- What a result says once its value was taken out.
use Rattle.std.proofs.Common.{◌≡◌, Some, None, Result, Ok, Err}
use Rattle.std.specs.Prelude.{MatchResult, IfErr}
use Rattle.std.specs.Result.{result_ok, IsErrAnd}

pub held : {X E : Type 0} (P : X → Type 0) (Q : E → Type 0) (r : Result X E) (x : X) → result_ok r ≡ Some x → MatchResult r P Q → P x
held P Q (Ok y) x e h = let same : y ≡ x = cc in rw (← same) h
held P Q (Err y) x e h = absurd cc

pub failed : {X E : Type 0} (P : X → Type 0) (Q : E → Type 0) (r : Result X E) → result_ok r ≡ None → MatchResult r P Q → (e : E) × Q e
failed P Q (Ok y) e h = absurd cc
failed P Q (Err y) e h = (y, h)

-- an error that was passed on
pub IfErr-passed : {X E : Type 0} (P : E → Type 0) (r : Result X E) (e : E) → IsErrAnd r (λ x. x ≡ e) → P e → IfErr r P
IfErr-passed P (Ok x) e h p = tt
IfErr-passed P (Err x) e h p = rw h p
