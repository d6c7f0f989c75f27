-- What an entry and a history say of a block depends on where it begins alone.
use Rattle.std.proofs.Common.{◌≡◌, ℕ, ◌==◌, ◌&&◌, Bool, true, List, [], ◌∷◌, Option, refl, ap, sym, ◌∙◌}
use Rattle.std.specs.Prelude.{is_some, if◌then◌else◌, None}
use Rattle.std.proofs.lemmas.Bool.{eqb-true, eq-eqb, and_parts, and_from}
use Rattle.bt_meta.specs.declared.block.Block.{Block}
use Rattle.bt_history.specs.declared.event.Action.{Action}
use Rattle.bt_history.specs.declared.event.Action.TheVariants.{Arrived, Settle, Lose, Discard}
use Rattle.bt_history.specs.declared.event.Event.{Event}
use Rattle.bt_history.specs.History.{History, same_begin, stores, stored, bytes_for, frees, freed, is_failed}
use Rattle.bt_history.specs.Pieces.{kept, held}

-- the block at b's place with another length
abbrev pub resized : Block → ℕ → Block
resized b n = record { piece = b.piece; begin = b.begin; len = n }

-- two blocks at one place differ in length alone
pub same_but_len : (a b : Block) → same_begin a b ≡ true → b ≡ resized a b.len
same_but_len a b is =
    let parts = and_parts (a.piece == b.piece) (a.begin == b.begin) is in
    let piece = eqb-true a.piece b.piece parts.0 in
    let begin = eqb-true a.begin b.begin parts.1 in
    (λ i. record { piece = sym piece i; begin = sym begin i; len = b.len })

pub same_begin_self : (b : Block) → same_begin b b ≡ true
same_begin_self b = and_from (b.piece == b.piece) (b.begin == b.begin) (eq-eqb b.piece b.piece refl) (eq-eqb b.begin b.begin refl)

pub same_begin_sym : (a b : Block) → same_begin a b ≡ true → same_begin b a ≡ true
same_begin_sym a b is =
    let parts = and_parts (a.piece == b.piece) (a.begin == b.begin) is in
    and_from (b.piece == a.piece) (b.begin == a.begin) (eq-eqb b.piece a.piece (sym (eqb-true a.piece b.piece parts.0)))
    (eq-eqb b.begin a.begin (sym (eqb-true a.begin b.begin parts.1)))

bytes_resized : (call : Action) (b : Block) (n : ℕ) → bytes_for (resized b n) call ≡ bytes_for b call
bytes_resized (Arrived p begin bytes) b n = refl
bytes_resized _ b n = refl

frees_resized : (call : Action) (b : Block) (n : ℕ) → frees call (resized b n) ≡ frees call b
frees_resized (Settle p bytes) b n = refl
frees_resized (Lose p) b n = refl
frees_resized (Discard p begin) b n = refl
frees_resized _ b n = refl

freed_resized : (e : Event) (b : Block) (n : ℕ) → freed e (resized b n) ≡ freed e b
freed_resized e b n = ap (λ (x : Bool). is_failed e.reply && x) (frees_resized e.action b n)

pub stored_resized : (e : Event) (b : Block) (n : ℕ) → stored e (resized b n) ≡ stored e b
stored_resized e b n = ap (λ (o : Option (List ℕ)). if stores e.reply then o else None) (bytes_resized e.action b n)

pub kept_resized : (h : History) (b : Block) (n : ℕ) → kept h (resized b n) ≡ kept h b
unfolding kept
kept_resized [] b n = refl
kept_resized (e ∷ h) b n =
    ap (λ (x : Bool). if x then None else if is_some (stored e (resized b n)) then stored e (resized b n) else kept h (resized b n)) (freed_resized e b n)
    ∙ ap (λ (o : Option (List ℕ)). if freed e b then None else if is_some o then o else kept h (resized b n)) (stored_resized e b n)
    ∙ ap (λ (o : Option (List ℕ)). if freed e b then None else if is_some (stored e b) then stored e b else o) (kept_resized h b n)

pub stored_at : (e : Event) (a b : Block) → same_begin a b ≡ true → stored e b ≡ stored e a
stored_at e a b is = ap (stored e) (same_but_len a b is) ∙ stored_resized e a b.len

pub kept_at : (h : History) (a b : Block) → same_begin a b ≡ true → kept h b ≡ kept h a
kept_at h a b is = ap (kept h) (same_but_len a b is) ∙ kept_resized h a b.len

pub held_at : (h : History) (a b : Block) → same_begin a b ≡ true → held h b ≡ held h a
held_at h a b is = ap is_some (kept_at h a b is)
