-- Histories without the later calls are judged as they were before there were these.
use Rattle.std.proofs.Common.{◌≡◌, ℕ, ◌==◌, ◌<◌, ◌≤◌, Bool, true, false, not, ◌&&◌, ◌||◌, [], ◌∷◌, ◌++◌, None, Some, refl, ap, ◌∙◌, arith}
use Rattle.std.specs.Prelude.{is_none, if◌then◌else◌, nat_lt}
use Rattle.std.specs.List.{filter}
use Rattle.std.proofs.lemmas.Bool.{and_parts, not-true, lt-ltb}
use Rattle.bt_meta.specs.declared.block.Block.{Block}
use Rattle.bt_history.specs.declared.event.Action.{Action}
use Rattle.bt_history.specs.declared.event.Action.TheVariants.{Haves, Lack, Release}
use Rattle.bt_history.specs.declared.event.Event.{Event}
use Rattle.bt_history.specs.Setting.{Setting}
use Rattle.bt_history.specs.History.{History, counts, own_call, stored, requested}
use Rattle.bt_history.specs.Peers.{shows, shows_after, late, late_after, asks, asked, outstanding}
use Rattle.bt_history.specs.Peers.{expected, overdue, resets, releases, lasts}
use Rattle.bt_history.specs.Pieces.{held, gives, wanted, asker_count}
use Rattle.bt_history.specs.Next.{doubles}
use Rattle.bt_history.specs.Before.{asked_before, outstanding_before, is_release, never_releases, doubles_before, shows_before, shows_then}
use Rattle.bt_history.specs.Before.{late_before, late_then, is_haves, never_adds}
use Rattle.bt_history.proofs.Below.{count_short}

and_true : (x : Bool) → (x && true) ≡ x
and_true true = refl
and_true false = refl

releases_none : (q : ℕ) (e : Event) (b : Block) → is_release e.action ≡ false → releases (own_call q e) b ≡ false
releases_none q e b isnt = by_call e.action (counts e.reply && (e.worker == q)) isnt where
  by_call : (call : Action) (x : Bool) → is_release call ≡ false → releases (if x then Some call else None) b ≡ false
  by_call call false isnt = refl
  by_call (Release p begin) true isnt = absurd (cc isnt)
  by_call (Lack p) true isnt = absurd (cc isnt)
  by_call call true isnt = refl

lasts_unless : (q : ℕ) (e : Event) (b : Block) → is_release e.action ≡ false → lasts q e b ≡ is_none (stored e b)
lasts_unless q e b isnt = ap (λ (x : Bool). is_none (stored e b) && not x) (releases_none q e b isnt) ∙ and_true (is_none (stored e b))

pub asked_as_before : (h : History) (q : ℕ) (b : Block) → never_releases h ≡ true → asked h q b ≡ asked_before h q b
unfolding asked asked_before never_releases
asked_as_before [] q b never = refl
asked_as_before (e ∷ h) q b never =
    let parts = and_parts (not (is_release e.action)) (never_releases h) never in
    let isnt = not-true (is_release e.action) parts.0 in
    λ i. not (resets (own_call q e)) && ((lasts_unless q e b isnt i && asked_as_before h q b parts.1 i) || asks q e b)

pub outstanding_as_before : (h : History) (q : ℕ) → never_releases h ≡ true → outstanding h q ≡ outstanding_before h q
unfolding outstanding outstanding_before never_releases
outstanding_as_before [] q never = refl
outstanding_as_before (e ∷ h) q never =
    let parts = and_parts (not (is_release e.action)) (never_releases h) never in
    let isnt = not-true (is_release e.action) parts.0 in
    λ i. if resets (own_call q e) then []
    else filter (λ b. lasts_unless q e b isnt i) (outstanding_as_before h q parts.1 i) ++ requested q e

-- ---- a bound on askers

-- a bound that no desk of so many workers reaches is none
pub doubles_as_before : (s : Setting) (h : History) (q : ℕ) (b : Block) → q < s.workers → s.workers ≤ s.askers →
    doubles s h q b ≡ doubles_before s h q b
doubles_as_before s h q b lq wide =
    ap (λ (x : Bool). wanted s h b.piece && (gives h q b.piece && (not (held h b) && x))) (by_asked (asked h q b) refl) where
      by_asked : (x : Bool) → asked h q b ≡ x → (nat_lt (asker_count s h b) s.askers && not x) ≡ not x
      by_asked true is = none (nat_lt (asker_count s h b) s.askers) where
        none : (y : Bool) → (y && false) ≡ false
        none true = refl
        none false = refl
      by_asked false is = and_true _ ∙ (let few = count_short s.workers (λ w. expected h w b) q lq (ap (λ (y : Bool). y && not (overdue h q b)) is) in
          lt-ltb (asker_count s h b) s.askers (omega (arith, few, wide)))

-- ---- pieces that are added

-- a call that adds no pieces shows what it showed, and makes a bitfield late as it did
shows_same : (call : Action) (x : Bool) (p : ℕ) (before : Bool) → is_haves call ≡ false
    → shows_after (if x then Some call else None) p before ≡ shows_then (if x then Some call else None) p before
shows_same call false p before isnt = refl
shows_same (Haves flags) true p before isnt = absurd (cc isnt)
shows_same (Lack piece) true p before isnt = absurd (cc isnt)
shows_same call true p before isnt = refl

late_same : (call : Action) (x : Bool) (before : Bool) → is_haves call ≡ false
    → late_after (if x then Some call else None) before ≡ late_then (if x then Some call else None) before
late_same call false before isnt = refl
late_same (Haves flags) true before isnt = absurd (cc isnt)
late_same (Lack piece) true before isnt = absurd (cc isnt)
late_same call true before isnt = refl

pub shows_as_before : (h : History) (q p : ℕ) → never_adds h ≡ true → shows h q p ≡ shows_before h q p
unfolding shows shows_before never_adds
shows_as_before [] q p never = refl
shows_as_before (e ∷ h) q p never =
    let parts = and_parts (not (is_haves e.action)) (never_adds h) never in
    shows_same e.action (counts e.reply && (e.worker == q)) p (shows h q p) (not-true (is_haves e.action) parts.0)
    ∙ ap (shows_then (own_call q e) p) (shows_as_before h q p parts.1)

pub late_as_before : (h : History) (q : ℕ) → never_adds h ≡ true → late h q ≡ late_before h q
unfolding late late_before never_adds
late_as_before [] q never = refl
late_as_before (e ∷ h) q never =
    let parts = and_parts (not (is_haves e.action)) (never_adds h) never in
    late_same e.action (counts e.reply && (e.worker == q)) (late h q) (not-true (is_haves e.action) parts.0)
    ∙ ap (late_then (own_call q e)) (late_as_before h q parts.1)
