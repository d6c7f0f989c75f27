-- The list of finished pieces: where none was lost it has just the pieces that are had, each once. It only grows at its end.
use Rattle.std.proofs.Common.{◌≡◌, ◌≢◌, ℕ, ◌==◌, ◌+◌, ◌<◌, Bool, true, false, ◌&&◌, ◌||◌, List, [], ◌∷◌, ◌++◌, length, refl, ap, sym, ◌∙◌, arith}
use Rattle.std.proofs.Common.{append_assoc, append-nil, length-append, subst, ⊎_elim, suc, eqb-true}
use Rattle.std.specs.Prelude.{if◌then◌else◌, slice_index_or}
use Rattle.std.specs.List.{list_any}
use Rattle.std.proofs.lemmas.Bool.{or_cases, leb-false, eq-eqb, ne_eqb}
use Rattle.std.proofs.lemmas.List.Folds.{list_any-append, list_any_at}
use Rattle.bt_meta.specs.Layout.{piece_count}
use Rattle.bt_history.specs.declared.call.Reply.{Reply}
use Rattle.bt_history.specs.declared.call.Reply.TheVariants.{Had}
use Rattle.bt_history.specs.declared.event.Action.{Action}
use Rattle.bt_history.specs.declared.event.Action.TheVariants.{Next, Arrived, Settle}
use Rattle.bt_history.specs.declared.event.Event.{Event}
use Rattle.bt_history.specs.Setting.{Setting}
use Rattle.bt_history.specs.Counting.{count_below}
use Rattle.bt_history.specs.History.{History, is_had, settles, passed}
use Rattle.bt_history.specs.Before.{had_before, never_loses}
use Rattle.bt_history.specs.Pieces.{had}
use Rattle.bt_history.specs.Finished.{checked_by, finished_by, finished}
use Rattle.bt_history.specs.Legal.{IsAllowed, IsLegal, refusal}
use Rattle.bt_history.proofs.Below.{count_at, count_none, count_same, count_short, one_if}
use Rattle.bt_history.proofs.Allowed.{had_reply, had_settles, no_cause, settle_facts}
use Rattle.bt_history.proofs.Losing.{had_as_before, had_once, never_parts}

-- ---- the list has just the pieces that are had

checked_is : (call : Action) (p : ℕ) → list_any (λ q. q == p) (checked_by call) ≡ settles call p
checked_is (Settle piece bytes) p = one (piece == p) where
  one : (x : Bool) → (x || false) ≡ x
  one true = refl
  one false = refl
checked_is _ p = refl

-- the entry's piece is the one whose check passed
finished_by_is : (e : Event) (p : ℕ) → list_any (λ q. q == p) (finished_by e) ≡ passed e p
finished_by_is e p = by_reply (is_had e.reply) where
  by_reply : (x : Bool) → list_any (λ q. q == p) (if x then checked_by e.action else []) ≡ (x && settles e.action p)
  by_reply true = checked_is e.action p
  by_reply false = refl

-- a piece was had once where the list has it
had_finished : (h : History) (p : ℕ) → had_before h p ≡ list_any (λ q. q == p) (finished h)
unfolding had_before finished
had_finished [] p = refl
had_finished (e ∷ h) p =
    swapped (passed e p) (had_before h p)
    ∙ ap (λ (x : Bool). x || passed e p) (had_finished h p)
    ∙ ap (λ (x : Bool). list_any (λ q. q == p) (finished h) || x) (sym (finished_by_is e p))
    ∙ sym (list_any-append (λ q. q == p) (finished h) (finished_by e))
  where
    swapped : (x y : Bool) → (x || y) ≡ (y || x)
    swapped true true = refl
    swapped true false = refl
    swapped false true = refl
    swapped false false = refl

-- where the test finds a number, it stands at some place
any_place : (xs : List ℕ) (p : ℕ) → list_any (λ q. q == p) xs ≡ true → (k : ℕ) × (k < length xs) × (slice_index_or xs k 0 ≡ p)
any_place [] p is = absurd (cc is)
any_place (x ∷ xs) p is = ⊎_elim
    (λ (here : (x == p) ≡ true). (0, omega arith, eqb-true x p here))
    (λ (later : list_any (λ q. q == p) xs ≡ true).
    let found = any_place xs p later in
    (suc found.0, omega (arith, found.1), found.2))
    (or_cases (x == p) (list_any (λ q. q == p) xs) is)

-- a number that stands at some place is found
place_any : (xs : List ℕ) (k : ℕ) → k < length xs → list_any (λ q. q == slice_index_or xs k 0) xs ≡ true
place_any xs k lk =
    list_any_at (λ q. q == slice_index_or xs k 0) xs k 0 lk (eq-eqb (slice_index_or xs k 0) (slice_index_or xs k 0) refl)

-- a piece that is had stands at some place of the list
pub finished_place : (h : History) (p : ℕ) → had h p ≡ true → (k : ℕ) × (k < length (finished h)) × (slice_index_or (finished h) k 0 ≡ p)
finished_place h p is = any_place (finished h) p (sym (had_finished h p) ∙ had_once h p is)

-- and each piece of the list is had, where none was lost
pub finished_had : (h : History) (k : ℕ) → never_loses h ≡ true → k < length (finished h) → had h (slice_index_or (finished h) k 0) ≡ true
finished_had h k never lk =
    let p = slice_index_or (finished h) k 0 in
    had_as_before h p never ∙ (had_finished h p ∙ place_any (finished h) k lk)

-- ---- it only grows at its end

-- newer entries put their pieces behind the others
pub finished_more : (newer older : History) → finished (newer ++ older) ≡ finished older ++ finished newer
unfolding finished
finished_more [] older = sym (append-nil (finished older))
finished_more (e ∷ newer) older =
    ap (λ (xs : List ℕ). xs ++ finished_by e) (finished_more newer older) ∙ append_assoc (finished older) (finished newer) (finished_by e)

-- ---- in a legal history it has each piece once, so there are no more than pieces

-- an entry that says Had is the check of a piece that wasn't had
had_facts_of : (s : Setting) (h : History) (e : Event) → IsAllowed s h e → is_had e.reply ≡ true
    → (p : ℕ) × (bytes : List ℕ) × (e.action ≡ Settle p bytes) × (p < piece_count s.torrent) × (had h p ≡ false)
had_facts_of s h e allowed is =
    let reply = had_reply e.reply is in
    let call = had_settles s h e allowed reply in
    let unrefused = no_cause s h e (λ reason refused. absurd (cc (reply, refused))) allowed in
    let facts = settle_facts s h e.worker call.0 call.1 (ap (refusal s h e.worker) (sym call.2) ∙ unrefused) in
    (call.0, call.1, call.2, leb-false (piece_count s.torrent) call.0 facts.piece, facts.not_had)

-- there are as many as were had, where none was lost
count_before : (s : Setting) (h : History) → IsLegal s h → never_loses h ≡ true
    → length (finished h) ≡ count_below (piece_count s.torrent) (had_before h)
unfolding finished had_before
count_before s [] legal never = sym (count_none (piece_count s.torrent) (had_before []) (λ k lk. refl))
count_before s (e ∷ h) legal never =
    let older = (never_parts e h never).1 in
    let before = count_before s h legal.0 older in
    rw (length-append (finished h) (finished_by e)) (by_reply before (is_had e.reply) refl)
  where
    idle : is_had e.reply ≡ false → (k : ℕ) → (passed e k || had_before h k) ≡ had_before h k
    idle is k = ap (λ (x : Bool). (x && settles e.action k) || had_before h k) is

    by_reply : length (finished h) ≡ count_below (piece_count s.torrent) (had_before h) → (x : Bool) → is_had e.reply ≡ x
        → length (finished h) + length (finished_by e) ≡ count_below (piece_count s.torrent) (λ k. passed e k || had_before h k)
    by_reply before false is =
        let none : finished_by e ≡ [] = ap (λ (x : Bool). if x then checked_by e.action else []) is in
        let same = count_same (piece_count s.torrent) (λ k. passed e k || had_before h k) (had_before h) (λ k lk. idle is k) in
        let zero_long : length (finished_by e) ≡ 0 = ap length none in
        omega (arith, before, same, zero_long)
    by_reply before true is =
        let facts = had_facts_of s h e legal.1 is in
        let one : finished_by e ≡ facts.0 ∷ [] = ap (λ (x : Bool). if x then checked_by e.action else []) is ∙ ap checked_by facts.2 in
        let long : length (finished_by e) ≡ 1 = ap length one in
        let now : (k : ℕ) → passed e k ≡ (facts.0 == k) =
        λ k. ap (λ (x : Bool). x && settles e.action k) is ∙ ap (λ (a : Action). settles a k) facts.2 in
        let others : (k : ℕ) → k < piece_count s.torrent → k ≢ facts.0 → had_before h k ≡ (passed e k || had_before h k) =
        λ k lk apart. sym (ap (λ (x : Bool). x || had_before h k) (now k ∙ ne_eqb facts.0 k (λ same. apart (sym same)))) in
        let step = count_at (piece_count s.torrent) (had_before h) (λ k. passed e k || had_before h k) facts.0 facts.3 others in
        let new : one_if (passed e facts.0 || had_before h facts.0) ≡ 1 =
        ap (λ (x : Bool). one_if (x || had_before h facts.0)) (now facts.0 ∙ eq-eqb facts.0 facts.0 refl) in
        let old : one_if (had_before h facts.0) ≡ 0 = ap one_if (sym (had_as_before h facts.0 (never_parts e h never).1) ∙ facts.4) in
        omega (arith, before, step, new, old, long)

-- so there is room for one more, where an entry says Had
pub finished_room : (s : Setting) (h : History) (e : Event) → IsLegal s h → never_loses h ≡ true → IsAllowed s h e → e.reply ≡ Had
    → length (finished h) < piece_count s.torrent
finished_room s h e legal never allowed is =
    let facts = had_facts_of s h e allowed (ap is_had is) in
    rw (count_before s h legal never)
    (count_short (piece_count s.torrent) (had_before h) facts.0 facts.3 (sym (had_as_before h facts.0 never) ∙ facts.4))
