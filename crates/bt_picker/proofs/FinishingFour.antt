-- Settling pieces four at a time.
use Rattle.std.proofs.Common.{◌≡◌, ◌≢◌, ℕ, zero, suc, ◌+◌, ◌≤◌, Bool, true, false, List, [], ◌∷◌, Option, None, Some, refl, arith, ap, sym, ◌∙◌}
use Rattle.std.proofs.Common.{subst}
use Rattle.std.specs.Prelude.{if◌then◌else◌, nat_lt, unwrap_or, Result, Ok, Err, OnErr}
use Rattle.std.proofs.lemmas.Bool.{and_left, and_parts, and_right, le-ltb, ltb-true, ne_eqb}
use Rattle.bt_check.specs.Checked.{Checked}
use Rattle.bt_check.specs.declared.job.Job.{Job}
use Rattle.bt_meta.specs.Layout.{IsLayout, piece_count, block_count, block}
use Rattle.bt_history.specs.declared.call.Reply.{Reply}
use Rattle.bt_history.specs.Setting.{Setting}
use Rattle.bt_history.specs.History.{History, is_failed}
use Rattle.bt_history.specs.Pieces.{content_of_block, kept}
use Rattle.bt_tables.proofs.Tabled.{same_table}
use Rattle.bt_picker.specs.Checks.{AreDue, FinishedBelow, FinishesOne, GivesUp, IsDue, IsJobOf, SettlesEach, SettlesIf, SettlesNow, StopsAfter}
use Rattle.bt_picker.specs.Checks.{blocks_of, settling, waits}
use Rattle.bt_picker.specs.Positions.{DeskState, Gains}
use Rattle.bt_picker.proofs.Finishing.{Finishing, finishing_more, gained_waits, kept_after, waits_other}

-- where there is an error, its clause says this
pub on_err : {T E : Type 0} (r : Result T E) (P : Type 0) → P → OnErr r P
on_err (Ok x) P holds = tt
on_err (Err e) P holds = holds

-- a piece that doesn't wait is no reason to give up
pub waits_else : (x : Bool) → (x ≡ false → false ≡ true) → x ≡ true
waits_else true none = refl
waits_else false none = none refl

-- a check of piece p leaves the blocks of another
blocks_other : (s : Setting) (h : History) (w p r : ℕ) (reply : Reply) → p ≢ r → blocks_of s (settling s h w p reply ∷ h) r ≡ blocks_of s h r
blocks_other s h w p r reply apart =
    same_table (block_count s.torrent r) (λ k. content_of_block (settling s h w p reply ∷ h) (block s.torrent r k))
    (λ k. content_of_block h (block s.torrent r k)) (λ k lt.
    ap (λ (o : Option (List ℕ)). unwrap_or o []) (kept_after s h w p reply (block s.torrent r k)
    ∙ ap (λ (x : Bool). if x then None else kept h (block s.torrent r k)) (and_right (is_failed reply) _ (ne_eqb p r apart))))

-- a verdict of one piece is still due when another was settled
pub due_after : (d new : DeskState) (w p r : ℕ) (reply : Reply) (v : Checked) → p ≢ r → Gains d new (settling d.setting d.history w p reply) →
    IsDue d r v → IsDue new r v
due_after d new w p r reply v apart gains due = (
  gained_waits d new w p reply r gains ∙ (waits_other d.setting d.history w p reply r apart ∙ due.0),
  due.1,
  due.2 ∙ sym (ap (λ (s : Setting). blocks_of s new.history r) gains.setting ∙ (ap (λ (h : History). blocks_of d.setting h r) gains.entered
      ∙ blocks_other d.setting d.history w p r reply apart)),
)

-- the settling of one piece leaves the verdict of another due
pub due_still : (d new : DeskState) (w p r : ℕ) (reply : Reply) (v : Checked) → p ≢ r → SettlesNow d new w p reply → IsDue d r v → IsDue new r v
due_still d new w p r reply v apart settled due = by_case (waits d.setting d.history p) settled where
  by_case : (x : Bool) → SettlesIf x d new w p reply → IsDue new r v
  by_case true gains = due_after d new w p r reply v apart gains due
  by_case false same = subst (λ (e : DeskState). IsDue e r v) (sym same.0) due

-- a verdict that is due is due for its own piece
pub due_own : (d : DeskState) (p : ℕ) (v : Checked) → IsDue d p v → IsDue d v.piece v
due_own d p v due = (
  ap (waits d.setting d.history) due.1 ∙ due.0,
  refl,
  due.2 ∙ sym (ap (blocks_of d.setting d.history) due.1),
)

-- a piece whose verdict was due is settled
pub due_settles : (d new : DeskState) (w p : ℕ) (reply : Reply) (v : Checked) → IsDue d p v →
    Gains d new (settling d.setting d.history w v.piece reply) → SettlesNow d new w p reply
due_settles d new w p reply v due gains =
    subst (λ (x : Bool). SettlesIf x d new w p reply) (sym due.0)
    (subst (λ (m : ℕ). Gains d new (settling d.setting d.history w m reply)) due.1 gains)

-- the job of a piece gives a verdict that is due
pub job_due : (d : DeskState) (p : ℕ) (job : Job) (v w : Checked) → IsJobOf d.setting d.history p (Some job) →
    (v.piece ≡ job.piece) × (v.blocks ≡ job.blocks.items) → w ≡ v → IsDue d p w
job_due d p job v w is hashed same = (
  is.0,
  ap (λ (x : Checked). x.piece) same ∙ (hashed.0 ∙ is.1),
  ap (λ (x : Checked). x.blocks) same ∙ (hashed.1 ∙ is.2),
)

-- ---- one piece after the other

pub settled_one : (old new : DeskState) (w p : ℕ) (reply : Reply) → SettlesNow old new w p reply → SettlesEach old w p 1 new
settled_one old new w p reply now = (old, refl, reply, subst (λ (m : ℕ). SettlesNow old new w m reply) (omega arith) now)

pub settled_more : (old d new : DeskState) (w p n : ℕ) (reply : Reply) → SettlesEach old w p n d → SettlesNow d new w (p + n) reply →
    SettlesEach old w p (suc n) new
settled_more old d new w p n reply before now = (d, before, reply, now)

-- memory ran out at a piece that waits
pub stops_at : (old d now : DeskState) (w p n : ℕ) → SettlesEach old w p n d → now ≡ d → waits d.setting d.history (p + n) ≡ true →
    StopsAfter old w p now
stops_at old d now w p n before same waiting = record {
  count = n;
  each = subst (SettlesEach old w p n) (sym same) before;
  still = ap (λ (e : DeskState). waits e.setting e.history (p + n)) same ∙ waiting;
}

pub stops_first : (old now : DeskState) (w p : ℕ) → now ≡ old → waits old.setting old.history p ≡ true → StopsAfter old w p now
stops_first old now w p same waiting = stops_at old old now w p 0 refl same (ap (waits old.setting old.history) (omega arith) ∙ waiting)

-- ---- four verdicts, one after the other

-- the first of four is settled, and the others are still due
abbrev pub OneOfFour : DeskState → DeskState → ℕ → ℕ → Checked → Checked → Checked → Type 0
OneOfFour old d w p two three four = SettlesEach old w p 1 d × IsDue d (p + 1) two × IsDue d (p + 2) three × IsDue d (p + 3) four

-- two are settled
abbrev pub TwoOfFour : DeskState → DeskState → ℕ → ℕ → Checked → Checked → Type 0
TwoOfFour old d w p three four = SettlesEach old w p 2 d × IsDue d (p + 2) three × IsDue d (p + 3) four

-- three are
abbrev pub ThreeOfFour : DeskState → DeskState → ℕ → ℕ → Checked → Type 0
ThreeOfFour old d w p four = SettlesEach old w p 3 d × IsDue d (p + 3) four

module _ (old d : DeskState) (w p : ℕ) (reply : Reply) (one two three four : Checked) where
  pub first_of_four : AreDue old p one two three four → Gains old d (settling old.setting old.history w one.piece reply) →
      OneOfFour old d w p two three four
  first_of_four due gains =
      let now = due_settles old d w p reply one due.first gains in (
        settled_one old d w p reply now,
        due_still old d w p (p + 1) reply two (λ same. absurd (omega (arith, same))) now due.second,
        due_still old d w p (p + 2) reply three (λ same. absurd (omega (arith, same))) now due.third,
        due_still old d w p (p + 3) reply four (λ same. absurd (omega (arith, same))) now due.fourth,
      )

module _ (old d new : DeskState) (w p : ℕ) (reply : Reply) where
  pub second_of_four : (two three four : Checked) → OneOfFour old d w p two three four →
      Gains d new (settling d.setting d.history w two.piece reply) → TwoOfFour old new w p three four
  second_of_four two three four due gains =
      let now = due_settles d new w (p + 1) reply two due.1 gains in (
        settled_more old d new w p 1 reply due.0 now,
        due_still d new w (p + 1) (p + 2) reply three (λ same. absurd (omega (arith, same))) now due.2,
        due_still d new w (p + 1) (p + 3) reply four (λ same. absurd (omega (arith, same))) now due.3,
      )

  pub third_of_four : (three four : Checked) → TwoOfFour old d w p three four →
      Gains d new (settling d.setting d.history w three.piece reply) → ThreeOfFour old new w p four
  third_of_four three four due gains =
      let now = due_settles d new w (p + 2) reply three due.1 gains in (
        settled_more old d new w p 2 reply due.0 now,
        due_still d new w (p + 2) (p + 3) reply four (λ same. absurd (omega (arith, same))) now due.2,
      )

-- ---- going over all pieces

pub finishing_each : (first d new : DeskState) (w p n : ℕ) → IsLayout first.setting.torrent → Finishing first w p d → SettlesEach d w p n new →
    Finishing first w (p + n) new
finishing_each first d new w p zero layout so_far same =
    subst (λ (m : ℕ). Finishing first w m new) (omega arith) (subst (Finishing first w p) (sym same) so_far)
finishing_each first d new w p (suc n) layout so_far (e, before, reply, now) =
    let until : Finishing first w (p + n) e = finishing_each first d e w p n layout so_far before in
    let same : IsLayout e.setting.torrent = subst (λ (s : Setting). IsLayout s.torrent) (sym until.setting) layout in
    subst (λ (m : ℕ). Finishing first w m new) (omega arith) (finishing_more first e new w (p + n) reply same until now)

-- where memory ran out within four pieces, it did so within all
pub gives_up : (first d now : DeskState) (w p : ℕ) → IsLayout first.setting.torrent → Finishing first w p d → StopsAfter d w p now →
    GivesUp first w now
gives_up first d now w p layout so_far stops =
    let until = finishing_each first d now w p stops.count layout so_far stops.each in record {
      piece = p + stops.count;
      within = ltb-true (p + stops.count) (piece_count now.setting.torrent)
          (and_parts (nat_lt (p + stops.count) (piece_count now.setting.torrent)) _ stops.still).0;
      below = until.below;
      still = stops.still;
    }

-- where no piece from n on waits, those below n are all
pub finished_front : (first new : DeskState) (w n m : ℕ) → ((p : ℕ) → n ≤ p → waits first.setting first.history p ≡ false) →
    FinishedBelow first w (n + m) new → FinishedBelow first w n new
finished_front first new w n zero none done = subst (λ (k : ℕ). FinishedBelow first w k new) (omega arith) done
finished_front first new w n (suc m) none done =
    let (d, before, one) = subst (λ (k : ℕ). FinishedBelow first w k new) (plus_suc n m) done in
    finished_front first new w n m none (subst (FinishedBelow first w (n + m))
    (sym (subst (λ (x : Bool). FinishesOne x d w (n + m) new) (none (n + m) (omega arith)) one)) before)
  where
    plus_suc : (a b : ℕ) → a + suc b ≡ suc (a + b)
    plus_suc a b = omega arith

-- no piece beyond the last waits
pub beyond_last : (s : Setting) (h : History) (p : ℕ) → piece_count s.torrent ≤ p → waits s h p ≡ false
beyond_last s h p le = and_left (nat_lt p (piece_count s.torrent)) _ (le-ltb p (piece_count s.torrent) le)
