-- The seat of a shared job, joined into a pass, tells what the desk was when the job was made.
use Rattle.std.proofs.Common.{◌≡◌, ℕ, true, false, List, [], ◌∷◌, ◌++◌, sym, ap, ◌∙◌, subst}
use Rattle.bt_check.specs.Checked.{Checked}
use Rattle.bt_history.specs.History.{History}
use Rattle.bt_history.specs.Setting.{Setting}
use Rattle.bt_picker.specs.Lasting.{WasDue}
use Rattle.bt_picker.specs.Positions.{DeskState}
use Rattle.bt_shared.specs.declared.view.DeskView.{DeskView}
use Rattle.bt_shared.specs.declared.view.Part.{Part}
use Rattle.bt_shared.specs.Guard.{Sat, Saw, meeting, part, seeing}
use Rattle.bt_shared.specs.Passes.{IsSeatOf}
use Rattle.bt_shared.specs.Seen.{Each, StartsWith}
use Rattle.bt_shared.specs.SharedJobs.{Witnesses}

-- what holds of each element holds of the later ones
each_back : {A : Type 0} (P : A → Type 0) (xs ys : List A) → Each P (xs ++ ys) → Each P ys
each_back P [] ys all = all
each_back P (x ∷ xs) ys all = each_back P xs ys all.1

-- what is found after the join began with what the job's seat has seen
witnessed : (h : History) (old : DeskView) (m : Sat) (after : DeskView) → after ≡ meeting old m.0 → m.0.parts ≡ part [] m.0.part.seen ∷ []
    → Each (Saw h after.part.workers) after.parts → StartsWith h m.0.part.seen
witnessed h old m after is whole saw =
    let both : Each (Saw h after.part.workers) (old.parts ++ part [] m.0.part.seen ∷ []) =
    subst (Each (Saw h after.part.workers)) (ap (λ (v : DeskView). v.parts) is ∙ ap (λ (ps : List Part). old.parts ++ ps) whole) saw in
    (each_back (Saw h after.part.workers) old.parts (part [] m.0.part.seen ∷ []) both).0.knows.begins

-- so its verdict was due then
pub was_due : (d : DeskState) (old : DeskView) (m : Sat) (after : DeskView) (n : ℕ) (v : Checked) → Witnesses m n v → m.0.setting ≡ d.setting
    → after ≡ meeting old m.0 → Each (Saw d.history after.part.workers) after.parts → WasDue d.setting d.history n v
was_due d old m after n v saw setting is parts =
    let begins = witnessed d.history old m after is saw.whole parts in
    subst (λ (s : Setting). WasDue s d.history n v) setting record {
      newer = begins.newer;
      earlier = m.0.part.seen;
      since = begins.is;
      waited = saw.waited;
      blocks = saw.blocks;
      counted = saw.counted;
    }

-- and the pass's seat speaks for its worker alone, once the word was had
pub still_seat : (w : ℕ) (old m joined taken after : Sat) (found left : History) → IsSeatOf w old → m.0.part.workers ≡ []
    → joined.0 ≡ meeting old.0 m.0 → taken.0 ≡ seeing true joined.0 found → after ≡ (seeing false taken.0 left, []) → IsSeatOf w after
still_seat w old m joined taken after found left seat none join take free =
    let workers : after.0.part.workers ≡ w ∷ [] = ap (λ (s : Sat). s.0.part.workers) free ∙ ap (λ (v : DeskView). v.part.workers) take
    ∙ ap (λ (v : DeskView). v.part.workers) join
    ∙ (ap (λ (ws : List ℕ). old.0.part.workers ++ ws) none ∙ ap (λ (ws : List ℕ). ws ++ []) seat.alone) in
    record {
      idle = record {
        live = ap (λ (s : Sat). s.0.spent) free;
        idle = ap (λ (s : Sat). s.0.taken) free;
        empty = ap (λ (s : Sat). s.1) free;
      };
      alone = workers;
      whole = ap (λ (s : Sat). s.0.parts) free ∙ ap (λ (ws : List ℕ). part ws left ∷ [])
          (sym (ap (λ (s : Sat). s.0.part.workers) free) ∙ workers)
          ∙ sym (ap (λ (s : Sat). part (w ∷ []) s.0.part.seen ∷ []) free);
    }
