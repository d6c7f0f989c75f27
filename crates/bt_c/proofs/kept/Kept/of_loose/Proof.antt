-- `of_loose` moves the pointer.
use Rattle.bt_c.proofs.Walking.{◌≡◌, List, [], ◌∷◌, ◌++◌, refl, sym, subst, a_type, dcons, dnil, Val, vptr, inst_fn, SProp, ent, emp, id⊢, ftrue}
use Rattle.bt_c.proofs.Walking.{flft, WpFn, ‵, raw, ◌⊛◌, ◌$◌, ◌∵◌, !, qed, by, move, keep, split, fsplit, fjoin, suffices, use0, stop, fld, of_opd}
use Rattle.bt_c.proofs.Walking.{no_more, and_then, returns, enter, alloc_all, pass_all, free_all, look_at, get, get_in, sets, agg, sub, whole, fact}
use Rattle.bt_c.proofs.Walking.{fact_i, tables, no, RattleType, owns, types_at, plain, block_ptr, param, bounded, nothing, Stays, stay_dropped}
use Rattle.bt_c.proofs.Walking.{walk_of, Goes-blank, Some, ghosts, proved_at, leaves}
use Rattle.std.proofs.alloc.Global.TheLaws as heap_laws
use Rattle.bt_c.specs.contracts.kept.Kept as kept
use Rattle.bt_c.proofs.Values.{both, Loose, loose_good, loose_out}
use Rattle.bt_c.proofs.Handles.{Z, handle_in, handle_good}
use Rattle.bt_c.specs.contracts.kept.Kept.of_loose.{ended, clauses}
use Rattle.bt_c.specs.contracts.kept.Kept.of_loose.Key.{name as #self}
use Rattle.bt_c.proofs.kept.Kept.of_loose.Statement.{statement}
use Rattle.bt_c.proofs.kept.Kept.of_loose.Code as code

pub of_loose_spec : {M : Type 1} → statement M
of_loose_spec 𝓤 𝓛 𝓜 𝓡 wired T L dict glue =
    let H = 𝓛.H in let 𝓣 = tables 𝓤 H 𝓜 𝓡 𝓡.env in let R : RattleType = param 0 T in let LZ = heap_laws.the_row_laws in
    let at = bounded (a_type ∷ []) (T, tt) (dcons dict dnil) in let fn = inst_fn at code.function in
    let En = ended T dict in let c = clauses T dict 𝓛 𝓜.mem 𝓡.returns in
    let hs : Stays En.signature.params En.kept = (stay_dropped (plain (λ _. Loose R Z LZ ghosts)) no, tt) in
    proved_at 𝓛 En hs c 𝓜 𝓡 (Goes-blank 𝓛 1 (plain (λ _. Loose R Z LZ ghosts)) no (λ κs x f. tt), tt) (#self at) fn
    (code.unfolded 𝓤 H 𝓜 𝓡 wired (T, tt) dict) (λ z are.
    let κs = z.0.0 in let qs = z.0.1 in let v = z.0.3.0 in let Post : Val → SProp 𝓤 = (walk_of 𝓛 En hs c).post z in
    let Run : List Val → SProp 𝓤 = λ ws. WpFn 𝓤 H 𝓣.C 𝓣.Λ fn ws Post in
    let toks = ‵ (flft κs.0 qs.0) ⊛ ‵ ftrue in
    qed 𝓛 ((toks ⊛ ‵ (owns (types_at En.signature.params κs) z.0.3 z.0.4)) ∷ raw ((c κs z.0.3).requires z.1) ∷ []) ∵ split ! $ move ! (1 ∷ []) $
    fsplit ! $
    loose_out R Z LZ ghosts ! v z.0.4.0 (λ b o h e ws fits. let w : Val = both (vptr b o) h in
    let d : (kept.the_row R).Denot = record { at = block_ptr b o; alloc = v.alloc; value = Some v.value } in
    suffices ! (Run (w ∷ [])) (subst (λ (us : List Val). ent 𝓤 (Run (w ∷ [])) (Run us)) (sym (λ i. ws i ++ [])) (id⊢ 𝓤 (Run (w ∷ [])))) $
    enter ! 𝓣.C 𝓣.Λ fn (w ∷ []) Post $ alloc_all ! (λ l. pass_all ! refl (loose_good R Z LZ ghosts b o h fits, tt) $
    sets ! (of_opd ! (get_in ! (fld ! refl (stop !)) (sub ! 0 refl (whole !)))) refl (tt, tt) $
    sets ! (of_opd ! (get_in ! (fld ! refl (stop !)) (sub ! 1 refl (whole !)))) refl fits $
    sets ! (agg ! (and_then ! (get ! refl) (and_then ! (get ! refl) (no_more !)))) refl (handle_good (block_ptr b o) h fits) $
    handle_in R ! d.at d.alloc d.value h $
    use0 𝓛 (raw (fact 𝓤 (d.value ≡ Some v.value))) (fact_i 𝓤 (d.value ≡ Some v.value) (emp 𝓤) refl) $ nothing ! $ nothing ! $ fjoin ! $
    returns ! (look_at ! 0 refl) $ free_all ! refl $ keep ! (4 ∷ 0 ∷ 2 ∷ 1 ∷ []) $ by ! (leaves 𝓛 En hs c z w d (tt, tt) (tt, tt)))))
