-- `into_loose` tests the pointer, and at a block has the box.
use Rattle.bt_c.proofs.Walking.{◌≡◌, List, [], ◌∷◌, ◌++◌, refl, sym, subst, lit<, a_type, dcons, dnil, Val, vptr, vcons, vnil, inst_fn, SProp, ent}
use Rattle.bt_c.proofs.Walking.{emp, id⊢, ftrue, flft, WpFn, ‵, raw, ◌⊛◌, at_ret, ◌$◌, ◌∵◌, !, qed, by, move, keep, split, fsplit, fjoin, suffices}
use Rattle.bt_c.proofs.Walking.{use0, use1, stop, fld, lit, of_opd, bin, no_more, and_then, first, branches, exec, returns, enter, alloc_all}
use Rattle.bt_c.proofs.Walking.{pass_all, free_all, look_at, get, get_in, sets, sets_last, env, agg, sub, whole, live, fact, fact_i, tables, no}
use Rattle.bt_c.proofs.Walking.{RattleType, owns, types_at, type_at, plain, Ptr, block_ptr, null_ptr, ptr_val, tests_null, param, layout, bounded}
use Rattle.bt_c.proofs.Walking.{nothing, Stays, stay_dropped, walk_of, Goes-blank, None, Some, after, Ptr-Good, Good, Some-of, none_of, and_tt}
use Rattle.bt_c.proofs.Walking.{ghosts, proved_at, leaves}
use Rattle.std.proofs.alloc.Global.TheLaws as heap_laws
use Rattle.bt_c.specs.contracts.kept.Kept as kept
use Rattle.bt_c.proofs.Values.{both, Loose, loose_good, loose_in}
use Rattle.bt_c.proofs.Handles.{Z, handle_out, handle_good, either_handle}
use Rattle.bt_c.specs.contracts.kept.Kept.into_loose.{ended, clauses}
use Rattle.bt_c.specs.contracts.kept.Kept.into_loose.Key.{name as #self}
use Rattle.bt_c.proofs.kept.Kept.into_loose.Statement.{statement}
use Rattle.bt_c.proofs.kept.Kept.into_loose.Code as code

pub into_loose_spec : {M : Type 1} → statement M
into_loose_spec 𝓤 𝓛 𝓜 𝓡 wired T L dict glue =
    let H = 𝓛.H in let 𝓣 = tables 𝓤 H 𝓜 𝓡 𝓡.env in let R : RattleType = param 0 T in let LZ = heap_laws.the_row_laws in
    let at = bounded (a_type ∷ []) (T, tt) (dcons dict dnil) in let fn = inst_fn at code.function in
    let En = ended T dict in let c = clauses T dict 𝓛 𝓜.mem 𝓡.returns in let Lr : RattleType = Loose R Z LZ ghosts in
    let hs : Stays En.signature.params En.kept = (stay_dropped (plain (λ _. kept.the_row R)) no, tt) in
    proved_at 𝓛 En hs c 𝓜 𝓡 (Goes-blank 𝓛 1 (plain (λ _. kept.the_row R)) no (λ κs x f. tt), tt) (#self at) fn
    (code.unfolded 𝓤 H 𝓜 𝓡 wired (T, tt) dict) (λ z are.
    let κs = z.0.0 in let qs = z.0.1 in let s = z.0.3.0 in let Post : Val → SProp 𝓤 = (walk_of 𝓛 En hs c).post z in
    let Run : List Val → SProp 𝓤 = λ ws. WpFn 𝓤 H 𝓣.C 𝓣.Λ fn ws Post in let Out : RattleType = type_at En.signature.result κs in
    let toks = ‵ (flft κs.0 qs.0) ⊛ ‵ ftrue in
    qed 𝓛 ((toks ⊛ ‵ (owns (types_at En.signature.params κs) z.0.3 z.0.4)) ∷ raw ((c κs z.0.3).requires z.1) ∷ []) ∵ split ! $ move ! (1 ∷ []) $
    fsplit ! $
    handle_out R ! s.at s.alloc s.value z.0.4.0 (λ h ws fits. either_handle R ! s.at s.alloc s.value
    (λ none is. let w : Val = both (ptr_val null_ptr) h in let told : z.0.4.0 ≡ w ∷ [] = subst (λ (p : Ptr).
    z.0.4.0 ≡ both (ptr_val p) h ∷ []) is ws in
    suffices ! (Run (w ∷ [])) (subst (λ (us : List Val). ent 𝓤 (Run (w ∷ [])) (Run us)) (sym (λ i. told i ++ [])) (id⊢ 𝓤 (Run (w ∷ [])))) $
    enter ! 𝓣.C 𝓣.Λ fn (w ∷ []) Post $ alloc_all ! (λ l. pass_all ! refl (handle_good null_ptr h fits, tt) $ let Ev = env fn.locals l in
    sets ! (of_opd ! (get_in ! (fld ! refl (stop !)) (sub ! 0 refl (whole !)))) refl (Ptr-Good null_ptr) $
    sets ! (of_opd ! (get_in ! (fld ! refl (stop !)) (sub ! 1 refl (whole !)))) refl fits $
    sets ! (bin ! (get ! refl) (lit ! tt) tt) refl (tt, tt) $ first ! $ branches ! (get ! refl)
    (λ _. sets_last ! (agg ! (and_then ! (lit ! tt) (no_more !))) refl (tt, (record { fits = lit< tt }, tt)) $
    exec ! 𝓣.C 𝓣.Λ Ev (after 4 fn.body) (at_ret Ev Post) $ sets ! (of_opd ! (get ! refl)) refl (tt, (record { fits = lit< tt }, tt)) $
    use0 𝓛 (‵ (Out.own_val None (live 0 vnil ∷ []))) (none_of 𝓛 Lr) $
    use0 𝓛 (raw (fact 𝓤 (s.value ≡ None))) (fact_i 𝓤 (s.value ≡ None) (emp 𝓤) none) $ nothing ! $ nothing ! $ fjoin ! $
    returns ! (look_at ! 0 refl) $ free_all ! refl $ keep ! (5 ∷ 0 ∷ 2 ∷ 1 ∷ []) $
    by ! (leaves 𝓛 En hs c z (live 0 vnil) None (tt, tt) (tt, tt))) (λ wrong. absurd wrong)))
    (λ b o x some is t. let w : Val = both (vptr b o) h in let told : z.0.4.0 ≡ w ∷ [] = subst (λ (p : Ptr).
    z.0.4.0 ≡ both (ptr_val p) h ∷ []) is ws in
    let typed = loose_good R Z LZ ghosts b o h fits in let v₁ : Val = live 1 (vcons w vnil) in
    let d : Lr.Denot = record { at = block_ptr b o; alloc = s.alloc; value = x } in
    let good : Good (layout Out) v₁ = (and_tt _ typed.0, (record { fits = lit< tt }, (typed.1, tt))) in
    suffices ! (Run (w ∷ [])) (subst (λ (us : List Val). ent 𝓤 (Run (w ∷ [])) (Run us)) (sym (λ i. told i ++ [])) (id⊢ 𝓤 (Run (w ∷ [])))) $
    enter ! 𝓣.C 𝓣.Λ fn (w ∷ []) Post $ alloc_all ! (λ l. pass_all ! refl (handle_good (block_ptr b o) h fits, tt) $ let Ev = env fn.locals l in
    sets ! (of_opd ! (get_in ! (fld ! refl (stop !)) (sub ! 0 refl (whole !)))) refl (tt, tt) $
    sets ! (of_opd ! (get_in ! (fld ! refl (stop !)) (sub ! 1 refl (whole !)))) refl fits $
    sets ! (bin ! (get ! refl) (lit ! tt) (tests_null (block_ptr b o) t)) refl (tt, tt) $ first ! $
    branches ! (get ! refl) (λ wrong. absurd wrong) (λ _.
    sets ! (agg ! (and_then ! (get ! refl) (and_then ! (get ! refl) (no_more !)))) refl typed $
    sets_last ! (agg ! (and_then ! (lit ! tt) (and_then ! (get ! refl) (no_more !)))) refl good $
    exec ! 𝓣.C 𝓣.Λ Ev (after 4 fn.body) (at_ret Ev Post) $ sets ! (of_opd ! (get ! refl)) refl good $ loose_in R Z LZ ghosts ! b o h s.alloc x $
    use1 𝓛 (‵ (Out.own_val (Some d) (v₁ ∷ []))) (Some-of 𝓛 Lr d w) $
    use0 𝓛 (raw (fact 𝓤 (s.value ≡ Some x))) (fact_i 𝓤 (s.value ≡ Some x) (emp 𝓤) some) $ nothing ! $ nothing ! $ fjoin ! $
    returns ! (look_at ! 0 refl) $ free_all ! refl $ keep ! (4 ∷ 0 ∷ 2 ∷ 1 ∷ []) $ by ! (leaves 𝓛 En hs c z v₁ (Some d) (tt, tt) (tt, tt)))))))
