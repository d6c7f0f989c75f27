-- `nothing` makes a null pointer.
use Rattle.bt_c.proofs.Walking.{◌≡◌, List, [], ◌∷◌, ◌++◌, refl, sym, subst, a_type, dcons, dnil, Val, inst_fn, SProp, ent, emp, id⊢, ftrue, flft}
use Rattle.bt_c.proofs.Walking.{WpFn, ‵, raw, ◌⊛◌, ◌$◌, ◌∵◌, !, qed, by, move, keep, split, fsplit, fjoin, suffices, use0, feq_i, lit, no_more}
use Rattle.bt_c.proofs.Walking.{and_then, returns, enter, alloc_all, pass_all, free_all, look_at, get, sets, agg, fact, fact_i, tables, yes}
use Rattle.bt_c.proofs.Walking.{RattleType, owns, types_at, plain, Ptr, null_ptr, ptr_val, param, bounded, nothing, Stays, stay_dropped, walk_of}
use Rattle.bt_c.proofs.Walking.{Goes-dropped, None, handle_tells, proved_at, leaves}
use Rattle.bt_c.specs.contracts.kept.Kept as kept
use Rattle.bt_c.proofs.Values.{both}
use Rattle.bt_c.proofs.Handles.{Z, al, handle_in, handle_good}
use Rattle.bt_c.specs.contracts.kept.Kept.nothing.{ended, clauses}
use Rattle.bt_c.specs.contracts.kept.Kept.nothing.Key.{name as #self}
use Rattle.bt_c.proofs.kept.Kept.nothing.Statement.{statement}
use Rattle.bt_c.proofs.kept.Kept.nothing.Code as code

pub nothing_spec : {M : Type 1} → statement M
nothing_spec 𝓤 𝓛 𝓜 𝓡 wired T L dict glue =
    let H = 𝓛.H in let 𝓣 = tables 𝓤 H 𝓜 𝓡 𝓡.env in let R : RattleType = param 0 T in
    let at = bounded (a_type ∷ []) (T, tt) (dcons dict dnil) in let fn = inst_fn at code.function in
    let En = ended T dict in let c = clauses T dict 𝓛 𝓜.mem 𝓡.returns in
    let hs : Stays En.signature.params En.kept = (stay_dropped (plain (λ _. Z)) yes, tt) in
    proved_at 𝓛 En hs c 𝓜 𝓡 (Goes-dropped 𝓛 1 (plain (λ _. Z)) yes (λ κs x f. refl), tt) (#self at) fn
    (code.unfolded 𝓤 H 𝓜 𝓡 wired (T, tt) dict) (λ z are.
    let κs = z.0.0 in let qs = z.0.1 in let a = z.0.3.0 in let Post : Val → SProp 𝓤 = (walk_of 𝓛 En hs c).post z in
    let Run : List Val → SProp 𝓤 = λ ws. WpFn 𝓤 H 𝓣.C 𝓣.Λ fn ws Post in
    let toks = ‵ (flft κs.0 qs.0) ⊛ ‵ ftrue in
    qed 𝓛 ((toks ⊛ ‵ (owns (types_at En.signature.params κs) z.0.3 z.0.4)) ∷ raw ((c κs z.0.3).requires z.1) ∷ []) ∵ split ! $ move ! (1 ∷ []) $
    fsplit ! $
    handle_tells al ! a z.0.4.0 (λ h eh fits. let v : Val = both (ptr_val null_ptr) h in
    let d : (kept.the_row R).Denot = record { at = null_ptr; alloc = a; value = None } in
    suffices ! (Run (h ∷ [])) (subst (λ (us : List Val). ent 𝓤 (Run (h ∷ [])) (Run us)) (sym (λ i. eh i ++ [])) (id⊢ 𝓤 (Run (h ∷ [])))) $
    enter ! 𝓣.C 𝓣.Λ fn (h ∷ []) Post $ alloc_all ! (λ l. pass_all ! refl (fits, tt) $
    sets ! (agg ! (and_then ! (lit ! tt) (and_then ! (get ! refl) (no_more !)))) refl (handle_good null_ptr h fits) $
    feq_i ! Ptr null_ptr null_ptr refl $ handle_in R ! d.at d.alloc d.value h $
    use0 𝓛 (raw (fact 𝓤 (d.value ≡ None))) (fact_i 𝓤 (d.value ≡ None) (emp 𝓤) refl) $ nothing ! $ nothing ! $ fjoin ! $
    returns ! (look_at ! 0 refl) $ free_all ! refl $ keep ! (4 ∷ 0 ∷ 2 ∷ 1 ∷ []) $ by ! (leaves 𝓛 En hs c z v d (tt, tt) (tt, tt)))))
