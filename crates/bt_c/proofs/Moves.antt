-- A pointer and a handle of the heap move from one struct into another.
use mir.Syntax.{Callee, Fn, Sym, Ty, ty_struct, ty_ptr, tcons, tnil, local, value_local, seq, assign, place, field, rv_opd, copy, aggregate, return}
use prog.Model.{Model}
use prog.Wp.{Calls, Closed, Loops}
use seplogic.Ra.Ura.{Ura}
use types.Logic.{Logic}
use types.Kit.{Seq, prop}
use contract.Running.{Running}
use denote.Triple.Clauses.{AtExit, Clauses, Ended, closing}
use denote.Triple.Entry.{Args}
use denote.Triple.Spec.{Meets}
use denote.Triple.Walked.{Silent}
use denote.Exit.{Last}
use base.Fml.{Fml}
use Rattle.std.specs.Prelude.{Option}
use Rattle.std.specs.declared.alloc.Global.{Global}
use Rattle.bt_c.proofs.Walking.{List, [], ◌∷◌, ◌++◌, refl, sym, subst, Val, SProp, ent, id⊢, ftrue, WpFn, ‵, raw, ◌$◌, suffices, stop, fld, of_opd}
use Rattle.bt_c.proofs.Walking.{no_more, and_then, returns, enter, alloc_all, pass_all, free_all, look_at, get, get_in, sets, agg, sub, whole}
use Rattle.bt_c.proofs.Walking.{RattleType, ◌≡◌, emp, ◌⊛◌, ◌∵◌, !, qed, by, move, keep, split, fsplit, fjoin, use0, rewrite, tables, yes, owns}
use Rattle.bt_c.proofs.Walking.{types_at, plain, nothing, Stays, stay_dropped, walk_of, Goes-dropped, proved_at, leaves, Ptr, block_ptr, null_ptr}
use Rattle.bt_c.proofs.Walking.{layout, ptr_val, Good, Ptr-Good}
use Rattle.bt_c.proofs.Values.{both}
use Rattle.bt_c.proofs.Handles.{Z, handle_out, handle_in, handle_good, owned}

-- a struct of this name, of a pointer and a handle of the heap
abbrev pair : Sym → Ty
pair name = ty_struct name (tcons ty_ptr (tcons (layout Z) tnil))

-- a pointer and a handle are a value of it
pair_good : (name : Sym) (p : Ptr) (h : Val) → Good (layout Z) h → Good (pair name) (both (ptr_val p) h)
pair_good name (block_ptr b o) h fits = handle_good (block_ptr b o) h fits
pair_good name null_ptr h fits = handle_good null_ptr h fits

-- the code that moves them
abbrev moves : Sym → Sym → Fn
moves from into = record {
  lifetimes = 0;
  outlives = [];
  ty_params = [];
  givens = 0;
  params = 1;
  locals = local (pair into) value_local ∷ (local (pair from) value_local ∷ (local ty_ptr value_local ∷ (local (layout Z) value_local
      ∷ (local ty_ptr value_local ∷ []))));
  body = seq (assign (place 2 []) (rv_opd (copy (place 1 (field 0 ∷ [])))))
      (seq (assign (place 3 []) (rv_opd (copy (place 1 (field 1 ∷ [])))))
      (seq (assign (place 4 []) (rv_opd (copy (place 2 []))))
      (seq (assign (place 0 []) (aggregate (copy (place 4 []) ∷ (copy (place 3 []) ∷ [])))) return)));
}

module _ (R : RattleType) {M : Type 1} {𝓤 : Ura M} {𝓛 : Logic 𝓤} {K : Type 0} where
  -- a run of it: what is owned at the pointer is owned there still
  moved : K → (C : Calls 𝓤 𝓛.H) (Λ : Loops 𝓤 𝓛.H) (from into : Sym) (p : Ptr) (a : Global) (o : Option R.Denot) (vs : List Val) (X : SProp 𝓤)
      (Post : Val → SProp 𝓤)
      → ((h : Val) → Seq K 𝓛 (‵ (owned R p a o (both (ptr_val p) h ∷ [])) ∷ ‵ ftrue ∷ ‵ ftrue ∷ raw X ∷ []) (prop (Post (both (ptr_val p) h))))
      → Seq K 𝓛 (‵ (owned R p a o vs) ∷ ‵ ftrue ∷ ‵ ftrue ∷ raw X ∷ []) (prop (WpFn 𝓤 𝓛.H C Λ (moves from into) (vs ++ []) Post))
  moved t C Λ from into p a o vs X Post k =
      let Run : List Val → SProp 𝓤 = λ ws. WpFn 𝓤 𝓛.H C Λ (moves from into) ws Post in
      handle_out R t p a o vs (λ h ws fits. let w : Val = both (ptr_val p) h in
      suffices t (Run (w ∷ [])) (subst (λ (us : List Val). ent 𝓤 (Run (w ∷ [])) (Run us)) (sym (λ i. ws i ++ [])) (id⊢ 𝓤 (Run (w ∷ [])))) $
      enter t C Λ (moves from into) (w ∷ []) Post $ alloc_all t (λ l. pass_all t refl (pair_good from p h fits, tt) $
      sets t (of_opd t (get_in t (fld t refl (stop t)) (sub t 0 refl (whole t)))) refl (Ptr-Good p) $
      sets t (of_opd t (get_in t (fld t refl (stop t)) (sub t 1 refl (whole t)))) refl fits $
      sets t (of_opd t (get t refl)) refl (Ptr-Good p) $
      sets t (agg t (and_then t (get t refl) (and_then t (get t refl) (no_more t)))) refl (pair_good into p h fits) $
      handle_in R t p a o h $ returns t (look_at t 0 refl) $ free_all t refl $ k h))

-- a function of this code moves what one struct owns into another
module _ (R From Into : RattleType) (p : From.Denot → Ptr) (a : From.Denot → Global) (o : From.Denot → Option R.Denot)
    (made : From.Denot → Into.Denot) (opens : (x : From.Denot) (vs : List Val) → From.own_val x vs ≡ owned R (p x) (a x) (o x) vs)
    (closes : (x : From.Denot) (vs : List Val) → Into.own_val (made x) vs ≡ owned R (p x) (a x) (o x) vs)
    (last : (x : From.Denot) → Last (((plain {n = 0} (λ _. From)).row tt).exit yes) x) where
  abbrev Moving : Ended
  Moving = record {
    signature = record { lifetimes = 0; outlives = []; params = plain (λ _. From) ∷ []; result = plain (λ _. Into) };
    kept = (yes, tt);
  }

  module _ {M : Type 1} (𝓤 : Ura M) (𝓛 : Logic 𝓤) (𝓜 : Model 𝓤 𝓛.H) (𝓡 : Running 𝓤 𝓛.H 𝓜) (c : Clauses 𝓤 Moving)
      (silent : Silent 𝓛 0 (plain (λ _. From)) yes)
      (says : (x : Args Moving.signature tt) (g : (c tt x).ghost) (e : AtExit Moving tt) → ent 𝓤 (emp 𝓤) ((c tt x).ensures g (made x.0) e)) where
    pub moving : (k : Callee) (from into : Sym)
        → Closed 𝓤 𝓛.H (tables 𝓤 𝓛.H 𝓜 𝓡 𝓡.env).C (tables 𝓤 𝓛.H 𝓜 𝓡 𝓡.env).Λ k (moves from into)
        → Meets 𝓛 Moving.signature ((tables 𝓤 𝓛.H 𝓜 𝓡 𝓡.env).C k) (closing 𝓛 Moving c)
    moving k from into closed =
        let 𝓣 = tables 𝓤 𝓛.H 𝓜 𝓡 𝓡.env in
        let hs : Stays Moving.signature.params Moving.kept = (stay_dropped (plain (λ _. From)) yes, tt) in
        proved_at 𝓛 Moving hs c 𝓜 𝓡 (Goes-dropped 𝓛 0 (plain (λ _. From)) yes silent, tt) k (moves from into) closed (λ z are.
        let κs = z.0.0 in let x = z.0.3.0 in let vs = z.0.4.0 in let Post : Val → SProp 𝓤 = (walk_of 𝓛 Moving hs c).post z in
        qed 𝓛 ((‵ ftrue ⊛ ‵ (owns (types_at Moving.signature.params κs) z.0.3 z.0.4)) ∷ raw ((c κs z.0.3).requires z.1) ∷ []) ∵ split ! $
        move ! (1 ∷ []) $ fsplit ! $ rewrite ! 0 (λ (f : Fml). ‵ f) (opens x vs) refl $
        moved R ! 𝓣.C 𝓣.Λ from into (p x) (a x) (o x) vs _ Post (λ h. let v : Val = both (ptr_val (p x)) h in
        rewrite ! 0 (λ (f : Fml). ‵ f) (sym (closes x (v ∷ []))) refl $
        use0 𝓛 (raw ((c κs z.0.3).ensures z.1 (made x) _)) (says z.0.3 z.1 _) $ nothing ! $ nothing ! $ fjoin ! $
        keep ! (4 ∷ 0 ∷ 2 ∷ 1 ∷ []) $ by ! (leaves 𝓛 Moving hs c z v (made x) (last x, tt) (tt, tt))))
