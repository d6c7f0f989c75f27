-- The machine value of a handle, and the two cases of what it owns, whatever lies behind it. Assumes `Logic`.
use Rattle.std.proofs.Common.{◌≡◌, ℕ, List, [], ◌∷◌, ◌++◌, refl, subst, lit<}
use mathlib.Core.Bool.{true, ◌&&◌}
use lib.Dec.{T}
use seplogic.Ra.Ura.{Ura}
use mir.Syntax.{impl, tnil, dnil}
use mir.Raw.{raw as bare}
use mir.Val.{Val, vstruct, of_list, has_ty, WT}
use base.Logic.{SProp, ent, guard, never, via, fst∗, snd∗, guard_i}
use base.Fml.{Fml, feq, fex, fsep}
use contract.Monad.{fact_use}
use types.Logic.{Logic, sem}
use types.Kit.{Item, Goal, Seq, Step, step, ‵, given, ◌$◌, learn, move, drop, fsplit, fjoin, fpick, fpack, feq_i, feq_l, use1}
use denote.RattleType.{RattleType, Valss, flat, owns}
use denote.Builtin.{RawPtr}
use denote.Memory.{lone}
use denote.RawPtr.{Ptr, block_ptr, null_ptr, ptr_val, in_a_block, Testable}
use denote.Steps.{nothing}
use denote.Param.{layout}
use Rattle.core.specs.Ptr.{points_to}
use Rattle.core.proofs.alloc.Calls.{Al, handle_tells}
use Rattle.core.proofs.cell.Inside.{Good}
use Rattle.std_alloc.specs.Box.Ownership.{box_owns}
use Rattle.std_alloc.proofs.ResultValues.{and_tt}
use Rattle.std.specs.Prelude.{Option, None, Some}
use Rattle.std.specs.declared.alloc.Global.{Global}
use Rattle.std.specs.contracts.alloc.Global as heap
use Rattle.std.proofs.alloc.Global.TheLaws as heap_laws
use Rattle.std.specs.contracts.impls.GlobalAllocator.TheImpl.{ghosts}
use Rattle.std.proofs.GlobalToken.{dealloc_token-Testable}
use Rattle.bt_c.specs.Handles.{handle_owns}
use Rattle.bt_c.proofs.Values.{both}

abbrev pub Z : RattleType
Z = heap.the_row

abbrev pub al : Al
al = record { row = Z; laws = heap_laws.the_row_laws; g = ghosts; d = impl [] tnil dnil; drops = impl [] tnil dnil }

pub handle_good : (p : Ptr) (h : Val) → Good (layout Z) h → T (has_ty (layout Z) h && true) × WT (both (ptr_val p) h)
handle_good (block_ptr b o) h fits = (and_tt (has_ty (layout Z) h) fits.0, (tt, (fits.1, tt)))
handle_good null_ptr h fits = (and_tt (has_ty (layout Z) h) fits.0, (record { fits = lit< tt }, (fits.1, tt)))

-- the fields of a handle
abbrev Fields : List RattleType
Fields = RawPtr ∷ Z ∷ []

-- what is owned at the pointer and the allocator's handle, whose machine values are these
abbrev within : Ptr → Global → List Val → Valss Fields → Fml
within p a vs vss = fsep (feq (List Val) vs (vstruct (of_list (flat Fields vss)) ∷ [])) (owns Fields (p, (a, tt)) vss)

module _ (R : RattleType) where
  -- what a handle owns: its fields, and where it isn't null a box of R's value
  abbrev pub owned : Ptr → Global → Option R.Denot → List Val → Fml
  owned p a o vs = fsep (fex (Valss Fields) (within p a vs)) (handle_owns R p a o)

  abbrev pub boxed : Global → Ptr → R.Denot → Fml
  boxed a p x = box_owns (ghosts.dealloc_token a) R p x

  module _ {M : Type 1} {𝓤 : Ura M} (𝓛 : Logic 𝓤) where
    pub tested : (a : Global) (p : Ptr) (x : R.Denot) → ent 𝓤 (sem 𝓛 (boxed a p x)) (guard 𝓤 (Testable p) (sem 𝓛 (boxed a p x)))
    tested a p x = let B : SProp 𝓤 = sem 𝓛 (boxed a p x) in let token = sem 𝓛 (ghosts.dealloc_token a (bare (lone R.mir)) p) in
        fact_use 𝓤 (Testable p) (via 𝓤 _ (snd∗ 𝓤 (sem 𝓛 (points_to R p x)) token) (dealloc_token-Testable 𝓛 a (bare (lone R.mir)) p))
        (guard_i 𝓤 (Testable p) B)

  module _ {M : Type 1} {𝓤 : Ura M} {𝓛 : Logic 𝓤} {K : Type 0} {Γ : List (Item 𝓤)} {G : Goal 𝓤 𝓛.H} where
    pub handle_out : K → (p : Ptr) (a : Global) (o : Option R.Denot) (vs : List Val)
        → ((h : Val) → vs ≡ both (ptr_val p) h ∷ [] → Good (layout Z) h
        → Seq K 𝓛 (‵ (handle_owns R p a o) ∷ ‵ (Z.own_val a (h ∷ [])) ∷ Γ) G)
        → Seq K 𝓛 (‵ (owned p a o vs) ∷ Γ) G
    handle_out t p a o vs k =
        fsplit t $ fpick t (λ vss. fsplit t $ feq_l t (λ ev. fsplit t $ feq_l t (λ ep. fsplit t $
        handle_tells al t a vss.1.0 (λ h ea fits. move t (1 ∷ []) $ drop t $ move t (1 ∷ []) $
        k h (subst (λ (ws : List Val). vs ≡ vstruct (of_list (ptr_val p ∷ (ws ++ []))) ∷ []) ea (subst (λ (ps : List Val).
        vs ≡ vstruct (of_list (ps ++ (vss.1.0 ++ []))) ∷ []) ep ev)) fits))))

    pub handle_in : K → (p : Ptr) (a : Global) (o : Option R.Denot) (h : Val)
        → Step K 𝓛 (‵ (owned p a o (both (ptr_val p) h ∷ [])) ∷ Γ) G
        (‵ (handle_owns R p a o) ∷ ‵ (Z.own_val a (h ∷ [])) ∷ Γ) G
    handle_in t p a o h = step (λ s. let v : Val = both (ptr_val p) h in
        nothing t $ move t (2 ∷ 0 ∷ []) $ fjoin t $ feq_i t (List Val) (ptr_val p ∷ []) (ptr_val p ∷ []) refl $ fjoin t $
        feq_i t (List Val) (v ∷ []) (v ∷ []) refl $ fjoin t $
        fpack t (Valss Fields) (within p a (v ∷ [])) (ptr_val p ∷ [], (h ∷ [], tt)) $ fjoin t $ s)

    pub either_handle : K → (p : Ptr) (a : Global) (o : Option R.Denot)
        → (o ≡ None → p ≡ null_ptr → Seq K 𝓛 Γ G)
        → ((b k : ℕ) (x : R.Denot) → o ≡ Some x → p ≡ block_ptr b k → Testable (block_ptr b k) → Seq K 𝓛 (‵ (boxed a (block_ptr b k) x) ∷ Γ) G)
        → Seq K 𝓛 (‵ (handle_owns R p a o) ∷ Γ) G
    either_handle t p a None none one = feq_l t (λ e. none refl e)
    either_handle t p a (Some x) none one =
        in_a_block t p (λ q. boxed a q x) (fst∗ 𝓤 (never 𝓤) (sem 𝓛 (ghosts.dealloc_token a (bare (lone R.mir)) null_ptr))) (λ b k e.
        use1 𝓛 (given (Testable (block_ptr b k)) (‵ (boxed a (block_ptr b k) x))) (tested 𝓛 a (block_ptr b k) x) $ learn t (λ u. one b k x refl e u))
