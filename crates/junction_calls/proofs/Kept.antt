-- The machine values of a handle, and what it owns. Assumes `Logic`.
use Rattle.std.proofs.Common.{◌≡◌, true, List, [], ◌∷◌, ◌++◌, refl, sym, ◌∙◌, subst}
use lib.Dec.{T}
use seplogic.Ra.Ura.{Ura}
use mir.Val.{Val, vbool, vstruct, of_list}
use types.Logic.{Logic}
use types.Kit.{Item, Goal, Seq, Step, step, ‵, ◌$◌, drop, fsplit, fjoin, fpick, fpack, feq_i, feq_l}
use denote.RattleType.{Valss}
use denote.Builtin.{RawPtr, bool}
use denote.RawPtr.{ptr_val}
use denote.Steps.{nothing}
use denote.Struct.Struct.{within}
use denote.Struct.Owning.{shape}
use Rattle.std.specs.Prelude.{Option, Some, None, is_some}
use Rattle.loose_box.proofs.Values.{both}
use Rattle.junction_calls.specs.Owned.{owned}
use Rattle.junction_calls.specs.contracts.handle.Junction as handle

pub found : {A : Type 0} (o : Option A) → is_some o ≡ true → (x : A) × (o ≡ Some x)
found None e = absurd (subst T (sym e) tt)
found (Some x) e = (x, refl)

module _ {M : Type 1} {𝓤 : Ura M} {𝓛 : Logic 𝓤} {K : Type 0} {Γ : List (Item 𝓤)} {G : Goal 𝓤 𝓛.H} where
  pub handle_in : K → (d : handle.the_row.Denot)
      → Step K 𝓛 (‵ (handle.the_row.own_val d (both (ptr_val d.at) (vbool d.held) ∷ [])) ∷ Γ) G (‵ (owned d.at d.value) ∷ Γ) G
  handle_in t d = step (λ s. let v : Val = both (ptr_val d.at) (vbool d.held) in
      nothing t $ feq_i t (List Val) (vbool d.held ∷ []) (vbool d.held ∷ []) refl $ fjoin t $ feq_i t (List Val) (ptr_val d.at ∷ []) (ptr_val d.at ∷ []) refl $ fjoin t $
      feq_i t (List Val) (v ∷ []) (v ∷ []) refl $ fjoin t $
      fpack t (Valss (RawPtr ∷ bool ∷ [])) (within (shape handle.the_type) (d.at, (d.held, tt)) (v ∷ [])) (ptr_val d.at ∷ [], (vbool d.held ∷ [], tt)) $ fjoin t $ s)

  pub handle_out : K → (d : handle.the_row.Denot) (us : List Val)
      → (us ≡ both (ptr_val d.at) (vbool d.held) ∷ [] → Seq K 𝓛 (‵ (owned d.at d.value) ∷ Γ) G) → Seq K 𝓛 (‵ (handle.the_row.own_val d us) ∷ Γ) G
  handle_out t d us k = fsplit t $ fpick t (λ vss. fsplit t $ feq_l t (λ ev. fsplit t $ feq_l t (λ ep. fsplit t $ feq_l t (λ eb. drop t $
      k (ev ∙ (λ j. vstruct (of_list (ep j ++ (eb j ++ []))) ∷ []))))))
