-- `seal` keeps what the parts own, and says that something is held.
use Rattle.std.proofs.Common.{◌≡◌, List, [], ◌∷◌, ◌++◌, true, refl, sym, subst}
use mir.Val.{Val, vptr, vbool}
use base.Logic.{SProp, ent, emp, id⊢}
use base.Fml.{ftrue, fsep}
use prog.Wp.{WpFn}
use types.Kit.{‵, raw, ◌⊛◌, ◌$◌, ◌∵◌, !, qed, by, keep, drop, split, fsplit, fjoin, suffices, use0, use1}
use types.Run.{stop, fld, of_opd, true_lit, no_more, and_then, returns, enter}
use types.ByLocal.{alloc_all, pass_all, free_all, look_at, get, get_in, sets}
use types.Part.{agg, sub, whole}
use contract.Monad.{fact, fact_i}
use contract.Running.{tables}
use denote.Exit.{yes}
use denote.RattleType.{RattleType}
use denote.Signature.{plain}
use denote.RawPtr.{block_ptr}
use denote.Steps.{nothing}
use denote.Triple.Walked.{Stays, stay_dropped, walk_of}
use Rattle.core.proofs.alloc.Calls.{Goes-blank}
use Rattle.std.proofs.raw_atomic.Walks.{proved_at, leaves}
use Rattle.std.specs.Prelude.{Some}
use Rattle.std.specs.contracts.alloc.Global as heap
use Rattle.std.proofs.alloc.Global.TheLaws as heap_laws
use Rattle.std.specs.contracts.impls.GlobalAllocator.TheImpl.{ghosts}
use Rattle.loose_box.proofs.Values.{both, Loose, loose_good, loose_out}
use Rattle.junction_calls.proofs.Kept.{handle_in}
use Rattle.junction_calls.specs.Owned.{owned}
use Rattle.junction_calls.specs.contracts.handle.Junction as handle
use Rattle.controller.specs.contracts.controller.Controller as kept
use Rattle.junction_calls.specs.contracts.handle.seal.{ended, clauses}
use Rattle.junction_calls.specs.contracts.handle.seal.Key.{name as #self}
use Rattle.junction_calls.proofs.handle.seal.Statement.{statement}
use Rattle.junction_calls.proofs.handle.seal.Code as code

pub seal_spec : {M : Type 1} → statement M
seal_spec 𝓤 𝓛 𝓜 𝓡 wired =
    let H = 𝓛.H in let 𝓣 = tables 𝓤 H 𝓜 𝓡 𝓡.env in let R : RattleType = kept.the_row in let Z : RattleType = heap.the_row in let LZ = heap_laws.the_row_laws in let Ls : RattleType = Loose R Z LZ ghosts in let c = clauses 𝓛 𝓜.mem 𝓡.returns in
    let hs : Stays ended.signature.params ended.kept = (stay_dropped (plain (λ _. Ls)) yes, tt) in
    proved_at 𝓛 ended hs c 𝓜 𝓡 (Goes-blank 𝓛 0 (plain (λ _. Ls)) yes (λ κs x f. tt), tt) #self code.function (code.unfolded 𝓤 H 𝓜 𝓡 wired) (λ z are.
    let v = z.0.3.0 in let us = z.0.4.0 in let Post : Val → SProp 𝓤 = (walk_of 𝓛 ended hs c).post z in let Run : List Val → SProp 𝓤 = λ ws. WpFn 𝓤 H 𝓣.C 𝓣.Λ code.function ws Post in
    qed 𝓛 ((‵ ftrue ⊛ ‵ (fsep (Ls.own_val v us) ftrue)) ∷ raw ((c tt z.0.3).requires z.1) ∷ []) ∵ split ! $ drop ! $ fsplit ! $
    loose_out R Z LZ ghosts ! v us (λ b o h e ws fits.
    let w : Val = both (vptr b o) h in let d : handle.the_row.Denot = record { at = block_ptr b o; held = true; value = Some v.value; filled = refl } in let out : Val = both (vptr b o) (vbool true) in
    suffices ! (Run (w ∷ [])) (subst (λ (xs : List Val). ent 𝓤 (Run (w ∷ [])) (Run xs)) (sym (λ i. ws i ++ [])) (id⊢ 𝓤 (Run (w ∷ [])))) $
    enter ! 𝓣.C 𝓣.Λ code.function (w ∷ []) Post $ alloc_all ! (λ l. pass_all ! refl (loose_good R Z LZ ghosts b o h fits, tt) $
    sets ! (of_opd ! (get_in ! (fld ! refl (stop !)) (sub ! 0 refl (whole !)))) refl (tt, tt) $ sets ! (of_opd ! (get ! refl)) refl (tt, tt) $
    sets ! (agg ! (and_then ! (get ! refl) (and_then ! (true_lit !) (no_more !)))) refl (tt, (tt, (tt, tt))) $
    use1 𝓛 (‵ (owned d.at d.value)) (id⊢ 𝓤 _) $ handle_in ! d $
    use0 𝓛 (raw (fact 𝓤 (d.value ≡ Some v.value))) (fact_i 𝓤 (d.value ≡ Some v.value) (emp 𝓤) refl) $ nothing ! $ nothing ! $ fjoin ! $ nothing ! $
    returns ! (look_at ! 0 refl) $ free_all ! refl $ keep ! (0 ∷ 1 ∷ 3 ∷ 2 ∷ []) $ by ! (leaves 𝓛 ended hs c z out d (tt, tt) (tt, tt)))))
