-- `look` makes the same handle again, beside its flag.
use Rattle.std.proofs.Common.{◌≡◌, List, [], ◌∷◌, ◌++◌, true, refl, sym, subst}
use mir.Syntax.{ty_ptr}
use mathlib.Core.Bool.{◌&&◌}
use mir.Val.{Val, vbool, has_ty}
use base.Logic.{SProp, ent, emp, id⊢}
use base.Fml.{ftrue, fsep}
use prog.Wp.{WpFn}
use types.Kit.{‵, raw, ◌⊛◌, ◌$◌, ◌∵◌, !, qed, by, keep, drop, split, fsplit, fjoin, suffices, use0}
use types.Run.{stop, fld, of_opd, no_more, and_then, returns, enter}
use types.ByLocal.{alloc_all, pass_all, free_all, look_at, get, get_in, sets}
use types.Part.{agg, sub, whole}
use contract.Monad.{fact, fact_i}
use contract.Running.{tables}
use denote.Exit.{yes}
use denote.RattleType.{RattleType}
use denote.Signature.{plain}
use denote.RawPtr.{ptr_val}
use denote.Steps.{nothing}
use denote.Triple.Walked.{Stays, stay_dropped, walk_of}
use Rattle.core.proofs.alloc.Calls.{Goes-blank}
use Rattle.std.proofs.raw_atomic.Walks.{proved_at, leaves}
use Rattle.loose_box.proofs.Values.{both, pair_in}
use Rattle.junction_calls.proofs.Kept.{handle_in, handle_out}
use Rattle.junction_calls.specs.contracts.handle.Junction as handle
use types.Kit.{feq_i}
use denote.Builtin.{bool}
use Rattle.core.proofs.atomic.Steps.{Ptr-Good}
use Rattle.loose_box.proofs.Values.{both_tt}
use Rattle.junction_calls.specs.contracts.handle.look.{ended, clauses}
use Rattle.junction_calls.specs.contracts.handle.look.Key.{name as #self}
use Rattle.junction_calls.proofs.handle.look.Statement.{statement}
use Rattle.junction_calls.proofs.handle.look.Code as code

pub look_spec : {M : Type 1} → statement M
look_spec 𝓤 𝓛 𝓜 𝓡 wired =
    let H = 𝓛.H in let 𝓣 = tables 𝓤 H 𝓜 𝓡 𝓡.env in let Hd : RattleType = handle.the_row in let c = clauses 𝓛 𝓜.mem 𝓡.returns in
    let hs : Stays ended.signature.params ended.kept = (stay_dropped (plain (λ _. Hd)) yes, tt) in
    proved_at 𝓛 ended hs c 𝓜 𝓡 (Goes-blank 𝓛 0 (plain (λ _. Hd)) yes (λ κs x f. tt), tt) #self code.function (code.unfolded 𝓤 H 𝓜 𝓡 wired) (λ z are.
    let v = z.0.3.0 in let us = z.0.4.0 in let Post : Val → SProp 𝓤 = (walk_of 𝓛 ended hs c).post z in let Run : List Val → SProp 𝓤 = λ ws. WpFn 𝓤 H 𝓣.C 𝓣.Λ code.function ws Post in
    let p : Val = ptr_val v.at in let t : Val = vbool v.held in let w : Val = both p t in let good = Ptr-Good v.at in let Said : Type 0 = (v.held ≡ v.held) × (v ≡ v) in
    qed 𝓛 ((‵ ftrue ⊛ ‵ (fsep (Hd.own_val v us) ftrue)) ∷ raw ((c tt z.0.3).requires z.1) ∷ []) ∵ split ! $ drop ! $ fsplit ! $ handle_out ! v us (λ is.
    suffices ! (Run (w ∷ [])) (subst (λ (xs : List Val). ent 𝓤 (Run (w ∷ [])) (Run xs)) (sym (λ i. is i ++ [])) (id⊢ 𝓤 (Run (w ∷ [])))) $
    enter ! 𝓣.C 𝓣.Λ code.function (w ∷ []) Post $ alloc_all ! (λ l. pass_all ! refl ((both_tt (has_ty ty_ptr p) true good.0 tt, (good.1, (tt, tt))), tt) $
    sets ! (of_opd ! (get_in ! (fld ! refl (stop !)) (sub ! 0 refl (whole !)))) refl good $ sets ! (of_opd ! (get_in ! (fld ! refl (stop !)) (sub ! 1 refl (whole !)))) refl (tt, tt) $
    sets ! (agg ! (and_then ! (get ! refl) (and_then ! (get ! refl) (no_more !)))) refl (both_tt (has_ty ty_ptr p) true good.0 tt, (good.1, (tt, tt))) $
    sets ! (agg ! (and_then ! (get ! refl) (and_then ! (get ! refl) (no_more !)))) refl (both_tt true (has_ty ty_ptr p && (true && true)) tt (both_tt (has_ty ty_ptr p) true good.0 tt), (tt, ((good.1, (tt, tt)), tt))) $
    handle_in ! v $ feq_i ! (List Val) (t ∷ []) (t ∷ []) refl $ pair_in bool Hd ! v.held v t w $
    use0 𝓛 (raw (fact 𝓤 Said)) (fact_i 𝓤 Said (emp 𝓤) (refl, refl)) $ nothing ! $ nothing ! $ fjoin ! $ nothing ! $
    returns ! (look_at ! 0 refl) $ free_all ! refl $ keep ! (0 ∷ 1 ∷ 3 ∷ 2 ∷ []) $ by ! (leaves 𝓛 ended hs c z (both t w) (v.held, v) (tt, tt) (tt, tt)))))
