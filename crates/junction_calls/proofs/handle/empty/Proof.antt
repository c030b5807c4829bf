-- `empty` owns nothing.
use Rattle.std.proofs.Common.{◌≡◌, [], ◌∷◌, refl, lit<}
use mir.Val.{Val, vbool}
use base.Logic.{SProp, emp, id⊢}
use base.Fml.{ftrue}
use types.Kit.{‵, raw, ◌⊛◌, ◌$◌, ◌∵◌, !, qed, by, keep, drop, split, use0, use1}
use types.Run.{lit, false_lit, no_more, and_then, returns, enter}
use types.ByLocal.{alloc_all, pass_all, free_all, look_at, sets}
use types.Part.{agg}
use contract.Monad.{fact, fact_i}
use contract.Running.{tables}
use denote.RawPtr.{null_ptr, ptr_val}
use denote.Steps.{nothing}
use denote.Triple.Walked.{Stays, walk_of}
use Rattle.std.proofs.raw_atomic.Walks.{proved_at, leaves}
use Rattle.std.specs.Prelude.{None}
use Rattle.loose_box.proofs.Values.{both}
use Rattle.junction_calls.proofs.Kept.{handle_in}
use Rattle.junction_calls.specs.Owned.{owned}
use Rattle.junction_calls.specs.contracts.handle.Junction as handle
use Rattle.junction_calls.specs.contracts.handle.empty.{ended, clauses}
use Rattle.junction_calls.specs.contracts.handle.empty.Key.{name as #self}
use Rattle.junction_calls.proofs.handle.empty.Statement.{statement}
use Rattle.junction_calls.proofs.handle.empty.Code as code

pub empty_spec : {M : Type 1} → statement M
empty_spec 𝓤 𝓛 𝓜 𝓡 wired =
    let H = 𝓛.H in let 𝓣 = tables 𝓤 H 𝓜 𝓡 𝓡.env in let c = clauses 𝓛 𝓜.mem 𝓡.returns in let hs : Stays ended.signature.params ended.kept = tt in
    proved_at 𝓛 ended hs c 𝓜 𝓡 tt #self code.function (code.unfolded 𝓤 H 𝓜 𝓡 wired) (λ z are.
    let Post : Val → SProp 𝓤 = (walk_of 𝓛 ended hs c).post z in
    let d : handle.the_row.Denot = record { at = null_ptr; held = mathlib.Core.Bool.false; value = None; filled = refl } in let out : Val = both (ptr_val null_ptr) (vbool mathlib.Core.Bool.false) in
    qed 𝓛 ((‵ ftrue ⊛ ‵ ftrue) ∷ raw ((c tt z.0.3).requires z.1) ∷ []) ∵ split ! $ drop ! $
    enter ! 𝓣.C 𝓣.Λ code.function [] Post $ alloc_all ! (λ l. pass_all ! refl tt $
    sets ! (agg ! (and_then ! (lit ! tt) (and_then ! (false_lit !) (no_more !)))) refl (tt, (record { fits = lit< tt }, (tt, tt))) $
    use1 𝓛 (‵ (owned d.at d.value)) (id⊢ 𝓤 _) $ handle_in ! d $
    use0 𝓛 (raw (fact 𝓤 (d.value ≡ None))) (fact_i 𝓤 (d.value ≡ None) (emp 𝓤) refl) $ nothing ! $ nothing ! $
    returns ! (look_at ! 0 refl) $ free_all ! refl $ keep ! (0 ∷ 1 ∷ 3 ∷ 2 ∷ []) $ by ! (leaves 𝓛 ended hs c z out d tt tt)))
