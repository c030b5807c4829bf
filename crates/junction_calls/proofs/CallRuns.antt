-- Calls make runs: induction on the calls.
use Rattle.std.proofs.Common.{◌≡◌, ◌==◌, ◌⊎◌, List, [], ◌∷◌, Option, Some, None, true, false, cond, refl, sym, ap, subst, inl, inr}
use Rattle.sig_types.specs.Pass.{Logic}
use Rattle.controller.specs.Controls.{StandsFor, logic_of, site_of}
use Rattle.controller.specs.Past.{Site, Past}
use Rattle.controller.specs.Second.{past_of, past_after_second, run_from}
use Rattle.controller.specs.declared.controller.Controller.{Controller}
use Rattle.junction_calls.specs.Seconds.{IsSecond, IsSecondMade}
use Rattle.junction_calls.specs.Calls.{Call, AreCalls, made, Tell, MakesRun}

-- what is left to show of the later calls, from any controller on
abbrev Later : List Call → Option Controller → Type 0
Later calls now = (d : Controller) (past : Past) → StandsFor d past → AreCalls (Some d) calls now → MakesRun d past calls now

some_is : (c d : Controller) → Some c ≡ Some d → c ≡ d
some_is c d e = cc

none_is : {A : Type 0} (c : Controller) → Some c ≡ None → A
none_is c e = absurd cc

-- a second was made
one_made : (c d : Controller) (past : Past) (call : Call) (calls : List Call) (now : Option Controller) → call.answer ≡ 0 →
    IsSecond call.counts c past true d call.before call.told → AreCalls (Some d) calls now →
    ((p : Past) → StandsFor d p → MakesRun d p calls now) → MakesRun c past (call ∷ calls) now
one_made c d past call calls now zero s are later =
    let next : Past = past_after_second (logic_of c) (site_of c) past s.frame in
    let r : MakesRun d next calls now = later next (s.stands refl) in
    let test : (call.answer == 0) ≡ true = ap (λ n. n == 0) zero in
    record {
      last = r.last;
      held = r.held;
      frames = s.frame ∷ r.frames;
      stands = subst (λ (l : Logic). StandsFor r.last (past_of l (site_of c) next r.frames)) s.logic
          (subst (λ (t : Site). StandsFor r.last (past_of (logic_of d) t next r.frames)) s.site r.stands);
      tell = subst (λ b. Tell (cond b (call ∷ made calls) (made calls)) (s.frame ∷ r.frames) (run_from (logic_of c) (site_of c) past (s.frame ∷ r.frames))) (sym test) (
        s.counted,
        s.tells refl,
        subst (λ (l : Logic). Tell (made calls) r.frames (run_from l (site_of c) next r.frames)) s.logic
            (subst (λ (t : Site). Tell (made calls) r.frames (run_from (logic_of d) t next r.frames)) s.site r.tell),
      );
    }

-- no second was made
none_made : (c d : Controller) (past : Past) (call : Call) (calls : List Call) (now : Option Controller) → call.answer ≡ 3 →
    StandsFor c past → IsSecond call.counts c past false d call.before call.told →
    (StandsFor d past → MakesRun d past calls now) → MakesRun c past (call ∷ calls) now
none_made c d past call calls now three stands s later =
    let same : c ≡ d = sym (s.still refl).0 in
    let r : MakesRun c past calls now = subst (λ x. MakesRun x past calls now) (sym same) (later (subst (λ x. StandsFor x past) same stands)) in
    let test : (call.answer == 0) ≡ false = ap (λ n. n == 0) three in
    record {
      last = r.last;
      held = r.held;
      frames = r.frames;
      stands = r.stands;
      tell = subst (λ b. Tell (cond b (call ∷ made calls) (made calls)) r.frames (run_from (logic_of c) (site_of c) past r.frames)) (sym test) r.tell;
    }

-- one call, of a controller that is held
from_held : (c d : Controller) (next : Option Controller) (past : Past) (call : Call) (calls : List Call) (now : Option Controller) → StandsFor c past →
    next ≡ Some d →
    (((call.answer ≡ 0) × ((p : Past) → StandsFor c p → IsSecond call.counts c p true d call.before call.told))
    ⊎ ((call.answer ≡ 3) × ((p : Past) → StandsFor c p → IsSecond call.counts c p false d call.before call.told))) →
    AreCalls next calls now → Later calls now → MakesRun c past (call ∷ calls) now
from_held c d next past call calls now stands is (inl t) are later =
    let on : AreCalls (Some d) calls now = subst (λ o. AreCalls o calls now) is are in
    one_made c d past call calls now t.0 (t.1 past stands) on (λ p s. later d p s on)
from_held c d next past call calls now stands is (inr t) are later =
    let on : AreCalls (Some d) calls now = subst (λ o. AreCalls o calls now) is are in
    none_made c d past call calls now t.0 stands (t.1 past stands) (λ s. later d past s on)

one_call : (c : Controller) (next : Option Controller) (past : Past) (call : Call) (calls : List Call) (now : Option Controller) → StandsFor c past →
    IsSecondMade call.answer call.counts (Some c) next call.before call.told →
    AreCalls next calls now → Later calls now → MakesRun c past (call ∷ calls) now
one_call c next past call calls now stands (inl t) are later = none_is c t.1
one_call c next past call calls now stands (inr t) are later =
    let same : c ≡ t.0 = some_is c t.0 t.2 in
    subst (λ x. MakesRun x past (call ∷ calls) now) (sym same)
    (from_held t.0 t.1 next past call calls now (subst (λ x. StandsFor x past) same stands) t.3 t.4 are later)

pub calls_make_runs : (calls : List Call) (c : Controller) (past : Past) (now : Option Controller) → StandsFor c past → AreCalls (Some c) calls now →
    MakesRun c past calls now
calls_make_runs [] c past now stands are = record { last = c; held = are; frames = []; stands = stands; tell = tt }
calls_make_runs (call ∷ calls) c past now stands are =
    one_call c are.0 past call calls now stands are.1 are.2 (λ d p s a. calls_make_runs calls d p now s a)
