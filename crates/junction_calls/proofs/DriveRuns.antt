-- Calls of the program and of a caller make decided seconds: induction on the calls.
use Rattle.std.proofs.Common.{◌≡◌, ◌==◌, ◌⊎◌, ℕ, List, [], ◌∷◌, Option, Some, None, true, false, cond, refl, sym, ap, ◌∙◌, subst, inl, inr}
use Rattle.sig_types.specs.Pass.{Logic}
use Rattle.controller.specs.Controls.{StandsFor, logic_of, plan_of, site_of}
use Rattle.controller.specs.Given.{Decided, Program, Caller, decided_past, decided_record, past_after_decided}
use Rattle.vap_code.specs.Machine.{machine}
use Rattle.vap_code.specs.Stores.{first_store}
use Rattle.controller.proofs.Given.{driven_runs_are_guarded}
use Rattle.controller.specs.Past.{Site, Past, opening}
use Rattle.controller.specs.declared.controller.Controller.{Controller}
use Rattle.junction_run.specs.Sites.{site_in}
use Rattle.junction_calls.specs.declared.commands.GivenCommands.{GivenCommands}
use Rattle.junction_calls.specs.Given.{IsGivenSecond, given_in}
use Rattle.junction_calls.specs.Loads.{IsLoadedFrom}
use Rattle.junction_calls.specs.Numbers.{IsFrame, IsTold}
use Rattle.junction_calls.specs.Seconds.{IsSecond}
use Rattle.junction_calls.specs.Drives.{DrivenCall, IsMadeBy, AreDriven, driven, decider, TellDriven, MakesDrive, LoadedDrivesAreGuarded}

some_is : (c d : Controller) → Some c ≡ Some d → c ≡ d
some_is c d e = cc

none_is : {A : Type 0} (c : Controller) → Some c ≡ None → A
none_is c e = absurd cc

-- What one call makes of a controller for a past: a decided second, which it tells, or nothing.
data Made (c d : Controller) (past : Past) (call : DrivenCall) : Type 0 where
  second : call.answer ≡ 0 → (s : Decided) → IsFrame call.counts s.frame → s.by ≡ decider (site_of c).plan past call.given →
      StandsFor d (past_after_decided (logic_of c) (site_of c) past s) → IsTold (decided_record (logic_of c) (site_of c) past s) call.told →
      site_of d ≡ site_of c → logic_of d ≡ logic_of c → Made c d past call
  nothing : (call.answer == 0) ≡ false → d ≡ c → Made c d past call

-- what is left to show of the later calls, from any controller on
abbrev Later : List DrivenCall → Option Controller → Type 0
Later calls now = (d : Controller) (past : Past) → StandsFor d past → AreDriven (Some d) calls now → MakesDrive d past calls now

goes_on : (c d : Controller) (past : Past) (call : DrivenCall) (calls : List DrivenCall) (now : Option Controller) → StandsFor c past → Made c d past call →
    AreDriven (Some d) calls now → Later calls now → MakesDrive c past (call ∷ calls) now
goes_on c d past call calls now stands (second zero s counted by after told site logic) are later =
    let next : Past = past_after_decided (logic_of c) (site_of c) past s in
    let r : MakesDrive d next calls now = later d next after are in
    let test : (call.answer == 0) ≡ true = ap (λ n. n == 0) zero in
    record {
      last = r.last;
      held = r.held;
      seconds = s ∷ r.seconds;
      stands = subst (λ (l : Logic). StandsFor r.last (decided_past l (site_of c) next r.seconds)) logic
          (subst (λ (t : Site). StandsFor r.last (decided_past (logic_of d) t next r.seconds)) site r.stands);
      tell = subst (λ b. TellDriven (logic_of c) (site_of c) past (cond b (call ∷ driven calls) (driven calls)) (s ∷ r.seconds)) (sym test) (
        counted,
        by,
        told,
        subst (λ (l : Logic). TellDriven l (site_of c) next (driven calls) r.seconds) logic
            (subst (λ (t : Site). TellDriven (logic_of d) t next (driven calls) r.seconds) site r.tell),
      );
    }
goes_on c d past call calls now stands (nothing not_made same) are later =
    let r : MakesDrive c past calls now = subst (λ x. MakesDrive x past calls now) same (later d past (subst (λ x. StandsFor x past) (sym same) stands) are) in
    record {
      last = r.last;
      held = r.held;
      seconds = r.seconds;
      stands = r.stands;
      tell = subst (λ b. TellDriven (logic_of c) (site_of c) past (cond b (call ∷ driven calls) (driven calls)) r.seconds) (sym not_made) r.tell;
    }

-- a second by the program
by_program : (c d : Controller) (past : Past) (call : DrivenCall) → StandsFor c past → call.given ≡ None →
    (((call.answer ≡ 0) × ((p : Past) → StandsFor c p → IsSecond call.counts c p true d call.before call.told))
    ⊎ ((call.answer ≡ 3) × ((p : Past) → StandsFor c p → IsSecond call.counts c p false d call.before call.told))) → Made c d past call
by_program c d past call stands none (inl t) =
    let s = t.1 past stands in
    second t.0 (record { frame = s.frame; by = Program }) s.counted (ap (decider (site_of c).plan past) (sym none)) (s.stands refl) (s.tells refl) s.site s.logic
by_program c d past call stands none (inr t) = nothing (ap (λ n. n == 0) t.0) (((t.1 past stands).still refl).0)

-- a second by the caller
by_caller : (c d : Controller) (past : Past) (call : DrivenCall) (given : GivenCommands) → StandsFor c past → call.given ≡ Some given →
    IsGivenSecond call.counts given c past call.answer d call.before call.told → Made c d past call
unfolding site_of plan_of
by_caller c d past call given stands some s = by s.answers
  where
    by : (call.answer ≡ 0) ⊎ ((call.answer ≡ 3) ⊎ (call.answer ≡ 9)) → Made c d past call
    by (inl zero) = second zero (record { frame = s.frame; by = Caller (given_in (plan_of c) past given) }) s.counted
        (ap (decider (site_of c).plan past) (sym some)) (s.stands zero) (s.tells zero) s.site s.logic
    by (inr (inl three)) = nothing (ap (λ n. n == 0) three) (s.still (λ zero. (let bad : 3 ≡ 0 = sym three ∙ zero in cc))).0
    by (inr (inr nine)) = nothing (ap (λ n. n == 0) nine) (s.still (λ zero. (let bad : 9 ≡ 0 = sym nine ∙ zero in cc))).0

-- one call, of a controller that is held
one_call : (c : Controller) (next : Option Controller) (past : Past) (call : DrivenCall) (calls : List DrivenCall) (now : Option Controller) (o : Option GivenCommands) →
    StandsFor c past → call.given ≡ o → IsMadeBy o call.answer call.counts (Some c) next call.before call.told →
    AreDriven next calls now → Later calls now → MakesDrive c past (call ∷ calls) now
one_call c next past call calls now None stands is (inl t) are later = none_is c t.1
one_call c next past call calls now None stands is (inr t) are later =
    let same : t.0 ≡ c = sym (some_is c t.0 t.2) in
    let on : AreDriven (Some t.1) calls now = subst (λ o. AreDriven o calls now) t.3 are in
    subst (λ x. MakesDrive x past (call ∷ calls) now) same
    (let stood = subst (λ x. StandsFor x past) (sym same) stands in
    goes_on t.0 t.1 past call calls now stood (by_program t.0 t.1 past call stood is t.4) on later)
one_call c next past call calls now (Some given) stands is (inl t) are later = none_is c t.1
one_call c next past call calls now (Some given) stands is (inr t) are later =
    let same : t.0 ≡ c = sym (some_is c t.0 t.2) in
    let on : AreDriven (Some t.1) calls now = subst (λ o. AreDriven o calls now) t.3 are in
    subst (λ x. MakesDrive x past (call ∷ calls) now) same
    (let stood = subst (λ x. StandsFor x past) (sym same) stands in
    goes_on t.0 t.1 past call calls now stood (by_caller t.0 t.1 past call given stood is (t.4 past stood)) on later)

pub calls_make_drives : (calls : List DrivenCall) (c : Controller) (past : Past) (now : Option Controller) → StandsFor c past → AreDriven (Some c) calls now →
    MakesDrive c past calls now
calls_make_drives [] c past now stands are = record { last = c; held = are; seconds = []; stands = stands; tell = tt }
calls_make_drives (call ∷ calls) c past now stands are =
    one_call c are.0 past call calls now call.given stands refl are.1 are.2 (λ d p s a. calls_make_drives calls d p now s a)

-- what was loaded is guarded, whoever decides its seconds
pub loaded_drives_are_guarded : LoadedDrivesAreGuarded
loaded_drives_are_guarded source texts c calls now m are =
    let l : IsLoadedFrom source m.0 c = m.2 in
    let drive = calls_make_drives calls c (opening (site_of c) (first_store l.loaded.code)) now l.stands are in
    record {
      file = m.0;
      holds = m.1;
      loaded = l.loaded;
      gives = l.gives;
      drive = drive;
      guarded = driven_runs_are_guarded (machine l.loaded.code) (site_in l.loaded) (first_store l.loaded.code) drive.seconds l.two_way l.counted;
    }
