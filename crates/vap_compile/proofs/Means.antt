-- A valid code of these instructions means what the program means.
use Rattle.std.proofs.Common.{◌≡◌, ℕ, zero, suc, ◌+◌, ◌<◌, ◌≤◌, List, [], ◌∷◌, ◌++◌, length, Some, refl, sym, ap, ◌∙◌, subst, arith, ⊎_elim, length-append, get_or}
use Rattle.std.specs.Prelude.{slice_get}
use Rattle.std.proofs.lemmas.Bool.{cases_lt}
use Rattle.std.proofs.lemmas.List.{get_or_append_left}
use Rattle.sig_types.specs.Pass.{Store as StoreOf, World, unit_limit}
use Rattle.vap_ast.specs.declared.name.Entry.{Entry}
use Rattle.vap_ast.specs.Names.{Source}
use Rattle.vap_ast.specs.Mean.{Outcome, Done, Faulted, mean}
use Rattle.vap_code.specs.declared.Instr.{Instr}
use Rattle.vap_code.specs.declared.Instr.TheVariants.{Ret}
use Rattle.vap_code.specs.Codes.{CodeOf}
use Rattle.vap_code.specs.Machine.{End, Stuck, Unfinished, State, Step, Goes, Ends, step, after, exec, last_start, first_state, machine, step_limit}
use Rattle.vap_code.specs.Machine as code
use Rattle.vap_code.specs.Valid.{Valid}
use Rattle.code_verify.specs.Ends.{IsOver, ValidCodeEnds}
use Rattle.vap_ast.specs.Sizes.{items_size}
use Rattle.vap_ast.specs.Sound.{Sound_items}
use Rattle.vap_compile.specs.Layout.{routine_code, routines_code, routine_starts, label_place}
use Rattle.vap_ast.specs.Passes.{ending, program_logic}
use Rattle.vap_compile.specs.Compiled.{IsCodeOf}
use Rattle.vap_code.specs.Stores.{StoreFits}
use Rattle.vap_compile.proofs.Runs.{HasAt, has_front, has_back, has_all, state, Comes_to_end, Free, comes_end, one_end}
use Rattle.vap_compile.proofs.Follows.{Laid, Follows, simulates}
use Rattle.vap_compile.proofs.Laid.{routine_at}
use Rattle.vap_ast.specs.Sound.{IsSound}
use Rattle.vap_ast.specs.Syntax.{Items}
use Rattle.vap_compile.proofs.Lengths.{routine_length}

-- ---- more steps change nothing of a run that is over

module _ (instrs : List Instr) (starts : List ℕ) (world : World) where
  longer : (m n : ℕ) → m ≤ n → (s : State) (o : End) → (o ≡ Unfinished → ⊥)
      → exec instrs starts world m s ≡ o → exec instrs starts world n s ≡ o
  longer zero n le s o over e = absurd (over (sym e))
  longer (suc m) zero le s o over e = absurd (omega arith)
  longer (suc m) (suc n) le s o over e =
      go (step instrs starts world s) (λ t. longer m n (omega arith) t o over) e
    where
      go : (t : Step)
          → ((s' : State) → exec instrs starts world m s' ≡ o → exec instrs starts world n s' ≡ o)
          → after t (exec instrs starts world m) ≡ o → after t (exec instrs starts world n) ≡ o
      go (Goes s') more e = more s' e
      go (Ends how) more e = e

  over_differs : (o : End) → IsOver o → o ≡ Unfinished → ⊥
  over_differs o over e = subst IsOver e over

  stuck_differs : (o : End) → o ≡ Stuck → o ≡ Unfinished → ⊥
  stuck_differs o e e' = stuck_unfinished (sym e ∙ e')
    where
      stuck_unfinished : Stuck ≡ Unfinished → ⊥
      stuck_unfinished x = cc

  -- two ends of one run are one
  one_ending : (m n : ℕ) (s : State) (o p : End) → (o ≡ Unfinished → ⊥) → (p ≡ Unfinished → ⊥)
      → exec instrs starts world m s ≡ o → exec instrs starts world n s ≡ p → o ≡ p
  one_ending m n s o p over_o over_p e f =
      ⊎_elim (λ lt. sym (longer m n (omega arith) s o over_o e) ∙ f)
      (λ le. sym e ∙ longer n m le s p over_p f) (cases_lt m n)

  free_of_ending : (n : ℕ) (s : State) → IsOver (exec instrs starts world n s) → Free instrs starts world s
  free_of_ending n s over =
      record {
        never = λ j e. subst IsOver
            (one_ending n j s (exec instrs starts world n s) (exec instrs starts world j s)
            (over_differs _ over) (stuck_differs _ e) refl refl ∙ e) over;
      }

-- ---- where the routines are

module _ (names : List Entry) (instrs : List Instr) where
  pub tail_at : (p : ℕ) (body : Items) (bodies : List Items)
      → HasAt instrs p (routines_code names p (body ∷ bodies))
      → HasAt instrs (p + items_size body + 1) (routines_code names (p + items_size body + 1) bodies)
  tail_at p body bodies h =
      let e : p + length (routine_code names p body) ≡ p + items_size body + 1 =
      omega (arith, routine_length names p body) in
      subst (λ q. HasAt instrs q (routines_code names (p + items_size body + 1) bodies)) e
      (has_back instrs p (routine_code names p body) _ h)

  routine_there : (bodies : List Items) (p k : ℕ) → HasAt instrs p (routines_code names p bodies)
      → k < length bodies
      → (q : ℕ) × (slice_get (routine_starts p bodies) k ≡ Some q) × HasAt instrs q
      (routine_code names q (get_or bodies k Items.none))
  routine_there [] p k h lt = absurd (omega arith)
  routine_there (body ∷ bodies) p zero h lt = (p, refl, has_front instrs p (routine_code names p body) _ h)
  routine_there (body ∷ bodies) p (suc k) h lt =
      routine_there bodies (p + items_size body + 1) k (tail_at p body bodies h) (omega arith)

  main_there : (subs : List Items) (main : Items) (p : ℕ) → HasAt instrs p
      (routines_code names p (subs ++ main ∷ [])) → let q =
      last_start (routine_starts p (subs ++ main ∷ [])) in HasAt instrs q (routine_code names q main)
  main_there [] main p h = has_front instrs p (routine_code names p main) _ h
  main_there (b ∷ []) main p h = main_there [] main (p + items_size b + 1) (tail_at p b (main ∷ []) h)
  main_there (b ∷ c ∷ subs) main p h =
      main_there (c ∷ subs) main (p + items_size b + 1) (tail_at p b (c ∷ subs ++ main ∷ []) h)

-- ---- the theorem

sound_at : (names : List Entry) (subs : ℕ) (bodies : List Items)
    → ((k : ℕ) → k < length bodies → Sound_items names subs (get_or bodies k Items.none)) → (k : ℕ)
    → k < length bodies → Sound_items names subs (get_or bodies k Items.none)
sound_at names subs bodies h k lt = h k lt

module _ (source : Source) (sound : IsSound source) (world : World) where
  abbrev pub code_of : List Instr
  code_of = routines_code source.names 0 (source.subs ++ source.main ∷ [])

  abbrev pub starts_of : List ℕ
  starts_of = routine_starts 0 (source.subs ++ source.main ∷ [])

  laid : Laid code_of starts_of world source
  laid k lt =
      let n = length-append source.subs (source.main ∷ []) in
      let r =
      routine_there source.names (routines_code source.names 0 (source.subs ++ source.main ∷ []))
      (source.subs ++ source.main ∷ []) 0 k
      (has_all (routines_code source.names 0 (source.subs ++ source.main ∷ [])) [])
      (omega (arith, n)) in
      let q = r.0 in
      let body = get_or source.subs k Items.none in
      let e = get_or_append_left source.subs (source.main ∷ []) Items.none k lt in
      let h =
      subst (λ b. HasAt (routines_code source.names 0 (source.subs ++ source.main ∷ [])) q
      (routine_code source.names q b)) e r.2 in
      (label_place q body, q, r.1, routine_at source.names _ (length source.subs) q body (sound.subs k lt) h)

  how_it_ends : (noted_none : Unit {0}) (s : State) (o : Outcome) (units : ℕ)
      → Follows code_of starts_of world source [] units s o
      → Comes_to_end code_of starts_of world s (ending o)
  how_it_ends x s (Done store left) units f =
      comes_end code_of starts_of world _ _ _ f.comes
      (one_end code_of starts_of world (state f.place [] [] f.line left store) Ret (code.Done store)
      f.ret refl)
  how_it_ends x s (Faulted kind line) units f = f

  pub ends_so : (s : StoreOf) (units : ℕ) → Free code_of starts_of world (first_state starts_of units s)
      → Comes_to_end code_of starts_of world (first_state starts_of units s)
      (ending (mean source world source.main source.main s units))
  ends_so s units free =
      let bodies = source.subs ++ source.main ∷ [] in
      let instrs = routines_code source.names 0 bodies in
      let q = last_start (routine_starts 0 bodies) in
      let r =
      routine_at source.names instrs (length source.subs) q source.main sound.main
      (main_there source.names instrs source.subs source.main 0 (has_all instrs [])) in
      how_it_ends tt _ _ units (simulates instrs (routine_starts 0 bodies) world source laid units
      (label_place q source.main) source.main r.each source.main q [] 0 units s r.entry
      (omega arith) free)

ending_over : (o : Outcome) → ending o ≡ Unfinished → ⊥
ending_over (Done s left) e = cc
ending_over (Faulted kind line) e = cc

-- a code of a program means what the program means, where each pass of valid code comes to an end
pub means_the : (source : Source) (c : CodeOf) → IsSound source → IsCodeOf source c → Valid c → ValidCodeEnds
    → (world : World) (s : StoreOf) → StoreFits c s → machine c world s ≡ program_logic source world s
means_the source c sound is valid law world s fits =
    let over = (law c world s valid fits).0 in
    let bodies = source.subs ++ source.main ∷ [] in
    let instrs = routines_code source.names 0 bodies in
    let starts = routine_starts 0 bodies in
    let first = first_state starts unit_limit s in
    let e : machine c world s ≡ exec instrs starts world step_limit first =
    ap (λ l. exec l c.starts world step_limit (first_state c.starts unit_limit s)) is.instrs
    ∙ ap (λ l. exec instrs l world step_limit (first_state l unit_limit s)) is.starts in
    let over' = subst IsOver e over in
    let free = free_of_ending instrs starts world step_limit first over' in
    let end = ends_so source sound world s unit_limit free in
    e
    ∙ one_ending instrs starts world step_limit end.by.0 first _ _
    (over_differs instrs starts world _ over') (ending_over _) refl end.by.1
