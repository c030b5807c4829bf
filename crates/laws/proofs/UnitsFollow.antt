-- The program with fewer units ends where the machine spends the next one.
use Rattle.std.proofs.Common.{◌≡◌, ℕ, zero, suc, ◌≤◌, ◌<◌, length, get_or, List, [], ◌∷◌, Some, sym, ap, ◌∙◌, subst, arith, ⊎_elim}
use Rattle.std.specs.Prelude.{slice_get}
use Rattle.std.proofs.lemmas.Bool.{cases_lt}
use Rattle.sig_types.specs.declared.kinds.FaultKind.TheVariants.{Budget}
use Rattle.sig_types.specs.Pass.{Store as StoreOf, World, unit_limit}
use Rattle.vap_ast.specs.Mean.{Outcome, Done, Faulted, mean}
use Rattle.vap_ast.specs.Names.{Source}
use Rattle.vap_ast.specs.Passes.{ending}
use Rattle.vap_ast.specs.Sound.{IsSound}
use Rattle.vap_code.specs.declared.Instr.{Instr}
use Rattle.vap_code.specs.Machine.{End, Stuck, Unfinished, State, Step, Goes, Ends, step, after, exec, first_state, step_limit}
use Rattle.vap_code.specs.Machine as code
use Rattle.vap_compile.proofs.Runs.{Free}
use Rattle.vap_compile.proofs.Means.{ends_so, code_of, starts_of}
use Rattle.vap_code.specs.Sights.{machine_sights, sights_of}
use Rattle.laws.specs.UnitsSpent.{spent_in}
use Rattle.laws.proofs.UnitsSpent.{budget_is_spent, fewer_units_suffice, units_are_few, units_tell}
use Rattle.code_verify.specs.Ends.{IsOver}
use Rattle.std.proofs.lemmas.Option.{slice_get-get_or}
use Rattle.laws.specs.SourceLines.{pass_within, SourceTellsLines, LinesAgree}

module _ (instrs : List Instr) (starts : List ℕ) (world : World) where
  -- more steps change nothing of a run that is over
  longer : (m n : ℕ) → m ≤ n → (s : State) (o : End) → (o ≡ Unfinished → ⊥)
      → exec instrs starts world m s ≡ o → exec instrs starts world n s ≡ o
  longer zero n le s o over e = absurd (over (sym e))
  longer (suc m) zero le s o over e = absurd (omega arith)
  longer (suc m) (suc n) le s o over e =
      go (step instrs starts world s) (λ t. longer m n (omega arith) t o over) e
    where
      go : (t : Step)
          → ((s' : State) → exec instrs starts world m s' ≡ o → exec instrs starts world n s' ≡ o)
          → after t (exec instrs starts world m) ≡ o → after t (exec instrs starts world n) ≡ o
      go (Goes s') more e = more s' e
      go (Ends how) more e = e

  -- two ends of one run are one
  one_ending : (m n : ℕ) (s : State) (o p : End) → (o ≡ Unfinished → ⊥) → (p ≡ Unfinished → ⊥)
      → exec instrs starts world m s ≡ o → exec instrs starts world n s ≡ p → o ≡ p
  one_ending m n s o p over_o over_p e f =
      ⊎_elim (λ lt. sym (longer m n (omega arith) s o over_o e) ∙ f)
      (λ le. sym e ∙ longer n m le s p over_p f) (cases_lt m n)

budget_over : (line : ℕ) → code.Faulted Budget line ≡ Unfinished → ⊥
budget_over line e = cc

stuck_over : Stuck ≡ Unfinished → ⊥
stuck_over e = cc

budget_stuck : (line : ℕ) → code.Faulted Budget line ≡ Stuck → ⊥
budget_stuck line e = cc

-- a run that ends for want of units is never stuck
free_of : (instrs : List Instr) (starts : List ℕ) (world : World) (n : ℕ) (s : State) (line : ℕ)
    → exec instrs starts world n s ≡ code.Faulted Budget line → Free instrs starts world s
free_of instrs starts world n s line e =
    record {
      never = λ j f. budget_stuck line
          (one_ending instrs starts world n j s (code.Faulted Budget line) Stuck (budget_over line) stuck_over e f);
    }

ending_over : (o : Outcome) → ending o ≡ Unfinished → ⊥
ending_over (Done s left) e = cc
ending_over (Faulted kind line) e = cc

module _ (source : Source) (sound : IsSound source) (world : World) (s : StoreOf) (k line : ℕ) where
  tells : slice_get (spent_in (sights_of (code_of source sound world) (starts_of source sound world) world step_limit
      (first_state (starts_of source sound world) unit_limit s))) k ≡ Some line
      → pass_within source world s k ≡ code.Faulted Budget line
  tells e =
      let instrs = code_of source sound world in
      let starts = starts_of source sound world in
      let cut : exec instrs starts world step_limit (first_state starts k s) ≡ code.Faulted Budget line
      = units_tell instrs starts world step_limit k (first_state starts unit_limit s) line e in
      let end = ends_so source sound world s k (free_of instrs starts world step_limit (first_state starts k s) line cut) in
      one_ending instrs starts world end.by.0 step_limit (first_state starts k s)
      (ending (mean source world source.main source.main s k)) (code.Faulted Budget line)
      (ending_over (mean source world source.main source.main s k)) (budget_over line) end.by.1 cut

pub source_tells : SourceTellsLines
source_tells source c world s k line sound is e =
    let instrs = code_of source sound world in
    let starts = starts_of source sound world in
    let same : sights_of c.instrs c.starts world step_limit (first_state c.starts unit_limit s)
    ≡ sights_of instrs starts world step_limit (first_state starts unit_limit s)
    = λ i. sights_of (is.instrs i) (is.starts i) world step_limit (first_state (is.starts i) unit_limit s) in
    tells source sound world s k line (ap (λ x. slice_get (spent_in x) k) (sym same) ∙ e)

there_within : (ls : List ℕ) (k line : ℕ) → slice_get ls k ≡ Some line → k < length ls
there_within [] k line e = cc
there_within (l ∷ ls) zero line e = omega arith
there_within (l ∷ ls) (suc k) line e = let lt = there_within ls k line e in omega (arith, lt)

line_is : (l line : ℕ) → code.Faulted Budget l ≡ code.Faulted Budget line → l ≡ line
line_is l line e = cc

over_ends : (o : End) → IsOver o → o ≡ Unfinished → ⊥
over_ends o over e = subst IsOver e over

over_moves : (o : End) → IsOver o → o ≡ Stuck → ⊥
over_moves o over e = subst IsOver e over

module _ (source : Source) (sound : IsSound source) (world : World) (s : StoreOf) (line : ℕ) where
  abbrev instrs_in : List Instr
  instrs_in = code_of source sound world

  abbrev starts_in : List ℕ
  starts_in = starts_of source sound world

  abbrev begin : ℕ → State
  begin units = first_state starts_in units s

  abbrev all : List ℕ
  all = spent_in (sights_of instrs_in starts_in world step_limit (begin unit_limit))

  module _ (over : IsOver (exec instrs_in starts_in world step_limit (begin unit_limit))) (k : ℕ) (low : k < unit_limit)
      (e : pass_within source world s k ≡ code.Faulted Budget line) where
    -- one of the units that are spent
    among : k < length all → (j : ℕ) × (slice_get all j ≡ Some line)
    among lt =
        let at = slice_get-get_or all k 0 lt in
        let told = tells source sound world s k (get_or all k 0) at in
        (k, at ∙ ap Some (line_is (get_or all k 0) line (sym told ∙ e)))

    -- or past all of them, where nothing is missing
    past : length all ≤ k → (j : ℕ) × (slice_get all j ≡ Some line)
    past ge =
        let same : exec instrs_in starts_in world step_limit (begin k) ≡ exec instrs_in starts_in world step_limit (begin unit_limit)
        = fewer_units_suffice instrs_in starts_in world step_limit k (begin unit_limit) ge (omega (arith, low)) in
        let full = exec instrs_in starts_in world step_limit (begin unit_limit) in
        let free : Free instrs_in starts_in world (begin k) =
        record {
          never = λ j f. over_moves full over
              (one_ending instrs_in starts_in world step_limit j (begin k) full Stuck (over_ends full over) stuck_over same f);
        } in
        let end = ends_so source sound world s k free in
        let budget : full ≡ code.Faulted Budget line =
        one_ending instrs_in starts_in world step_limit end.by.0 (begin k) full (code.Faulted Budget line) (over_ends full over)
        (budget_over line) same (end.by.1 ∙ e) in
        let spends = budget_is_spent instrs_in starts_in world step_limit (begin unit_limit) line budget in
        absurd (omega (arith, spends, ge, low))

    found : (j : ℕ) × (slice_get all j ≡ Some line)
    found = ⊎_elim among past (cases_lt k (length all))

pub lines_agree : LinesAgree
lines_agree = record {
  spent = λ source c world s k line sound is e.
      let few = units_are_few c.instrs c.starts world step_limit (first_state c.starts unit_limit s) in
      let lt = there_within (spent_in (machine_sights c world s)) k line e in
      (k, (omega (arith, few, lt)), source_tells source c world s k line sound is e);
  runs = λ source c world s line sound is over ran.
      let instrs = code_of source sound world in
      let starts = starts_of source sound world in
      let same : sights_of c.instrs c.starts world step_limit (first_state c.starts unit_limit s)
      ≡ sights_of instrs starts world step_limit (first_state starts unit_limit s)
      = λ i. sights_of (is.instrs i) (is.starts i) world step_limit (first_state (is.starts i) unit_limit s) in
      let ends : exec c.instrs c.starts world step_limit (first_state c.starts unit_limit s)
      ≡ exec instrs starts world step_limit (first_state starts unit_limit s)
      = λ i. exec (is.instrs i) (is.starts i) world step_limit (first_state (is.starts i) unit_limit s) in
      let there = found source sound world s line (subst IsOver ends over) ran.0 ran.1 ran.2 in
      (there.0, ap (λ x. slice_get (spent_in x) there.0) same ∙ there.1);
}
