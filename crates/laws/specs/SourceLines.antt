-- Where a pass spends its units, by the program's own meaning.
use Rattle.std.specs.Prelude.{◌≡◌, ℕ, ◌<◌, Some, slice_get}
use Rattle.sig_types.specs.declared.kinds.FaultKind.TheVariants.{Budget}
use Rattle.sig_types.specs.Pass.{Store, World, End, Faulted, unit_limit}
use Rattle.vap_ast.specs.Mean.{mean}
use Rattle.vap_ast.specs.Names.{Source}
use Rattle.vap_ast.specs.Passes.{ending}
use Rattle.vap_ast.specs.Sound.{IsSound}
use Rattle.vap_code.specs.Codes.{CodeOf}
use Rattle.vap_code.specs.Machine.{machine}
use Rattle.code_verify.specs.Ends.{IsOver}
use Rattle.vap_compile.specs.Compiled.{IsCodeOf}
use Rattle.vap_code.specs.Sights.{machine_sights}
use Rattle.laws.specs.UnitsSpent.{spent_in}

-- how a pass of a program would end with so many units
abbrev pub pass_within : Source → World → Store → ℕ → End
pass_within source world s units = ending (mean source world source.main source.main s units)

-- a line runs in a pass: with fewer units the pass would end there, for want of the next one
abbrev pub RunsLine : Source → World → Store → ℕ → Type 0
RunsLine source world s line = (units : ℕ) × (units < unit_limit) × (pass_within source world s units ≡ Faulted Budget line)

-- the line at which a pass of the code spends unit k, from 0, is that at which the program would end with k units
abbrev pub SourceTellsLines : Type 0
SourceTellsLines =
    (source : Source) (code : CodeOf) (world : World) (s : Store) (k line : ℕ) → IsSound source → IsCodeOf source code →
    slice_get (spent_in (machine_sights code world s)) k ≡ Some line → pass_within source world s k ≡ Faulted Budget line

-- where a pass of the code comes to its end, a line runs in it, by the program's own meaning, just where the code spends a unit there
pub record LinesAgree : Type 0 where
  pub spent : (source : Source) (code : CodeOf) (world : World) (s : Store) (k line : ℕ) → IsSound source → IsCodeOf source code →
      slice_get (spent_in (machine_sights code world s)) k ≡ Some line → RunsLine source world s line
  pub runs : (source : Source) (code : CodeOf) (world : World) (s : Store) (line : ℕ) → IsSound source → IsCodeOf source code →
      IsOver (machine code world s) → RunsLine source world s line →
      (k : ℕ) × (slice_get (spent_in (machine_sights code world s)) k ≡ Some line)
