-- A line is seen where its statement is done.
use Rattle.std.specs.Prelude.{◌≤◌, ℕ, Contains, count_by}
use Rattle.sig_types.specs.Pass.{Store, World}
use Rattle.vap_ast.specs.Names.{Source}
use Rattle.vap_ast.specs.Sound.{IsSound}
use Rattle.vap_code.specs.Codes.{CodeOf}
use Rattle.vap_code.specs.Machine.{machine}
use Rattle.vap_code.specs.Sights.{machine_sights}
use Rattle.code_verify.specs.Ends.{IsOver}
use Rattle.vap_compile.specs.Compiled.{IsCodeOf}
use Rattle.trace_watch.specs.Counted.{begins}
use Rattle.trace_watch.specs.Places.{statements_in}
use Rattle.laws.specs.SourceLines.{RunsLine}

-- how often a pass of a code is seen to begin a statement at a place
abbrev pub times_begun : CodeOf → World → Store → ℕ → ℕ
times_begun code world s place = count_by (begins place) (machine_sights code world s)

-- a statement of the code that comes from this line is seen to begin in a pass
pub record LineBegins (code : CodeOf) (world : World) (s : Store) (line : ℕ) : Type 0 where
  pub place : ℕ
  pub there : Contains (statements_in code.instrs) (record { place = place; line = line })
  pub begun : 1 ≤ times_begun code world s place

-- A line of a program is seen where its statement is done: what begins in a pass of the code runs in the pass by the program's own
-- meaning, and, where the pass comes to its end, a line that runs by the program's own meaning has a statement that begins.
pub record LinesAreSeen : Type 0 where
  pub seen : (source : Source) (code : CodeOf) (world : World) (s : Store) (line : ℕ) → IsSound source → IsCodeOf source code →
      LineBegins code world s line → RunsLine source world s line
  pub done : (source : Source) (code : CodeOf) (world : World) (s : Store) (line : ℕ) → IsSound source → IsCodeOf source code →
      IsOver (machine code world s) → RunsLine source world s line → LineBegins code world s line
