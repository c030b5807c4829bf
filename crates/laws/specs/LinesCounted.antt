-- What is counted of passes tells which lines of the program run in them.
use Rattle.std.specs.Prelude.{◌≡◌, ◌≤◌, ℕ, All, Contains, List, flat_map, length, slice_index_or}
use Rattle.sig_types.specs.Pass.{Store, World}
use Rattle.vap_ast.specs.Names.{Source}
use Rattle.vap_ast.specs.Sound.{IsSound}
use Rattle.vap_code.specs.Codes.{CodeOf}
use Rattle.vap_code.specs.Machine.{machine}
use Rattle.vap_code.specs.Sights.{Sight, machine_sights}
use Rattle.code_verify.specs.Ends.{IsOver}
use Rattle.vap_compile.specs.Compiled.{IsCodeOf}
use Rattle.trace_watch.specs.declared.counts.Counts.{Counts}
use Rattle.trace_watch.specs.Counted.{HasCounted}
use Rattle.trace_watch.specs.Places.{statements_in}
use Rattle.laws.specs.SourceLines.{RunsLine}

-- a pass: the world in which it is made, and the store with which it begins
pub record Pass : Type 0 where
  pub world : World
  pub store : Store

-- what is seen of a pass
abbrev pub seen_in : CodeOf → Pass → List Sight
seen_in code pass = machine_sights code pass.world pass.store

-- what is seen of passes, one after the other
abbrev pub seen_in_all : CodeOf → List Pass → List Sight
seen_in_all code passes = flat_map (seen_in code) passes

-- a line runs in one of these passes
pub record RunsInSome (source : Source) (passes : List Pass) (line : ℕ) : Type 0 where
  pub pass : Pass
  pub among : Contains passes pass
  pub runs : RunsLine source pass.world pass.store line

-- a statement of the code that comes from this line was counted
pub record LineIsCounted (code : CodeOf) (c : Counts) (line : ℕ) : Type 0 where
  pub place : ℕ
  pub there : Contains (statements_in code.instrs) (record { place = place; line = line })
  pub counted : 1 ≤ slice_index_or c.begun.items place 0

-- What was counted of the passes of a code tells the lines that run in them, by the program's own meaning: a line of which a statement
-- was counted runs in one of the passes, and, where all places are counted and all passes come to their ends, each line that runs in
-- one of them has a statement that was counted.
pub record CountsTellLines : Type 0 where
  pub runs : (source : Source) (code : CodeOf) (passes : List Pass) (c : Counts) (line : ℕ) → IsSound source →
      IsCodeOf source code → HasCounted c (seen_in_all code passes) → LineIsCounted code c line → RunsInSome source passes line
  pub counted : (source : Source) (code : CodeOf) (passes : List Pass) (c : Counts) (line : ℕ) → IsSound source →
      IsCodeOf source code → HasCounted c (seen_in_all code passes) → length c.begun.items ≡ length code.instrs →
      All (λ p. IsOver (machine code p.world p.store)) passes → RunsInSome source passes line → LineIsCounted code c line
