use Rattle.std.proofs.Common.{◌≡◌, ◌<◌, ℕ, [], map, take}
use Rattle.std.specs.Prelude.{slice_index_or, string_bytes}
use Rattle.vap_ast.specs.Tree.{program_of}
use Rattle.trace_told.specs.Columns.{NamesSome, chosen_by}
use Rattle.trace_told.proofs.choice.choose.Given as goal

abbrev pub invariant-loop-k : goal.invariant-loop-k
invariant-loop-k l = record {
  chosen : l.chosen.items ≡ chosen_by (program_of l.checked.tree) l.columns (take l.k (map string_bytes l.words));
  named : (j : ℕ) → j < l.k → NamesSome (program_of l.checked.tree) l.columns (slice_index_or (map string_bytes l.words) j []);
}
