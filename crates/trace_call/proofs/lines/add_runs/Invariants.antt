use Rattle.std.proofs.Common.{◌≡◌, ◌≤◌, List, Ok, Some, length, map, string_bytes}
use Rattle.sig_io.specs.Outside.{Contents}
use Rattle.vap_ast.specs.Tree.{program_of}
use Rattle.vap_check.specs.Numbers.{checked_of}
use Rattle.vap_code.specs.Sights.{Sight}
use Rattle.controller.specs.Past.{Site}
use Rattle.junction_run.specs.FormWords.{site_in}
use Rattle.junction_run.specs.Loading.{site_of}
use Rattle.trace_call.specs.Loaded.{code_for}
use Rattle.trace_lines.specs.Tallied.{HasTallied}
use Rattle.trace_call.specs.Form.{files_in}
use Rattle.trace_call.proofs.Counted.{HasAdded}
use Rattle.trace_call.proofs.lines.add_runs.Given as goal

abbrev pub invariant-loop-rest : goal.invariant-loop-rest
invariant-loop-rest g l = record {
  contents_stay : g.F.Files.told l.files ≡ g.F.Files.told l.fn.files;
  nothing : g.O.Sink.taken l.out ≡ g.O.Sink.taken l.fn.out;
  later : g.O.Sink.faults l.fn.out ≤ g.O.Sink.faults l.out;
  reads_later : g.F.Files.faults l.fn.files ≤ g.F.Files.faults l.files;
  added : (file : Contents) → g.F.Files.told l.fn.files ≡ Some file → (site : Site) → site_of (site_in l.words) file ≡ Ok site →
      l.checked ≡ checked_of l.checked.tree → (seconds : List (List Sight)) →
      HasTallied l.fn.total (code_for (program_of l.checked.tree)).instrs seconds →
      HasAdded (code_for (program_of l.checked.tree)) site seconds (files_in (map string_bytes l.rest)) (files_in (map string_bytes l.added)) file l.total;
}

abbrev pub decreases-loop-rest : goal.decreases-loop-rest
decreases-loop-rest g l = length l.rest
