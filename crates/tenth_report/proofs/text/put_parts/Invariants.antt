use Rattle.std.proofs.Common.{◌≡◌, ◌≤◌, ℕ, List, ◌++◌, length, drop}
use Rattle.sig_io.specs.Draft.{Puts}
use Rattle.tenth_report.specs.Kept.{counted, kept_text}
use Rattle.tenth_report.proofs.text.put_parts.Given as goal

abbrev pub invariant-loop-part : goal.invariant-loop-part
invariant-loop-part g l = record {
  done : List ℕ;
  put : Puts g.O.Sink.taken g.O.Sink.faults l.fn.draft l.draft l.fn.sink l.sink done;
  left : kept_text l.csv l.plan.names l.parts l.found ≡ done ++ kept_text l.csv l.plan.names (drop l.part-index l.parts) l.rest;
  enough : counted (drop l.part-index l.parts) ≤ length l.rest;
}
