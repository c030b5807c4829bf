use Rattle.std.proofs.Common.{◌≡◌, List}
use Rattle.sig_io.specs.Draft.{Puts}
use Rattle.sig_guard.specs.Stands.{rules}
use Rattle.sig_audit.specs.declared.trial.InterEnd.{InterEnd}
use Rattle.junction_run.specs.Audited.{AreEnds, inters_text}
use Rattle.junction_run.proofs.audit_text.put_inters.Given as goal

abbrev pub invariant-loop-i : goal.invariant-loop-i
invariant-loop-i g l = record {
  put : (ends : List InterEnd) × AreEnds l.plan (rules l.fn.guard) l.i ends
      × Puts g.O.Sink.taken g.O.Sink.faults l.fn.draft l.draft l.fn.sink l.sink (inters_text l.plan 0 ends);
  kept : rules l.guard ≡ rules l.fn.guard;
}
