use Rattle.std.proofs.Common.{take}
use Rattle.sig_io.specs.Draft.{Puts}
use Rattle.vap_ast.specs.Tree.{program_of}
use Rattle.trace_told.specs.Listing.{changes_text}
use Rattle.trace_told.proofs.changes.put_changes.Given as goal

abbrev pub invariant-loop-one : goal.invariant-loop-one
invariant-loop-one g l =
    Puts g.O.Sink.taken g.O.Sink.faults l.fn.draft l.draft l.fn.out l.out (changes_text (program_of l.checked.tree) l.vm.store (take l.one-index l.kept))
