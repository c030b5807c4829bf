use Rattle.std.proofs.Common.{◌≡◌, ◌+◌, ◌++◌}
use Rattle.std.specs.Prelude.{flat_map}
use Rattle.sig_types.specs.Words.{tabulate}
use Rattle.program_check.specs.Warnings.{unread_detector}
use Rattle.program_check.proofs.unread.warn_of_first.Given as goal

abbrev pub invariant-loop-d : goal.invariant-loop-d
invariant-loop-d l =
    l.warned.items ≡ l.fn.warned.items ++ flat_map (unread_detector l.frames l.reads) (tabulate (λ k. k + 1) l.d)
