use Rattle.std.proofs.Common.{◌≡◌, ◌++◌, drop}
use Rattle.trace_told.specs.Named.{named_by_all}
use Rattle.trace_told.proofs.named.named_by_all.Given as goal

abbrev pub invariant-loop-token : goal.invariant-loop-token
invariant-loop-token l =
    l.chosen.items ++ named_by_all l.checked.names l.columns (drop l.token-index l.tokens) ≡ named_by_all l.checked.names l.columns l.tokens
