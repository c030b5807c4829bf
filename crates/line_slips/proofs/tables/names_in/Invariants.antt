use Rattle.std.proofs.Common.{◌≡◌, ◌+◌, drop}
use Rattle.line_slips.specs.TableSlips.{names_len}
use Rattle.line_slips.proofs.tables.names_in.Given as goal

abbrev pub invariant-loop-i : goal.invariant-loop-i
invariant-loop-i l = names_len l.row ≡ l.i + names_len (drop l.i l.row)
