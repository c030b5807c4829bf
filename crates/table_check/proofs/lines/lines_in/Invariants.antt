use Rattle.std.proofs.Common.{◌≡◌, map}
use Rattle.std.specs.Str.Lines.{strip_carriage_return}
use Rattle.table_check.proofs.lines.lines_in.Given as goal

-- the lines that were seen, each less a carriage return at its end
abbrev pub invariant-loop-line : goal.invariant-loop-line
invariant-loop-line l = map (λ p. p.now) l.lines.items ≡ map strip_carriage_return (map (λ p. p.now) l.yielded)
