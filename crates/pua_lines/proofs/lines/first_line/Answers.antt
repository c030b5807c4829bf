use Rattle.std.proofs.Common.{ℕ, List, ◌∷◌, sym, ap, ◌∙◌}
use Rattle.pua_reader.proofs.TextLines.{next_line, last_line}
use Rattle.std.specs.Str.Lines.{lines}
use Rattle.pua_lines.proofs.lines.first_line.Goals as goal

pub returns-in-Some-clause-lines : goal.returns-in-Some-clause-lines
returns-in-Some-clause-lines c =
    (next_line c.args.text.now c.in-Some.line.now c.in-Some.rest.now c.in-Some.ensures).0
    ∙ ap (λ (l : List ℕ). l ∷ lines c.in-Some.rest.now) (sym c.without_return.ensures)

pub returns-in-Some-clause-rest : goal.returns-in-Some-clause-rest
returns-in-Some-clause-rest c = (next_line c.args.text.now c.in-Some.line.now c.in-Some.rest.now c.in-Some.ensures).1

pub returns-in-None-clause-lines : goal.returns-in-None-clause-lines
returns-in-None-clause-lines c = last_line c.args.text.now c.in-None.ensures c.requires
