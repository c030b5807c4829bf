use Rattle.std.proofs.Common.{◌∙◌, ◌++◌, sym, codes}
use Rattle.std.specs.Fmt.{decimal}
use Rattle.trace_told.proofs.ValuesNamed.{with_front}
use Rattle.trace_told.proofs.choice.is_cell.Goals as goal

pub returns-in-Some : goal.returns-in-Some
returns-in-Some c =
    c.is_place.ensures ∙ sym (with_front c.args.name.now (codes "[" ++ (decimal c.args.place ++ codes "]")) c.args.bytes.now c.in-Some.rest.now c.in-Some.ensures)
