use Rattle.std.proofs.Common.{◌≡◌, ◌∙◌, ◌++◌, ap, map, subst}
use Rattle.std.specs.Prelude.{OnOk}
use Rattle.vap_ast.specs.Tree.{array_of, program_of}
use Rattle.program_check.specs.declared.lacks.Lack.TheVariants as lack
use Rattle.program_check.specs.declared.uses.Use.TheVariants as how
use Rattle.program_check.specs.Lacks.{array_named, unread_arrays, unused}
use Rattle.program_check.specs.Names.{names_used}
use Rattle.program_check.proofs.Distinct.{unused_by}
use Rattle.program_check.proofs.lacks.warn_of_unread_arrays.Goals as goal

pub returns : goal.returns
unfolding unread_arrays
returns c =
    let p = program_of c.args.program.now in
    let keys = c.in_ok-cells.cells.keys in
    subst (λ ws. OnOk c.warn_of_arrays.result (c.warn_of_arrays.new.warned.items ≡ c.args.warned.now.items ++ ws))
    (ap (λ xs. unused lack.UnreadArray keys (map array_named (map array_of xs))) c.deref.ensures.value
    ∙ unused_by lack.UnreadArray keys (names_used how.Cell p) (map array_named p.arrays) c.in_ok-cells.ensures) c.warn_of_arrays.ensures
