use Rattle.std.proofs.Common.{◌≡◌, ◌∙◌, ◌++◌, ap, map, subst}
use Rattle.std.specs.Prelude.{OnOk}
use Rattle.vap_ast.specs.Tree.{constant_of, program_of}
use Rattle.program_check.specs.declared.lacks.Lack.TheVariants as lack
use Rattle.program_check.specs.declared.uses.Use.TheVariants as how
use Rattle.program_check.specs.Lacks.{constant_named, unused_constants, unused}
use Rattle.program_check.specs.Names.{names_used}
use Rattle.program_check.proofs.Distinct.{unused_by}
use Rattle.program_check.proofs.lacks.warn_of_unused_constants.Goals as goal

pub returns : goal.returns
unfolding unused_constants
returns c =
    let p = program_of c.args.program.now in
    let keys = c.in_ok-read.read.keys in
    subst (λ ws. OnOk c.warn_of_constants.result (c.warn_of_constants.new.warned.items ≡ c.args.warned.now.items ++ ws))
    (ap (λ xs. unused lack.UnusedConstant keys (map constant_named (map constant_of xs))) c.deref.ensures.value
    ∙ unused_by lack.UnusedConstant keys (names_used how.Read p) (map constant_named p.consts) c.in_ok-read.ensures) c.warn_of_constants.ensures
