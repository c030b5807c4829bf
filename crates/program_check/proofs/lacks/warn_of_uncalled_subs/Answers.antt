use Rattle.std.proofs.Common.{◌≡◌, ◌∙◌, ◌++◌, ap, map, subst}
use Rattle.std.specs.Prelude.{OnOk}
use Rattle.vap_ast.specs.Tree.{routine_of, program_of}
use Rattle.program_check.specs.declared.lacks.Lack.TheVariants as lack
use Rattle.program_check.specs.declared.uses.Use.TheVariants as how
use Rattle.program_check.specs.Lacks.{sub_named, uncalled_subs, unused}
use Rattle.program_check.specs.Names.{names_used}
use Rattle.program_check.proofs.Distinct.{unused_by}
use Rattle.program_check.proofs.lacks.warn_of_uncalled_subs.Goals as goal

pub returns : goal.returns
unfolding uncalled_subs
returns c =
    let p = program_of c.args.program.now in
    let keys = c.in_ok-called.called.keys in
    subst (λ ws. OnOk c.warn_of_subs.result (c.warn_of_subs.new.warned.items ≡ c.args.warned.now.items ++ ws))
    (ap (λ xs. unused lack.UncalledSub keys (map sub_named (map routine_of xs))) c.deref.ensures.value
    ∙ unused_by lack.UncalledSub keys (names_used how.Called p) (map sub_named p.subs) c.in_ok-called.ensures) c.warn_of_subs.ensures
