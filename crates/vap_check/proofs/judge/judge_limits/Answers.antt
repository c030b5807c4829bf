use Rattle.std.proofs.Common.{◌∙◌, subst}
use Rattle.vap_ast.specs.Tree.{program_of}
use Rattle.vap_check.specs.declared.kinds.Kind.TheVariants as kind
use Rattle.vap_check.specs.Judgement.{LimitIs}
use Rattle.vap_check.specs.KeptNames.{of_kind}
use Rattle.vap_check.specs.Names.{uses, variables, timers}
use Rattle.vap_check.proofs.Counting.{used, all_used}
use Rattle.vap_check.proofs.Fresh.{arrays_kept, subs_kept, timers_kept, variables_kept, few}
use Rattle.vap_check.proofs.judge.judge_limits.Goals as goal

pub refusal_of-requires-clause-variables : goal.refusal_of-requires-clause-variables
refusal_of-requires-clause-variables c =
    let p = program_of c.args.program.now in
    (used 256 c.in_ok-variables.variables (of_kind c.args.known kind.Variable (uses p)) (variables p) c.in_ok-variables.ensures
    (variables_kept p c.args.known c.requires.knows)).0

pub refusal_of-requires-clause-timers : goal.refusal_of-requires-clause-timers
refusal_of-requires-clause-timers c =
    let p = program_of c.args.program.now in
    (used 64 c.in_ok-timers.timers (of_kind c.args.known kind.Timer (uses p)) (timers p) c.in_ok-timers.ensures (timers_kept p c.args.known c.requires.knows)).0

pub returns-in-Some : goal.returns-in-Some
returns-in-Some c =
    let p = program_of c.args.program.now in
    subst (LimitIs p) c.in-Some.is c.refusal_of.ensures c.requires.clean

pub returns : goal.returns
returns c =
    let p = program_of c.args.program.now in
    let arrays = rw c.deref.ensures.value at c.in_ok-arrays.ensures in
    let subs = rw c.deref-2.ensures.value at c.in_ok-subs.ensures in
    let within = subst (LimitIs p) c.in_default.is c.refusal_of.ensures in
    let fits = few p within.0 in
    let v = used 256 c.in_ok-variables.variables (of_kind c.args.known kind.Variable (uses p)) (variables p) c.in_ok-variables.ensures
    (variables_kept p c.args.known c.requires.knows) in
    let t = used 64 c.in_ok-timers.timers (of_kind c.args.known kind.Timer (uses p)) (timers p) c.in_ok-timers.ensures
    (timers_kept p c.args.known c.requires.knows) in (
      record { clean = c.requires.clean; few = within.0; short = within.1 },
      record {
        known = c.requires.knows;
        arrays = arrays ∙ arrays_kept p c.requires.clean;
        subs = subs ∙ subs_kept p c.requires.clean;
        timers = all_used 64 c.in_ok-timers.timers (timers p) t fits.timers;
        variables = all_used 256 c.in_ok-variables.variables (variables p) v fits.variables;
      },
    )
