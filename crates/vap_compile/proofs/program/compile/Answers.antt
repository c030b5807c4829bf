use Rattle.std.proofs.Common.{ap, ◌∙◌, subst, sym}
use Rattle.vap_code.specs.Codes.{code_in}
use Rattle.vap_code.specs.Machine.{machine}
use Rattle.vap_code.specs.Stores.{first_store}
use Rattle.code_verify.specs.First.{RefusedBy}
use Rattle.vap_compile.specs.Compiled.{IsLaidOut}
use Rattle.vap_compile.proofs.Correct.{compiled_valid, compiled_means, begins_alike}
use Rattle.vap_compile.proofs.program.compile.Goals as goal

pub returns-in-Ok-verify-clause-layout : goal.returns-in-Ok-verify-clause-layout
returns-in-Ok-verify-clause-layout c =
    subst (IsLaidOut c.args.checked.now) (sym c.in-Ok-verify.ensures.accepted) c.in-Ok.ensures.code

pub returns-in-Ok-verify-clause-means : goal.returns-in-Ok-verify-clause-means
returns-in-Ok-verify-clause-means c = λ world s f.
    ap (λ k. machine k world s) c.in-Ok-verify.ensures.accepted ∙ compiled_means c.args.checked.now
    (code_in c.in-Ok.code) c.in-Ok.ensures.kept c.in-Ok.ensures.code c.valid_code_ends.ensures world s f

pub returns-in-Ok-verify-clause-begins : goal.returns-in-Ok-verify-clause-begins
returns-in-Ok-verify-clause-begins c =
    ap first_store c.in-Ok-verify.ensures.accepted ∙ begins_alike c.args.checked.now (code_in c.in-Ok.code) c.in-Ok.ensures.code.numbers

pub unreachable-requires : goal.unreachable-requires
unreachable-requires c =
    let broken =
    subst (RefusedBy (code_in c.in-Ok.code)) c.in-Err-default-At.field-0-1-is c.in-Err-default-At.ensures.refused in
    broken.broken (compiled_valid c.args.checked.now (code_in c.in-Ok.code) c.in-Ok.ensures.kept
    c.in-Ok.ensures.code c.in-Err-default-At.field-0-1-1 c.in-Err-default-At.field-0-1-0
    broken.within)
