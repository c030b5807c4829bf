use Rattle.std.proofs.Common.{◌∙◌, sym, arith}
use Rattle.vap_check.specs.Accepted.{many, long}
use Rattle.vap_check.proofs.judge.refusal_of.Goals as goal

pub returns-in-Some : goal.returns-in-Some
returns-in-Some c = λ clean. many c.in-Some.which clean (sym c.first_passed_limit.ensures ∙ c.in-Some.is)

pub returns-then-program_size-from : goal.returns-then-program_size-from
returns-then-program_size-from c =
    λ clean. long clean (sym c.first_passed_limit.ensures ∙ c.in_default.is) (omega (arith, c.program_size.ensures))
