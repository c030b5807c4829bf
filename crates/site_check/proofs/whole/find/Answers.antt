use Rattle.std.proofs.Common.{◌∙◌, ◌++◌, ap}
use Rattle.site_check.specs.Examined.{found_in}
use Rattle.site_check.proofs.whole.find.Goals as goal

pub returns-clause-found : goal.returns-clause-found
returns-clause-found c =
    record {
      findings = c.in_ok-plan.ensures.told ∙ ap (λ l. l ++ found_in c.args.texts c.args.judged) c.new-findings.ensures.items;
      plan = c.in_ok-plan.ensures.plan;
      worst = c.worst_of-worst.ensures;
      advice = c.in_ok-plan.ensures.advice;
      pua = c.bytes_of.ensures;
      times = c.bytes_of-2.ensures;
      intergreens = c.bytes_of-3.ensures;
      program = c.bytes_of-4.ensures;
    }
