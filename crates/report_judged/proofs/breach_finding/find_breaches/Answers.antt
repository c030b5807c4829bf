use Rattle.std.proofs.Common.{◌≡◌, ◌∙◌, List, ℕ, None, sym, subst, ap}
use Rattle.sig_tables.specs.SiteRules.{rules_of}
use Rattle.log_judge.specs.declared.find.Terms.{Terms}
use Rattle.log_judge.specs.Breaches.{breaches, breaches_within}
use Rattle.log_judge.specs.Stands.{terms_of}
use Rattle.log_read.specs.Answers.{IsFirst, first_given}
use Rattle.log_read.specs.Readings.{IsPictures}
use Rattle.log_read.specs.declared.begin.Begin.TheVariants.{Anywhere}
use Rattle.log_protocol.specs.Came.{unknown_past}
use Rattle.report_judged.specs.BreachesFound.{IsLogStop}
use Rattle.report_judged.proofs.BreachReading.{stands_count}
use Rattle.report_judged.proofs.breach_finding.find_breaches.Goals as goal

pub returns-in-Err-find_within-clause-found : goal.returns-in-Err-find_within-clause-found
returns-in-Err-find_within-clause-found g c file e =
    subst (λ (n : List ℕ). IsLogStop c.args.tables.now.plan.names c.args.log.now (file n) c.in-Err-find_within.stop) c.in-Ok.ensures.name
    (c.in-Err-find_within.ensures.read file e)

pub returns-in-Ok-find_end-clause-found : goal.returns-in-Ok-find_end-clause-found
returns-in-Ok-find_end-clause-found g c file e =
    let names = c.args.tables.now.plan.names in
    let r = rules_of c.args.tables.now.times c.args.tables.now.intergreens in
    let whole = c.in-Ok-find_within.ensures.read file e in
    let same : terms_of c.find_within.new.judge ≡ unknown_past c.args.tolerance = c.find_within.ensures.terms ∙ c.new-judge.ensures.terms in
    record {
      pictures = whole.pictures;
      log = subst (λ (n : List ℕ). IsPictures Anywhere names (file n) whole.pictures None) c.in-Ok.ensures.name whole.log;
      breaches_are = c.in-Ok-find_end.ensures whole.pictures whole.stands
          (whole.found_are ∙ ap (λ (k : Terms). breaches_within r k whole.pictures) (sym c.find_within.ensures.terms))
          ∙ ap (λ (k : Terms). breaches r k whole.pictures) same;
      first = subst (λ (x : ℕ). IsFirst Anywhere (file c.args.log.now) whole.pictures x) (sym c.first.ensures.first)
          (subst (λ (n : List ℕ). IsFirst Anywhere (file n) whole.pictures (first_given c.find_within.new.part)) c.in-Ok.ensures.name whole.first);
      count = c.seconds.ensures.seconds ∙ sym (stands_count c.find_within.new.judge whole.pictures whole.stands);
    }
