use Rattle.std.proofs.Common.{sym, subst}
use Rattle.junction_run.specs.Ended.{IsEnded}
use Rattle.junction_run.specs.FormWords.{form_in}
use Rattle.junction_run.specs.Guarded.{IsSafe}
use Rattle.junction_run.proofs.top.do_form.Goals as goal

pub returns-in-Play-clause-ended : goal.returns-in-Play-clause-ended
returns-in-Play-clause-ended g c = λ file e.
    subst (λ f. IsEnded (form_in f) file c.run.result (g.O.Sink.taken c.args.out.now) (g.O.Sink.taken c.run.new.out)) (sym c.in-Play.is)
    (c.run.ensures.ended file e)

pub returns-in-Play-clause-safe : goal.returns-in-Play-clause-safe
returns-in-Play-clause-safe g c =
    subst (λ f. IsSafe (form_in f) (g.O.Sink.taken c.args.out.now) (g.O.Sink.taken c.run.new.out)) (sym c.in-Play.is) c.run.ensures.guarded

pub returns-in-Sample-clause-ended : goal.returns-in-Sample-clause-ended
returns-in-Sample-clause-ended g c = λ file e.
    subst (λ f. IsEnded (form_in f) file c.sample.result (g.O.Sink.taken c.args.out.now) (g.O.Sink.taken c.sample.new.out)) (sym c.in-Sample.is)
    (c.sample.ensures.ended file e)

pub returns-in-Audit-clause-ended : goal.returns-in-Audit-clause-ended
returns-in-Audit-clause-ended g c = λ file e.
    subst (λ f. IsEnded (form_in f) file c.audit.result (g.O.Sink.taken c.args.out.now) (g.O.Sink.taken c.audit.new.out)) (sym c.in-Audit.is)
    (c.audit.ensures.ended file e)
