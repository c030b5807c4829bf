use Rattle.std.proofs.Common.{rules, ◌≡◌, ◌∙◌, ◌++◌, List, length, map, take, drop, sym, ap, subst}
use Rattle.std.specs.Prelude.{All}
use Rattle.junction_net.specs.declared.jobs.Job.{Job}
use Rattle.junction_net.specs.Jobs.{HasAnswered, HaveRun, result_of}
use Rattle.junction_net.specs.Load.{files_of_jobs, first_long}
use Rattle.junction_net.specs.Results.{AreResults}
use Rattle.junction_net.proofs.Runs.{are_results}
use Rattle.junction_net.proofs.Taking.{files_unread, measured_ok}
use Rattle.junction_net.proofs.Texts.{written_back}
use Rattle.junction_net.proofs.answer.run_list.Goals as goal

pub returns-in-Err-clause-stop : goal.returns-in-Err-clause-stop
returns-in-Err-clause-stop g c = λ file told. files_unread file c.args.list.now c.in-Err.unread (c.in-Err.ensures.unread file told)

pub returns-in-Ok-put_jobs-clause-results : goal.returns-in-Ok-put_jobs-clause-results
returns-in-Ok-put_jobs-clause-results g c = λ file told.
    let list = c.args.list.now in
    let olds : List Job = c.in-Ok.jobs.items in
    let news : List Job = c.run_jobs.new.jobs in
    let same : length news ≡ length olds = c.run_jobs.ensures.count ∙ ap length c.deref_mut.ensures.value in
    let count : length olds ≡ c.in-Ok.jobs.len = search rules in
    let back : take c.in-Ok.jobs.len (news ++ drop (length news) olds) ≡ news = written_back c.in-Ok.jobs.len olds news same count in
    let ran = subst (λ l. HaveRun l news) c.deref_mut.ensures.value c.run_jobs.ensures.ran in
    let answered = subst (λ l. All HasAnswered l) (c.deref.ensures.value ∙ back) (c.have_answered.ensures c.if-not-have_answered.false) in (
      list,
      measured_ok file list (first_long file (files_of_jobs list)) (c.in-Ok.ensures.short file told),
      subst (λ (l : List Job). AreResults file list (map result_of l)) (sym back)
          (are_results c.answers_are_right.ensures.once file list olds news c.in-Ok.ensures.ready (c.in-Ok.ensures.held file told) ran same answered),
    )

pub returns-clause-cut : goal.returns-clause-cut
returns-clause-cut g c = λ file told at.
    let list = c.args.list.now in
    let olds : List Job = c.in-Ok.jobs.items in
    let news : List Job = c.run_jobs.new.jobs in
    let same : length news ≡ length olds = c.run_jobs.ensures.count ∙ ap length c.deref_mut.ensures.value in
    let count : length olds ≡ c.in-Ok.jobs.len = search rules in
    let back : take c.in-Ok.jobs.len (news ++ drop (length news) olds) ≡ news = written_back c.in-Ok.jobs.len olds news same count in
    let ran = subst (λ l. HaveRun l news) c.deref_mut.ensures.value c.run_jobs.ensures.ran in
    let answered = subst (λ l. All HasAnswered l) (c.deref.ensures.value ∙ back) (c.have_answered.ensures c.if-not-have_answered.false) in
    let cut = c.in-Err-put_jobs.ensures.fault in (
      map result_of c.deref-2.result.now,
      (
        list,
        measured_ok file list (first_long file (files_of_jobs list)) (c.in-Ok.ensures.short file told),
        subst (λ (l : List Job). AreResults file list (map result_of l)) (sym (c.deref-2.ensures.value ∙ back))
            (are_results c.answers_are_right.ensures.once file list olds news c.in-Ok.ensures.ready (c.in-Ok.ensures.held file told) ran same answered),
      ),
      cut.0,
      cut.1,
    )
