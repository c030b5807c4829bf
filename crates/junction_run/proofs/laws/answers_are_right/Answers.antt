use Rattle.junction_run.proofs.Once.{loads_once, programs_have_one_answer, ends_as_given, complete}
use Rattle.junction_run.proofs.Audits.{logs_have_one_answer, logs_have_one_audit}
use Rattle.junction_run.proofs.LoadedRuns.{loaded_runs_are_guarded, writes_of_the_files_are_guarded}
use Rattle.junction_run.proofs.laws.answers_are_right.Goals as goal

pub returns-clause-once : goal.returns-clause-once
returns-clause-once c = loads_once (record {
  checked = record { refusal = c.one_answer-3.ensures.refusal; apart = c.one_answer-3.ensures.apart };
  first = c.one_check_is_first.ensures.one;
  none = c.one_check_is_first.ensures.none;
})

pub returns-clause-ends : goal.returns-clause-ends
returns-clause-ends c = ends_as_given (record {
  checked = record { refusal = c.one_answer-3.ensures.refusal; apart = c.one_answer-3.ensures.apart };
  first = c.one_check_is_first.ensures.one;
  none = c.one_check_is_first.ensures.none;
})

pub returns-clause-complete : goal.returns-clause-complete
returns-clause-complete c = complete (record {
  checked = record { refusal = c.one_answer-3.ensures.refusal; apart = c.one_answer-3.ensures.apart };
  first = c.one_check_is_first.ensures.one;
  none = c.one_check_is_first.ensures.none;
})

pub returns-clause-guarded : goal.returns-clause-guarded
returns-clause-guarded c = loaded_runs_are_guarded

pub returns-clause-programs : goal.returns-clause-programs
returns-clause-programs c = programs_have_one_answer
    (record { some_tokens = c.one_answer.ensures.some; some_tree = c.one_answer-2.ensures.some; some_check = c.one_answer-3.ensures.some })
    (record { refusal = c.one_answer-3.ensures.refusal; apart = c.one_answer-3.ensures.apart })

pub returns-clause-files : goal.returns-clause-files
returns-clause-files c = writes_of_the_files_are_guarded

pub returns-clause-logs : goal.returns-clause-logs
returns-clause-logs c = logs_have_one_answer

pub returns-clause-audits : goal.returns-clause-audits
returns-clause-audits c = logs_have_one_audit
