use Rattle.std.proofs.Common.{◌≡◌, ◌∙◌, List, false, map, sym, ap, subst, refl, arith}
use Rattle.std.specs.Io.KnownBytes.{append_known}
use Rattle.junction_run.specs.Answers.{may_write}
use Rattle.junction_net.specs.declared.jobs.Job.{Job}
use Rattle.junction_net.specs.Jobs.{result_of}
use Rattle.junction_net.specs.Net.{Meets, IsNetNote, NoteMeets}
use Rattle.junction_net.specs.Results.{net_notes}
use Rattle.junction_net.specs.Runs.{IsCutRun}
use Rattle.junction_net.specs.Stop.{stop_status, stop_note}
use Rattle.junction_net.proofs.Ends.{no_words, no_line, note_is, refuses_none, stop_meets, list_stop, files_stop, jobs_are, done_meets, done_gives}
use Rattle.junction_net.proofs.answer.answer_word.Goals as goal

pub returns-in-Err-clause-answer : goal.returns-in-Err-clause-answer
returns-in-Err-clause-answer g c =
    let stop = c.in-Err.stop in
    let e = c.in-Err.ensures in
    let is : c.stop_status.result ≡ stop_status stop = c.stop_status.ensures in
    let word = c.args.word.now in
    record {
      not_words = λ at. no_words stop (sym is ∙ at);
      not_line = λ at. no_line stop (sym is ∙ at);
      read_fault = λ at. e.cause (sym is ∙ at);
      write_fault = λ at. absurd (e.no_write (sym is ∙ at));
      unwritten = λ none. refl;
      answer = λ file told. subst (λ s. Meets word file s (g.O.Sink.taken c.args.out.now) (g.O.Sink.taken c.args.out.now)) (sym is)
          (stop_meets word file stop _ _ (list_stop word file stop (e.stop file told)) (λ none. refl) (λ at. absurd (e.no_write at))).0;
      note = λ clean. (
        stop_note stop,
        c.write_stop.ensures.note clean,
        subst (λ s. IsNetNote word s (stop_note stop)) (sym is) (note_is word stop e.word),
        λ file told. subst (λ s. NoteMeets word file s (stop_note stop)) (sym is)
            (stop_meets word file stop (g.O.Sink.taken c.args.out.now) _ (list_stop word file stop (e.stop file told)) (λ none. refl)
            (λ at. absurd (e.no_write at))).1,
      );
    }

pub returns-in-Err-clause-no_words : goal.returns-in-Err-clause-no_words
returns-in-Err-clause-no_words g c = λ at. no_words c.in-Err.stop (sym c.stop_status.ensures ∙ at)

pub returns-in-Ok-run_list-clause-answer : goal.returns-in-Ok-run_list-clause-answer
returns-in-Ok-run_list-clause-answer g c =
    let word = c.args.word.now in
    let list = c.in-Ok.list in
    let e = c.in-Ok-run_list.ensures in
    let rs = map result_of c.in-Ok-run_list.jobs.items in
    record {
      not_words = λ at. absurd cc;
      not_line = λ at. absurd cc;
      read_fault = λ at. absurd cc;
      write_fault = λ at. absurd cc;
      unwritten = λ none. absurd cc;
      answer = λ file told. done_meets word file list rs _ _ (c.in-Ok.ensures.list file told)
          (e.results file (c.take_list.ensures.contents_stay ∙ told)) e.text;
      note = λ clean. (
        net_notes rs,
        c.write_notes.ensures.notes clean ∙ ap (λ (l : List Job). append_known (g.N.Sink.taken c.args.notes.now) (net_notes (map result_of l)))
            c.deref.ensures.value,
        tt,
        λ file told. (rs, done_gives word file list rs (c.in-Ok.ensures.list file told) (e.results file (c.take_list.ensures.contents_stay ∙ told)), refl),
      );
    }

pub returns-clause-answer : goal.returns-clause-answer
returns-clause-answer g c =
    let word = c.args.word.now in
    let list = c.in-Ok.list in
    let stop = c.in-Err-run_list.stop in
    let e = c.in-Err-run_list.ensures in
    let is : c.stop_status-in-Err-run_list.result ≡ stop_status stop = c.stop_status-in-Err-run_list.ensures in
    let old = g.O.Sink.taken c.args.out.now in
    let new = g.O.Sink.taken c.run_list.new.out in
    record {
      not_words = λ at. no_words stop (sym is ∙ at);
      not_line = λ at. no_line stop (sym is ∙ at);
      read_fault = λ at. (let rose = e.read (sym is ∙ at) in omega (arith, rose, c.take_list.ensures.later));
      write_fault = λ at. e.write (sym is ∙ at);
      unwritten = λ none. e.unwritten (subst (λ s. may_write false s ≡ false) is none);
      answer = λ file told.
          let taken = c.in-Ok.ensures.list file told in
          let same = c.take_list.ensures.contents_stay ∙ told in
          subst (λ s. Meets word file s old new) (sym is)
          (stop_meets word file stop old new (files_stop word file list stop taken (e.stop file same)) e.unwritten
          (λ at. subst (λ r. IsCutRun file r old new) (sym (jobs_are word file list taken)) (e.cut file same at))).0;
      note = λ clean. (
        stop_note stop,
        c.write_stop-in-Err-run_list.ensures.note clean,
        subst (λ s. IsNetNote word s (stop_note stop)) (sym is) (note_is word stop (refuses_none word stop e.no_refusal)),
        λ file told.
            let taken = c.in-Ok.ensures.list file told in
            let same = c.take_list.ensures.contents_stay ∙ told in
            subst (λ s. NoteMeets word file s (stop_note stop)) (sym is)
            (stop_meets word file stop old new (files_stop word file list stop taken (e.stop file same)) e.unwritten
            (λ at. subst (λ r. IsCutRun file r old new) (sym (jobs_are word file list taken)) (e.cut file same at))).1,
      );
    }

pub returns-clause-no_words : goal.returns-clause-no_words
returns-clause-no_words g c = λ at. no_words c.in-Err-run_list.stop (sym c.stop_status-in-Err-run_list.ensures ∙ at)
