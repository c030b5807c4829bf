use Rattle.std.proofs.Common.{◌≡◌, ◌∙◌, false, [], sym, subst, refl}
use Rattle.junction_run.specs.Answer.{Meets}
use Rattle.junction_run.specs.Answers.{may_write}
use Rattle.junction_run.specs.Form.{Form, files_of, writes_lines}
use Rattle.junction_run.specs.FormWords.{form_in}
use Rattle.junction_run.specs.Notes.{IsNote, NoteMeets, stop_note}
use Rattle.junction_run.specs.Stop.{status_of}
use Rattle.junction_run.proofs.Ends.{append_known-nil, note_is, no_words}
use Rattle.junction_run.proofs.top.answer_form.Goals as goal

pub returns-in-Ok-clause-answer : goal.returns-in-Ok-clause-answer
returns-in-Ok-clause-answer g c = record {
  not_words = λ is. absurd cc;
  read_fault = λ is. absurd cc;
  write_fault = λ is. absurd cc;
  unwritten = λ none. absurd cc;
  line = λ is. absurd cc;
  answer = λ file e. c.in-Ok.ensures.ended file e;
  safe = c.do_form.ensures.safe;
  note = λ clean. ([], sym (append_known-nil (g.N.Sink.taken c.args.notes.now)), refl, λ file e. tt);
}

pub returns-in-Err-clause-answer : goal.returns-in-Err-clause-answer
returns-in-Err-clause-answer g c =
    let form : Form = form_in c.args.form.now in
    let is : c.status_of.result ≡ status_of c.in-Err.stop = c.status_of.ensures in
    record {
      not_words = λ at. no_words c.in-Err.stop (sym is ∙ at);
      read_fault = λ at. c.in-Err.ensures.read (sym is ∙ at);
      write_fault = λ at. c.in-Err.ensures.write (sym is ∙ at);
      unwritten = λ none. c.in-Err.ensures.unwritten (subst (λ s. may_write (writes_lines form) s ≡ false) is none);
      line = λ at. c.in-Err.ensures.line (sym is ∙ at);
      answer = λ file e. subst (λ s. Meets form file s (g.O.Sink.taken c.args.out.now) (g.O.Sink.taken c.do_form.new.out)) (sym is)
          (c.in-Err.ensures.ended file e).0;
      safe = c.do_form.ensures.safe;
      note = λ clean. (
        stop_note c.in-Err.stop,
        c.write_stop.ensures clean,
        subst (λ s. IsNote (files_of form) s (stop_note c.in-Err.stop)) (sym is) (note_is (files_of form) c.in-Err.stop c.in-Err.ensures.word),
        λ file e. subst (λ s. NoteMeets form file s (stop_note c.in-Err.stop)) (sym is) (c.in-Err.ensures.ended file e).1,
      );
    }

pub returns-in-Err-clause-no_words : goal.returns-in-Err-clause-no_words
returns-in-Err-clause-no_words g c = λ at. no_words c.in-Err.stop (sym c.status_of.ensures ∙ at)
