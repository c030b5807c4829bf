use Rattle.std.proofs.Common.{◌≡◌, ◌∙◌, ◌<◌, ◌++◌, ◌∷◌, [], false, Result, Ok, Err, sym, ap, subst, refl, arith}
use Rattle.std.specs.Io.KnownBytes.{append_known}
use Rattle.sig_io.specs.Outside.{Rose}
use Rattle.det_stream.specs.Stream.{stream_of}
use Rattle.junction_run.specs.declared.stop.Stop.{Stop}
use Rattle.junction_run.specs.Answers.{may_write}
use Rattle.junction_run.specs.Form.{site_files}
use Rattle.junction_run.specs.Guarded.{unwritten}
use Rattle.junction_run.specs.Loading.{program_at, ReachedInPlay}
use Rattle.junction_run.specs.Notes.{IsNote, stop_note}
use Rattle.junction_run.specs.Sites as sites
use Rattle.junction_run.specs.Stop.{status_of}
use Rattle.junction_run.proofs.Ends.{append_known-nil, note_is, no_words, stops_playing}
use Rattle.junction_live.specs.Answer.{Loads, Reached, Meets, NoteMeets}
use Rattle.junction_live.specs.Form.{LiveWords, files_of}
use Rattle.junction_live.specs.FormWords.{form_in}
use Rattle.junction_live.specs.Guarded.{log_guarded}
use Rattle.junction_live.proofs.Answering.{site_meets, site_note_meets, site_ends, note_more, ended}
use Rattle.junction_live.proofs.answer.answer_form.Goals as goal

pub returns-in-Err-clause-answer : goal.returns-in-Err-clause-answer
returns-in-Err-clause-answer g c =
    let form : LiveWords = form_in c.args.form.now in
    let e = c.in-Err.ensures in
    let s = c.in-Err.status in
    record {
      not_words = λ at. (site_ends s e.statuses).0 at;
      read_fault = e.read_fault;
      write_fault = λ at. absurd ((site_ends s e.statuses).1 at);
      unwritten = λ none. refl;
      answer = λ file told. site_meets form file s _ (e.loaded file told);
      safe = log_guarded (unwritten refl);
      note = λ clean.
          let n = e.note clean in (
            n.0,
            n.1,
            note_more (site_files form.site ++ form.program ∷ []) (form.detectors ∷ []) s n.0 n.2,
            λ file told. site_note_meets form file s n.0 (n.3 file told),
          );
    }

pub returns-in-Err-clause-no_words : goal.returns-in-Err-clause-no_words
returns-in-Err-clause-no_words g c = (site_ends c.in-Err.status c.in-Err.ensures.statuses).0

pub returns-in-Ok-play_site-clause-answer : goal.returns-in-Ok-play_site-clause-answer
returns-in-Ok-play_site-clause-answer g c =
    let form : LiveWords = form_in c.args.form.now in
    let loaded = c.in-Ok.ensures.loaded in
    record {
      not_words = λ at. cc;
      read_fault = λ at. absurd cc;
      write_fault = λ at. absurd cc;
      unwritten = λ none. absurd cc;
      answer = λ file told.
          let l = loaded file told in
          let playing = program_at (sites.site_in c.in-Ok.site) l.0 in
          let done : Result (Unit {0}) Stop = Ok (tt {0}) in
          ended form.watchers (Loads form file) (Reached form file) form.detectors (stream_of (file form.detectors)) playing done
          (g.O.Sink.taken c.args.out.now) (g.O.Sink.taken c.play_site.new.out) l.1 (ReachedInPlay.at_detectors playing l.1)
          (c.in-Ok-play_site.ensures.played l.0 l.2 file (c.load_site.ensures.contents_stay ∙ told));
      safe = c.play_site.ensures.guarded;
      note = λ clean. ([], ap (λ n. g.N.Sink.taken n) c.in-Ok.ensures.quiet ∙ sym (append_known-nil (g.N.Sink.taken c.args.notes.now)), refl, λ file told. tt);
    }

pub returns-in-Err-play_site-clause-answer : goal.returns-in-Err-play_site-clause-answer
returns-in-Err-play_site-clause-answer g c =
    let form : LiveWords = form_in c.args.form.now in
    let loaded = c.in-Ok.ensures.loaded in
    let e = c.in-Err-play_site.ensures in
    let stop = c.in-Err-play_site.stop in
    let is : c.status_of.result ≡ status_of stop = c.status_of.ensures in
    let last : 4 < 5 = omega arith in
    let named : Result (Unit {0}) Stop = Err stop in
    let told_so = subst (λ n. (Rose (g.N.Sink.faults n) (g.N.Sink.faults c.write_stop.new.notes) → ⊥) →
    g.N.Sink.taken c.write_stop.new.notes ≡ append_known (g.N.Sink.taken n) (stop_note stop)) c.in-Ok.ensures.quiet c.write_stop.ensures in
    record {
      not_words = λ at. no_words stop (sym is ∙ at);
      read_fault = λ at. (let rose = e.read (sym is ∙ at) in omega (arith, rose, c.load_site.ensures.later));
      write_fault = λ at. e.write (sym is ∙ at);
      unwritten = λ none. e.unwritten (subst (λ s. may_write false s ≡ false) is none);
      answer = λ file told.
          let l = loaded file told in
          let playing = program_at (sites.site_in c.in-Ok.site) l.0 in
          subst (λ s. Meets form file s (g.O.Sink.taken c.args.out.now) (g.O.Sink.taken c.play_site.new.out)) (sym is)
          (ended form.watchers (Loads form file) (Reached form file) form.detectors (stream_of (file form.detectors)) playing named _ _ l.1
          (ReachedInPlay.at_detectors playing l.1)
          (e.played l.0 l.2 file (c.load_site.ensures.contents_stay ∙ told))).0;
      safe = c.play_site.ensures.guarded;
      note = λ clean. (
        stop_note stop,
        told_so clean,
        subst (λ s. IsNote (files_of form) s (stop_note stop)) (sym is)
            (note_is (files_of form) stop (stops_playing (files_of form) form.detectors named (4, last, refl) e.word)),
        λ file told.
            let l = loaded file told in
            let playing = program_at (sites.site_in c.in-Ok.site) l.0 in
            subst (λ s. NoteMeets form file s (stop_note stop)) (sym is)
            (ended form.watchers (Loads form file) (Reached form file) form.detectors (stream_of (file form.detectors)) playing named
            (g.O.Sink.taken c.args.out.now) (g.O.Sink.taken c.play_site.new.out) l.1
            (ReachedInPlay.at_detectors playing l.1) (e.played l.0 l.2 file (c.load_site.ensures.contents_stay ∙ told))).1,
      );
    }
