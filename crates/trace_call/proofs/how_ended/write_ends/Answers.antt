use Rattle.std.specs.Io.KnownBytes.{append_known}
use Rattle.run_seconds.specs.Told.{told_from}
use Rattle.std.proofs.Common.{◌≡◌, ◌∙◌, ◌++◌, Bool, ℕ, List, [], Err, ap, refl, sym, subst}
use Rattle.std.proofs.lemmas.List.{append-nil}
use Rattle.sig_io.specs.Draft.{IsCut}
use Rattle.controller.specs.Controls.{code_of, logic_of, site_of}
use Rattle.det_stream.specs.Answers.{name_of}
use Rattle.det_stream.specs.Stream.{stream_of}
use Rattle.junction_run.specs.Stop.{play_status}
use Rattle.junction_run.specs.declared.status.Status.TheVariants as status
use Rattle.junction_run.specs.declared.stop.PlayStop.{PlayStop}
use Rattle.junction_run.proofs.Ends.{is_cut}
use Rattle.trace_told.specs.EndRows.{end_told, header_text}
use Rattle.trace_call.proofs.Ended.{known_first, written_stop_either}
use Rattle.trace_call.proofs.Ends.{played_stop, rose_failed, rose_later, stopped_writing}
use Rattle.trace_call.proofs.how_ended.write_ends.Goals as goal

pub returns-then-failed-clause-told : goal.returns-then-failed-clause-told
returns-then-failed-clause-told g c = λ first stands none unordered.
    let start = g.O.Sink.taken c.args.out.now in
    let header : List ℕ = header_text c.args.csv in
    let cut = is_cut start (g.O.Sink.taken c.put_end_header.new.out) c.put_end_header.new.draft header (sym c.failed.ensures ∙ c.if-failed.true)
    (c.put_end_header.ensures.text start [] (c.new-draft.ensures.text start)) in (
      [],
      subst (λ (t : List ℕ). (n : ℕ) × IsCut start (g.O.Sink.taken c.put_end_header.new.out) n t) (sym (append-nil header)) cut,
      λ file e. ((stream_of (file (name_of c.args.lines.now))).frames, refl),
    )

pub returns-then-failed-clause-write : goal.returns-then-failed-clause-write
returns-then-failed-clause-write g c = λ is.
    rose_failed c.new-draft.ensures.failed (sym c.failed.ensures ∙ c.if-failed.true) c.put_end_header.ensures.cause

pub tell_all-requires-clause-begun : goal.tell_all-requires-clause-begun
tell_all-requires-clause-begun g c =
    let b = c.requires.begun in
    (b.0, b.1, b.2, known_first c.args.controller.now _ c.plan.result.now b.0 c.plan.ensures b.2 b.3 c.new-ends.ensures.stages)

pub returns-in-Ok-clause-told : goal.returns-in-Ok-clause-told
returns-in-Ok-clause-told g c = λ first stands none unordered.
    let start = g.O.Sink.taken c.args.out.now in
    let header = header_text c.args.csv in
    let told = c.in-Ok.ensures.told first stands none (known_first c.args.controller.now _ c.plan.result.now first c.plan.ensures none unordered c.new-ends.ensures.stages) in
    let ctl = c.args.controller.now in
    let text : Bool → List ℕ = λ b. header ++ told_from (end_told b (code_of ctl) (site_of ctl)) (logic_of ctl) (site_of ctl) first told.0 in (
      told.0,
      told.1 start header (c.put_end_header.ensures.text start [] (c.new-draft.ensures.text start)) ∙ ap (λ (b : Bool). append_known start (text b)) c.new-ends.ensures.csv,
      λ file e. told.3 file e,
    )

pub returns-in-Err-clause-told : goal.returns-in-Err-clause-told
returns-in-Err-clause-told g c = λ first stands none unordered.
    let start = g.O.Sink.taken c.args.out.now in
    let header = header_text c.args.csv in
    let told = c.in-Err.ensures.told first stands none (known_first c.args.controller.now _ c.plan.result.now first c.plan.ensures none unordered c.new-ends.ensures.stages) in
    let ctl = c.args.controller.now in
    let text : Bool → List ℕ = λ b. header ++ told_from (end_told b (code_of ctl) (site_of ctl)) (logic_of ctl) (site_of ctl) first told.0 in
    rw c.play_stop.ensures (
      told.0,
      written_stop_either c.in-Err.stop c.args.word text c.new-ends.result.csv c.args.csv c.new-ends.ensures.csv start _ (told.1 start header (c.put_end_header.ensures.text start [] (c.new-draft.ensures.text start))),
      λ file e. played_stop c.in-Err.stop c.args.word _ told.0 (told.3 file e),
    )

pub returns-in-Err-clause-write : goal.returns-in-Err-clause-write
returns-in-Err-clause-write g c = λ is.
    rose_later (sym c.failed.ensures ∙ c.if-failed.false) c.put_end_header.ensures.cause
    (c.in-Err.ensures.write (ap Err (stopped_writing c.in-Err.stop c.args.word
    (subst (λ (s : PlayStop). play_status s ≡ status.WriteFault) c.play_stop.ensures is))))
