use Rattle.std.proofs.Common.{◌≡◌, ◌∙◌, ℕ, List, [], Err, ap, refl, sym, subst}
use Rattle.std.proofs.lemmas.List.{append-nil}
use Rattle.sig_io.specs.Draft.{IsCut}
use Rattle.vap_ast.specs.Tree.{program_of}
use Rattle.det_stream.specs.Answers.{name_of}
use Rattle.det_stream.specs.Stream.{stream_of}
use Rattle.junction_run.specs.Stop.{play_status}
use Rattle.junction_run.specs.declared.status.Status.TheVariants as status
use Rattle.junction_run.specs.declared.stop.PlayStop.{PlayStop}
use Rattle.junction_run.proofs.Ends.{is_cut}
use Rattle.trace_told.specs.ValueRows.{header_text}
use Rattle.trace_call.proofs.Ends.{played_stop, rose_failed, rose_later, stopped_writing, written_stop}
use Rattle.trace_call.proofs.values.write_values.Goals as goal

pub returns-then-failed-clause-told : goal.returns-then-failed-clause-told
returns-then-failed-clause-told g c = λ first stands none.
    let start = g.O.Sink.taken c.args.out.now in
    let header : List ℕ = header_text (program_of c.args.checked.now.tree) c.args.columns.now in
    let cut = is_cut start (g.O.Sink.taken c.put_value_header.new.out) c.put_value_header.new.draft header (sym c.failed.ensures ∙ c.if-failed.true)
    (c.put_value_header.ensures.text start [] (c.new-draft.ensures.text start)) in (
      [],
      subst (λ (t : List ℕ). (n : ℕ) × IsCut start (g.O.Sink.taken c.put_value_header.new.out) n t) (sym (append-nil header)) cut,
      λ file e. ((stream_of (file (name_of c.args.lines.now))).frames, refl),
    )

pub returns-then-failed-clause-write : goal.returns-then-failed-clause-write
returns-then-failed-clause-write g c = λ is.
    rose_failed c.new-draft.ensures.failed (sym c.failed.ensures ∙ c.if-failed.true) c.put_value_header.ensures.cause

pub tell_all-requires-clause-begun : goal.tell_all-requires-clause-begun
tell_all-requires-clause-begun g c = let b = c.requires.begun in (b.0, b.1, b.2, tt)

pub returns-in-Ok-clause-told : goal.returns-in-Ok-clause-told
returns-in-Ok-clause-told g c = λ first stands none.
    let start = g.O.Sink.taken c.args.out.now in
    let header = header_text (program_of c.args.checked.now.tree) c.args.columns.now in
    let told = c.in-Ok.ensures.told first stands none tt in
    (told.0, told.1 start header (c.put_value_header.ensures.text start [] (c.new-draft.ensures.text start)), λ file e. told.3 file e)

pub returns-in-Err-clause-told : goal.returns-in-Err-clause-told
returns-in-Err-clause-told g c = λ first stands none.
    let start = g.O.Sink.taken c.args.out.now in
    let header = header_text (program_of c.args.checked.now.tree) c.args.columns.now in
    let told = c.in-Err.ensures.told first stands none tt in
    rw c.play_stop.ensures (
      told.0,
      written_stop c.in-Err.stop c.args.word _ start _ (told.1 start header (c.put_value_header.ensures.text start [] (c.new-draft.ensures.text start))),
      λ file e. played_stop c.in-Err.stop c.args.word _ told.0 (told.3 file e),
    )

pub returns-in-Err-clause-write : goal.returns-in-Err-clause-write
returns-in-Err-clause-write g c = λ is.
    rose_later (sym c.failed.ensures ∙ c.if-failed.false) c.put_value_header.ensures.cause
    (c.in-Err.ensures.write (ap Err (stopped_writing c.in-Err.stop c.args.word
    (subst (λ (s : PlayStop). play_status s ≡ status.WriteFault) c.play_stop.ensures is))))
