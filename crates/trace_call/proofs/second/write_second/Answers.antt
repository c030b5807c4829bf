use Rattle.std.proofs.Common.{◌≡◌, [], Err, ap, subst}
use Rattle.junction_run.specs.Stop.{play_status}
use Rattle.junction_run.specs.declared.status.Status.TheVariants as status
use Rattle.junction_run.specs.declared.stop.PlayStop.{PlayStop}
use Rattle.trace_call.proofs.Ends.{played_stop, rose_new, stopped_writing, written_stop}
use Rattle.trace_call.proofs.second.write_second.Goals as goal

pub tell_all-requires-clause-begun : goal.tell_all-requires-clause-begun
tell_all-requires-clause-begun g c = let b = c.requires.begun in (b.0, b.1, b.2, tt)

pub returns-in-Ok-clause-told : goal.returns-in-Ok-clause-told
returns-in-Ok-clause-told g c = λ first stands none.
    let told = c.in-Ok.ensures.told first stands none tt in
    (told.0, told.1 _ [] (c.new-draft.ensures.text _), λ file e. told.3 file e)

pub returns-in-Err-clause-told : goal.returns-in-Err-clause-told
returns-in-Err-clause-told g c = λ first stands none.
    let told = c.in-Err.ensures.told first stands none tt in
    rw c.play_stop.ensures (
      told.0,
      written_stop c.in-Err.stop c.args.word _ _ _ (told.1 _ [] (c.new-draft.ensures.text _)),
      λ file e. played_stop c.in-Err.stop c.args.word _ told.0 (told.3 file e),
    )

pub returns-in-Err-clause-write : goal.returns-in-Err-clause-write
returns-in-Err-clause-write g c = λ is.
    rose_new c.new-draft.ensures.failed
    (c.in-Err.ensures.write (ap Err (stopped_writing c.in-Err.stop c.args.word (subst (λ (s : PlayStop). play_status s ≡ status.WriteFault) c.play_stop.ensures is))))
