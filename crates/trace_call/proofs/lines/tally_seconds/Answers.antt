use Rattle.std.proofs.Common.{◌≡◌, [], Ok, Err, subst}
use Rattle.controller.specs.Controls.{logic_of, site_of}
use Rattle.junction_run.specs.Stop.{play_status}
use Rattle.junction_run.specs.declared.status.Status.TheVariants as status
use Rattle.junction_run.specs.declared.stop.PlayStop.{PlayStop}
use Rattle.trace_call.proofs.Counted.{no_writing, none_taken, told_none}
use Rattle.trace_call.proofs.Ends.{played_stop}
use Rattle.trace_call.proofs.lines.tally_seconds.Goals as goal

pub tell_all-requires-clause-begun : goal.tell_all-requires-clause-begun
tell_all-requires-clause-begun g c = c.requires.begun

pub returns-in-Ok-clause-tallied : goal.returns-in-Ok-clause-tallied
returns-in-Ok-clause-tallied g c = λ first stands none knows.
    let told = c.in-Ok.ensures.told first stands none knows in
    (told.0, told.2, λ file e. told.3 file e)

pub returns-in-Ok-clause-nothing : goal.returns-in-Ok-clause-nothing
returns-in-Ok-clause-nothing g c =
    let b = c.requires.begun in
    let start = g.O.Sink.taken c.args.out.now in
    let ctl = c.args.controller.now in
    let told = c.in-Ok.ensures.told b.0 b.1 b.2 b.3 in
    none_taken (Ok tt) _ start _ (told_none (logic_of ctl) (site_of ctl) b.0 told.0) (told.1 start [] (c.new-draft.ensures.text start))

pub returns-in-Err-clause-tallied : goal.returns-in-Err-clause-tallied
returns-in-Err-clause-tallied g c = λ first stands none knows.
    let told = c.in-Err.ensures.told first stands none knows in
    rw c.play_stop.ensures (told.0, told.2, λ file e. played_stop c.in-Err.stop c.args.word _ told.0 (told.3 file e))

pub returns-in-Err-clause-nothing : goal.returns-in-Err-clause-nothing
returns-in-Err-clause-nothing g c =
    let b = c.requires.begun in
    let start = g.O.Sink.taken c.args.out.now in
    let ctl = c.args.controller.now in
    let told = c.in-Err.ensures.told b.0 b.1 b.2 b.3 in
    none_taken (Err c.in-Err.stop) _ start _ (told_none (logic_of ctl) (site_of ctl) b.0 told.0) (told.1 start [] (c.new-draft.ensures.text start))

pub returns-in-Err-clause-no_write : goal.returns-in-Err-clause-no_write
returns-in-Err-clause-no_write g c = λ is.
    let b = c.requires.begun in
    let start = g.O.Sink.taken c.args.out.now in
    let ctl = c.args.controller.now in
    let told = c.in-Err.ensures.told b.0 b.1 b.2 b.3 in
    no_writing c.in-Err.stop _ start _ c.args.word (told_none (logic_of ctl) (site_of ctl) b.0 told.0) (told.1 start [] (c.new-draft.ensures.text start))
    (subst (λ (s : PlayStop). play_status s ≡ status.WriteFault) c.play_stop.ensures is)
