use Rattle.std.proofs.Common.{◌∙◌, ap}
use Rattle.std.specs.Prelude.{codes}
use Rattle.std.specs.Io.KnownBytes.{append_known}
use Rattle.trace_call.specs.Notes.{nearest_text}
use Rattle.trace_call.proofs.Ends.{six}
use Rattle.trace_call.proofs.stop.write_no_name.Goals as goal

pub returns : goal.returns
returns g c = λ clean.
    c.write_pieces.ensures clean ∙ ap (λ l. append_known (g.N.Sink.taken c.args.notes.now) l)
    (six (codes "junction_trace: ") c.args.word.now (codes ": NoName") c.before_nearest.result.now c.args.nearest.now (codes "\n")
    (nearest_text c.args.nearest.now) c.before_nearest.ensures)
