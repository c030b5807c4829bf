use Rattle.std.proofs.Common.{◌∙◌, ap}
use Rattle.std.specs.Prelude.{codes}
use Rattle.std.specs.Io.KnownBytes.{append_known}
use Rattle.report_seen.proofs.NoteTexts.{unread_note}
use Rattle.report_seen.proofs.stop.write_unread.Goals as goal

pub returns : goal.returns
returns g c = λ clean.
    rw c.as_bytes.ensures.value at (c.write_pieces.ensures clean)
    ∙ ap (λ l. append_known (g.N.Sink.taken c.args.notes.now) l)
    (unread_note (codes "log_report: ") c.args.log.now (codes ": ReadFault") (codes "\n"))
