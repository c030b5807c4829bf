use Rattle.std.proofs.Common.{◌∙◌, ap}
use Rattle.std.specs.Prelude.{codes}
use Rattle.std.specs.Io.KnownBytes.{append_known}
use Rattle.report_seen.specs.Named.{form_limits, form_words}
use Rattle.report_seen.proofs.NoteTexts.{words_note}
use Rattle.report_seen.proofs.stop.write_words.Goals as goal

pub returns-in-Some : goal.returns-in-Some
returns-in-Some g c = λ clean.
    rw c.in-Some.is
    (rw (c.form_words.ensures, c.form_limits.ensures) at (c.write_pieces.ensures clean)
    ∙ ap (λ l. append_known (g.N.Sink.taken c.args.notes.now) l)
    (words_note (codes "log_report: ") (codes "Words: ") (form_words c.in-Some.form) (form_limits c.in-Some.form) (codes ", or --help") (codes "\n")))

pub returns-in-None : goal.returns-in-None
returns-in-None g c = λ clean. rw c.in-None.is (c.write_pieces-in-None.ensures clean)
