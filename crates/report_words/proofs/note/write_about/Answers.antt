use Rattle.std.proofs.Common.{◌∙◌, ap}
use Rattle.std.specs.Prelude.{codes}
use Rattle.std.specs.Io.KnownBytes.{append_known}
use Rattle.report_words.proofs.Pieces.{three}
use Rattle.report_words.proofs.note.write_about.Goals as goal

pub returns : goal.returns
returns g c = λ clean.
    c.write_pieces.ensures clean ∙ ap (λ l. append_known (g.N.Sink.taken c.args.notes.now) l) (three (codes "log_report: ") c.args.word.now c.args.text.now)
