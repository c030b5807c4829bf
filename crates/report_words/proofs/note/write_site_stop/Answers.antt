use Rattle.std.proofs.Common.{◌∙◌, ◌++◌, ◌∷◌, [], ap}
use Rattle.std.specs.Fmt.{decimal}
use Rattle.std.specs.Prelude.{codes}
use Rattle.std.specs.Io.KnownBytes.{append_known}
use Rattle.report_words.proofs.Pieces.{about, refusal}
use Rattle.report_words.proofs.note.write_site_stop.Goals as goal

pub returns-in-ReadFault : goal.returns-in-ReadFault
returns-in-ReadFault g c = λ clean.
    rw c.in-ReadFault.is
    (rw c.as_bytes.ensures.value at (c.write_about.ensures clean)
    ∙ ap (λ l. append_known (g.N.Sink.taken c.args.notes.now) l) (about (codes "log_report: ") c.in-ReadFault.word.now (codes ": ReadFault") (10 ∷ [])))

pub returns-in-Refused : goal.returns-in-Refused
returns-in-Refused g c = λ clean.
    let told = c.reason_told.result in
    let word = c.in-Refused.word.now in
    let line = c.in-Refused.line in
    rw c.in-Refused.is
    (rw c.as_bytes-in-Refused.ensures.value at (c.write_refusal.ensures clean)
    ∙ ap (λ l. append_known (g.N.Sink.taken c.args.notes.now) l)
    (refusal (codes "log_report: ") word (codes ":") (decimal line) (codes ": ") told.name.now told.blank.now told.first.now told.gap.now told.second.now
    (codes "\n")
    ∙ ap (λ t. (codes "log_report: " ++ (word ++ (58 ∷ decimal line) ++ codes ": " ++ t)) ++ 10 ∷ []) c.reason_told.ensures))

pub returns-in-TooLong : goal.returns-in-TooLong
returns-in-TooLong g c = λ clean.
    rw c.in-TooLong.is
    (rw c.as_bytes-in-TooLong.ensures.value at (c.write_about-in-TooLong.ensures clean)
    ∙ ap (λ l. append_known (g.N.Sink.taken c.args.notes.now) l) (about (codes "log_report: ") c.in-TooLong.word.now (codes ": TooLong") (10 ∷ [])))
