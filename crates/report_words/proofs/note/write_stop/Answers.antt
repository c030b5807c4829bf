use Rattle.std.proofs.Common.{◌≡◌, ◌∙◌, ◌++◌, ◌∷◌, [], ap}
use Rattle.std.specs.Fmt.{decimal}
use Rattle.std.specs.Prelude.{codes}
use Rattle.std.specs.Io.KnownBytes.{append_known}
use Rattle.site_load.specs.Reasons.{told_text}
use Rattle.log_read.specs.Whys.{why_name}
use Rattle.report_words.proofs.Pieces.{about, refusal}
use Rattle.report_words.proofs.note.write_stop.Goals as goal

pub returns-in-ReadFault : goal.returns-in-ReadFault
returns-in-ReadFault g c = λ clean.
    rw c.in-ReadFault.is
    (rw c.as_bytes.ensures.value at (c.write_about.ensures clean)
    ∙ ap (λ l. append_known (g.N.Sink.taken c.args.notes.now) l) (about (codes "log_report: ") c.in-ReadFault.word.now (codes ": ReadFault") (10 ∷ [])))

pub returns-in-RefusedLine : goal.returns-in-RefusedLine
returns-in-RefusedLine g c = λ clean.
    let told = c.name_alone.result in
    let word = c.in-RefusedLine.word.now in
    let line = c.in-RefusedLine.line in
    let reason : told_text told ≡ why_name c.in-RefusedLine.why = c.name_alone.ensures ∙ c.why_name.ensures in
    rw c.in-RefusedLine.is
    (rw c.as_bytes-in-RefusedLine.ensures.value at (c.write_refusal.ensures clean)
    ∙ ap (λ l. append_known (g.N.Sink.taken c.args.notes.now) l)
    (refusal (codes "log_report: ") word (codes ":") (decimal line) (codes ": ") told.name.now told.blank.now told.first.now told.gap.now told.second.now
    (codes "\n")
    ∙ ap (λ t. (codes "log_report: " ++ (word ++ (58 ∷ decimal line) ++ codes ": " ++ t)) ++ 10 ∷ []) reason))

pub returns-in-WriteFault : goal.returns-in-WriteFault
returns-in-WriteFault g c = λ clean. rw c.in-WriteFault.is (c.write_pieces-in-WriteFault.ensures clean)
