use Rattle.std.proofs.Common.{◌∙◌, ◌++◌, ◌∷◌, [], ap}
use Rattle.std.specs.Fmt.{decimal}
use Rattle.std.specs.Prelude.{codes}
use Rattle.std.specs.Io.KnownBytes.{append_known}
use Rattle.tenth_report.proofs.Notes.{refusal}
use Rattle.tenth_report.proofs.stop.write_note.Goals as goal

pub returns-in-RefusedEntry : goal.returns-in-RefusedEntry
returns-in-RefusedEntry g c = λ clean.
    let name = c.why_name.result.now in
    let word = c.in-RefusedEntry.word.now in
    let line = c.in-RefusedEntry.line in
    rw c.in-RefusedEntry.is
    (rw c.as_bytes.ensures.value at (c.write_refusal.ensures clean)
    ∙ ap (λ l. append_known (g.N.Sink.taken c.args.notes.now) l)
    (refusal (codes "log_report: ") word (codes ":") (decimal line) (codes ": ") name (codes "\n")
    ∙ ap (λ t. (codes "log_report: " ++ (word ++ (58 ∷ decimal line) ++ codes ": " ++ t)) ++ 10 ∷ []) c.why_name.ensures))
