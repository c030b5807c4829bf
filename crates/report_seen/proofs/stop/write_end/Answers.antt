use Rattle.std.proofs.Common.{◌≡◌, ◌∙◌, ◌++◌, rules, List, ℕ, ap}
use Rattle.std.specs.Fmt.{decimal}
use Rattle.std.specs.Prelude.{codes}
use Rattle.std.specs.Io.KnownBytes.{append_known}
use Rattle.report_seen.specs.Notes.{note_of}
use Rattle.report_seen.proofs.NoteTexts.{end_note}
use Rattle.report_seen.proofs.stop.write_end.Goals as goal

pub returns : goal.returns
returns g c = λ clean.
    let log : List ℕ = c.args.log.now in
    let digits : List ℕ = c.as_bytes-2.result.now in
    let number : digits ≡ decimal c.args.last = search rules in
    rw c.as_bytes.ensures.value at (c.write_pieces.ensures clean)
    ∙ ap (λ l. append_known (g.N.Sink.taken c.args.notes.now) l)
    (end_note (codes "log_report: ") log (codes ": LogEnds ") digits (codes "\n")
    ∙ ap (λ n. note_of (log ++ codes ": LogEnds " ++ n)) number)
