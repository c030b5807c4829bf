use Rattle.std.proofs.Common.{◌≡◌, ◌∙◌, ◌++◌, rules, List, ℕ, ap}
use Rattle.std.specs.Fmt.{decimal}
use Rattle.std.specs.Prelude.{codes}
use Rattle.std.specs.Io.KnownBytes.{append_known}
use Rattle.tenth_report.proofs.Notes.{seven}
use Rattle.tenth_report.proofs.stop.write_refusal.Goals as goal

pub returns : goal.returns
returns g c = λ clean.
    let line : List ℕ = c.as_bytes.result.now in
    let digits : line ≡ decimal c.args.line = search rules in
    c.write_pieces.ensures clean ∙ ap (λ l. append_known (g.N.Sink.taken c.args.notes.now) l)
    (seven (codes "log_report: ") c.args.word.now (codes ":") line (codes ": ") c.args.name.now (codes "\n")
    ∙ ap (λ l. codes "log_report: " ++ c.args.word.now ++ codes ":" ++ l ++ codes ": " ++ c.args.name.now ++ codes "\n") digits)
