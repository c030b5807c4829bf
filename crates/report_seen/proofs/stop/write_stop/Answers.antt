use Rattle.std.proofs.Common.{◌∙◌, ◌++◌, List, ℕ, ap}
use Rattle.std.specs.Fmt.{decimal}
use Rattle.std.specs.Prelude.{codes}
use Rattle.std.specs.Io.KnownBytes.{append_known}
use Rattle.report_seen.specs.Notes.{note_of, right_words, stop_note}
use Rattle.log_read.specs.Whys.{why_name}
use Rattle.report_seen.proofs.stop.write_stop.Goals as goal

pub returns-in-Memory : goal.returns-in-Memory
unfolding stop_note
returns-in-Memory g c = λ clean. rw c.in-Memory.is (c.write_pieces.ensures clean)

pub returns-in-Words : goal.returns-in-Words
unfolding stop_note
returns-in-Words g c = λ clean.
    rw c.in-Words.is
    (c.write_words.ensures clean
    ∙ ap (λ form. append_known (g.N.Sink.taken c.args.notes.now) (note_of (codes "Words: " ++ right_words form))) c.form_begun.ensures)

pub returns-in-TooManySeconds : goal.returns-in-TooManySeconds
unfolding stop_note
returns-in-TooManySeconds g c = λ clean. rw c.in-TooManySeconds.is (c.write_pieces-in-TooManySeconds.ensures clean)

pub returns-in-ReadFault : goal.returns-in-ReadFault
unfolding stop_note
returns-in-ReadFault g c = λ clean.
    rw c.in-ReadFault.is
    (c.write_unread.ensures clean
    ∙ ap (λ (log : List ℕ). append_known (g.N.Sink.taken c.args.notes.now) (note_of (log ++ codes ": ReadFault"))) c.log_named.ensures)

pub returns-in-WriteFault : goal.returns-in-WriteFault
unfolding stop_note
returns-in-WriteFault g c = λ clean. rw c.in-WriteFault.is (c.write_pieces-in-WriteFault.ensures clean)

pub returns-in-Line : goal.returns-in-Line
unfolding stop_note
returns-in-Line g c = λ clean.
    rw c.in-Line.is
    (rw c.why_name.ensures at (c.write_line.ensures clean)
    ∙ ap (λ (log : List ℕ). append_known (g.N.Sink.taken c.args.notes.now)
    (note_of (log ++ codes ":" ++ decimal c.in-Line.line ++ codes ": " ++ why_name c.in-Line.why))) c.log_named-in-Line.ensures)

pub returns-in-LogEnds : goal.returns-in-LogEnds
unfolding stop_note
returns-in-LogEnds g c = λ clean.
    rw c.in-LogEnds.is
    (c.write_end.ensures clean
    ∙ ap (λ (log : List ℕ). append_known (g.N.Sink.taken c.args.notes.now) (note_of (log ++ codes ": LogEnds " ++ decimal c.in-LogEnds.last)))
    c.log_named-in-LogEnds.ensures)
