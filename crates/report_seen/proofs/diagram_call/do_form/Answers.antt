use Rattle.std.proofs.Common.{refl}
use Rattle.log_svg.specs.Diagram.{diagram_text}
use Rattle.log_svg.specs.LookIn.{look_in}
use Rattle.log_svg.specs.ShownIn.{shown_in}
use Rattle.report_seen.specs.DiagramForm.{Diagram, Text}
use Rattle.report_seen.specs.Letters.{letters_text}
use Rattle.report_seen.proofs.DiagramCalls.{answered}
use Rattle.report_seen.proofs.diagram_call.do_form.Goals as goal

pub returns-in-Ok-clause-answered : goal.returns-in-Ok-clause-answered
returns-in-Ok-clause-answered g c file told =
    let d = c.in-Ok.diagram in
    rw c.in-Diagram.is
    (answered (Diagram c.in-Diagram.log.now c.in-Diagram.window (look_in c.in-Diagram.look)) file (diagram_text (shown_in d) (look_in c.in-Diagram.look)) c.write_diagram.result _ _
    (d, c.in-Ok.ensures.gathering file told, refl) c.write_diagram.ensures.written)

pub returns-in-Ok-gather-clause-answered : goal.returns-in-Ok-gather-clause-answered
returns-in-Ok-gather-clause-answered g c file told =
    let d = c.in-Ok-gather.diagram in
    rw c.in-Text.is
    (answered (Text c.in-Text.log.now c.in-Text.window) file (letters_text (shown_in d)) c.write_letters.result _ _
    (d, c.in-Ok-gather.ensures.gathering file told, refl) c.write_letters.ensures.written)
