-- What the words of a call ask for, as the program holds it.
use Rattle.std.specs.Prelude.{Result, Ok, Err}
use Rattle.log_svg.specs.LookIn.{look_in}
use Rattle.log_svg.specs.Words.{IsLook}
use Rattle.report_seen.specs.declared.diagram_form.Form.{Form}
use Rattle.report_seen.specs.declared.diagram_form.Form.TheVariants as form
use Rattle.report_seen.specs.declared.stop.Stop.{Stop}
use Rattle.report_seen.specs.DiagramForm.{Asked, Diagram, Help, IsWindow, Text, Version}

-- what is asked for, as the definition sees it
abbrev pub asked_in : Form → Asked
asked_in form.Help = Help
asked_in form.Version = Version
asked_in (form.Diagram log window look) = Diagram log.now window (look_in look)
asked_in (form.Text log window) = Text log.now window

-- what is asked for, or why the words are no call
abbrev pub asked_by : Result Form Stop → Result Asked Stop
asked_by (Ok form) = Ok (asked_in form)
asked_by (Err stop) = Err stop

-- the seconds that are asked for are in order, and at most 3,600, and how a diagram is to look has its limits
abbrev pub IsInOrder : Form → Type 0
IsInOrder form.Help = Unit {0}
IsInOrder form.Version = Unit {0}
IsInOrder (form.Diagram log window look) = IsWindow window × IsLook (look_in look)
IsInOrder (form.Text log window) = IsWindow window
