-- How a call that stopped ends, and its note: as a diagram without a site ends, or as the forms that judge a log.
use Rattle.std.specs.Prelude.{ℕ, List}
use Rattle.report_words.specs.declared.status.Status.{Status}
use Rattle.report_words.specs.declared.status.Status.TheVariants as judged
use Rattle.report_words.specs.Notes as judged_notes
use Rattle.report_words.specs.Statuses as judged_statuses
use Rattle.report_seen.specs.declared.stop.Status.{Status as ViewStatus}
use Rattle.report_seen.specs.declared.stop.Status.TheVariants as view
use Rattle.report_seen.specs.Notes as view_notes
use Rattle.report_judged.specs.declared.site_stop.DiagramStop.{DiagramStop}
use Rattle.report_judged.specs.declared.site_stop.DiagramStop.TheVariants.{Log, Judged}

-- how a call ends that stopped as one without a site
abbrev pub view_status : ViewStatus → Status
view_status view.Done = judged.Done
view_status view.Memory = judged.Memory
view_status view.Words = judged.Words
view_status view.ReadFault = judged.ReadFault
view_status view.WriteFault = judged.WriteFault
view_status view.Refused = judged.Refused

-- how a call ends that stopped so
abbrev pub status_of : DiagramStop → Status
status_of (Log stop) = view_status (view_notes.status_of stop)
status_of (Judged stop) = judged_statuses.status_of stop

-- the note of a stop of a call with these words
abbrev pub stop_note : List (List ℕ) → DiagramStop → List ℕ
stop_note words (Log stop) = view_notes.stop_note words stop
stop_note words (Judged stop) = judged_notes.stop_note stop
