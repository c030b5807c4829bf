-- The notes of calls that judge a log.
use Rattle.std.specs.Prelude.{ℕ, List, [], ◌∷◌, ◌++◌, codes}
use Rattle.std.specs.Fmt.{decimal}
use Rattle.log_read.specs.Whys.{why_name}
use Rattle.site_load.specs.declared.stop.SiteStop.{SiteStop}
use Rattle.site_load.specs.declared.stop.SiteStop.TheVariants as site
use Rattle.site_load.specs.Reasons.{reason_text}
use Rattle.report_words.specs.declared.stop.JudgeStop.{JudgeStop}
use Rattle.report_words.specs.declared.stop.JudgeStop.TheVariants.{Words, Memory, Site, ReadFault, RefusedLine, WriteFault}

-- a note, with the name of the program before it and its line feed
abbrev pub note_of : List ℕ → List ℕ
note_of text = codes "log_report: " ++ text ++ 10 ∷ []

-- FILE:LINE: REASON
abbrev pub line_note : List ℕ → ℕ → List ℕ → List ℕ
line_note word line reason = note_of (word ++ 58 ∷ decimal line ++ codes ": " ++ reason)

-- the note of a site that was not taken
abbrev pub site_note : SiteStop → List ℕ
site_note site.Memory = note_of (codes "Memory")
site_note (site.ReadFault word) = note_of (word.now ++ codes ": ReadFault")
site_note (site.Refused word line reason) = line_note word.now line (reason_text reason)
site_note (site.TooLong word) = note_of (word.now ++ codes ": TooLong")

-- the note of a call that stopped
abbrev pub stop_note : JudgeStop → List ℕ
stop_note Words = note_of (codes "Words")
stop_note Memory = note_of (codes "Memory")
stop_note (Site stop) = site_note stop
stop_note (ReadFault word) = note_of (word.now ++ codes ": ReadFault")
stop_note (RefusedLine word line why) = line_note word.now line (why_name why)
stop_note WriteFault = note_of (codes "WriteFault")
