-- What `junction_check` finds in files, and what `run` loads of them.
use Rattle.std.specs.Prelude.{◌≡◌, ℕ, false, List, Option, None, Some, Ok}
use Rattle.sig_io.specs.Outside.{Contents}
use Rattle.sig_types.specs.Counts.{Counts}
use Rattle.det_stream.specs.Answers.{IsStream}
use Rattle.junction_run.specs.Form.{SiteWords}
use Rattle.junction_run.specs.Loading.{LoadsProgram, Playing}
use Rattle.site_findings.specs.declared.finding.Examined.{Examined}
use Rattle.site_check.specs.Call.{has_refused_finding}
use Rattle.site_check.specs.Examined.{IsExamined, has_unread_finding}
use Rattle.site_check.specs.Files.{SiteFiles}

-- by these findings no file is refused, and each could be read
abbrev pub TellsNoRefusal : Examined → Type 0
TellsNoRefusal e = (has_refused_finding e.findings.items ≡ false) × (has_unread_finding e.findings.items ≡ false)

-- the files of the site among these
abbrev pub site_named : SiteFiles → SiteWords
site_named names = record { plan = names.pua; times = names.times; intergreens = names.intergreens }

-- the detector file is accepted to its end, where one is named
abbrev pub AcceptsFrames : Option (List ℕ) → Contents → Type 0
AcceptsFrames None file = Unit {0}
AcceptsFrames (Some name) file = (frames : List Counts) × IsStream (file name) frames None

-- files in which no refusal is found are what a run loads: a program at a site, and a detector file without a refused line
abbrev pub CheckedIsLoaded : Type 0
CheckedIsLoaded = (names : SiteFiles) (file : Contents) (e : Examined) → IsExamined names file e → TellsNoRefusal e →
    ((playing : Playing) × LoadsProgram names.program (site_named names) file (Ok playing)) × AcceptsFrames names.detectors file
