-- What is meant of the line of a finding.
use Rattle.std.specs.Prelude.{ℕ, ◌==◌, if◌then◌else◌, List, Option, None, Some}
use Rattle.program_advice.specs.declared.advice.Advice.{Advice}
use Rattle.pua_model.specs.Plan.{PlanOf}
use Rattle.pua_lines.specs.declared.spot.Spot.{Spot}
use Rattle.table_check.specs.declared.lines.Begin.{Begin}
use Rattle.table_check.specs.Fields.{fields_span}
use Rattle.table_check.specs.declared.table.Table.{Table}
use Rattle.table_check.specs.declared.table.Table.TheVariants as table
use Rattle.table_check.specs.Faults.{fault_span, names_span}
use Rattle.site_findings.specs.declared.finding.Examined.{Examined}
use Rattle.site_findings.specs.declared.finding.FileKind.{FileKind}
use Rattle.site_findings.specs.declared.finding.FileKind.TheVariants.{Pua, Times, Intergreens, Program, Detectors}
use Rattle.site_findings.specs.declared.finding.Finding.{Finding}
use Rattle.site_findings.specs.declared.finding.Refusal.{Refusal}
use Rattle.site_findings.specs.declared.finding.Refusal.TheVariants as refusal
use Rattle.site_findings.specs.declared.finding.Told.{Told}
use Rattle.site_findings.specs.declared.finding.Told.TheVariants.{Refused, Unread, NotJudged, Warned}

-- these bytes of a record
abbrev pub in_record : Spot → ℕ × ℕ → Spot
in_record spot span = record { line = spot.line; from = span.0; to = span.1 }

-- what a reason to refuse a record is about
abbrev pub fault_in : Table → Option PlanOf → Refusal → Spot → List ℕ → Spot
fault_in t plan (refusal.Pua w) spot text = spot
fault_in t plan (refusal.Table w) spot text = in_record spot (fault_span t plan w text)
fault_in t plan (refusal.Lex w) spot text = spot
fault_in t plan (refusal.Parse w) spot text = spot
fault_in t plan (refusal.Check w) spot text = spot
fault_in t plan (refusal.Stream w) spot text = spot
fault_in t plan refusal.Mark spot text = spot
fault_in t plan refusal.TooLong spot text = spot

-- what a warning of a table is about: the columns of red-amber and amber in the header of times, the two groups of a record of
-- intergreens
abbrev pub warned_span : Table → List ℕ → ℕ × ℕ
warned_span table.Times text = fields_span text 2 3
warned_span table.Intergreens text = names_span table.Intergreens text

-- what is meant of a record of a table
abbrev pub meant_in_table : Table → Option PlanOf → Told → Spot → List ℕ → Spot
meant_in_table t plan (Refused why) spot text = fault_in t plan why spot text
meant_in_table t plan Unread spot text = spot
meant_in_table t plan NotJudged spot text = spot
meant_in_table t plan (Warned w) spot text = in_record spot (warned_span t text)

-- where what is told of a refused program stands, where it is known; else this place
abbrev pub advised_spot : Option Advice → Spot → Spot
advised_spot None spot = spot
advised_spot (Some a) spot = if a.line == 0 then spot else record { line = a.line; from = a.from; to = a.to }

-- where what is told of a program stands that was found at this place
abbrev pub told_spot : Option Advice → Told → Spot → Spot
told_spot advice (Refused why) spot = advised_spot advice spot
told_spot advice Unread spot = spot
told_spot advice NotJudged spot = spot
told_spot advice (Warned w) spot = spot

-- the line of a file, or of a table the record, of which this is told that was found at this place
abbrev pub place_in_file : FileKind → Option Advice → Told → Spot → ℕ
place_in_file Pua advice told spot = spot.line
place_in_file Times advice told spot = spot.line
place_in_file Intergreens advice told spot = spot.line
place_in_file Program advice told spot = (told_spot advice told spot).line
place_in_file Detectors advice told spot = spot.line

-- the same of a finding
abbrev pub told_place : Examined → Finding → ℕ
told_place examined finding = place_in_file finding.file examined.advice finding.told finding.spot

-- what is meant of a line of a file, in a table of a record
abbrev pub meant_in_file : Examined → FileKind → Told → Spot → List ℕ → Spot
meant_in_file examined Pua told spot text = spot
meant_in_file examined Times told spot text = meant_in_table table.Times examined.plan told spot text
meant_in_file examined Intergreens told spot text = meant_in_table table.Intergreens examined.plan told spot text
meant_in_file examined Program told spot text = told_spot examined.advice told spot
meant_in_file examined Detectors told spot text = spot

-- what is meant of the line of a finding, or of the record that begins there; of a record that doesn't begin its line as it was found
abbrev pub meant_spot : Examined → Finding → Begin → List ℕ → Spot
meant_spot examined finding begin text =
    if begin.before == 0 then meant_in_file examined finding.file finding.told finding.spot text else finding.spot
