-- The records of a table that are refused beside the first one.
use Rattle.std.specs.Prelude.{ℕ, nat_lt, List, [], ◌++◌, filter, map, Option, Some, None, Result, Ok, Err}
use Rattle.pua_model.specs.Plan.{PlanOf}
use Rattle.table_check.specs.declared.table.Table.{Table}
use Rattle.table_check.specs.declared.table.Table.TheVariants as table
use Rattle.sig_tables.specs.Refusals.{Refusal}
use Rattle.table_check.specs.Refused.{refused_records}
use Rattle.site_findings.specs.declared.finding.FileKind.{FileKind}
use Rattle.site_findings.specs.declared.finding.FileKind.TheVariants as file
use Rattle.site_findings.specs.declared.finding.Finding.{Finding}
use Rattle.site_findings.specs.declared.finding.Refusal.TheVariants as refusal
use Rattle.site_findings.specs.declared.finding.Told.TheVariants as told
use Rattle.site_check.specs.declared.untaken.Untaken.{Untaken}
use Rattle.site_check.specs.declared.untaken.Untaken.TheVariants.{Unread, NotJudged, Refused}
use Rattle.site_check.specs.Found.{told_of}
use Rattle.site_check.specs.Spots.{whole_line}

-- the file that a table is
abbrev pub file_of : Table → FileKind
file_of table.Times = file.Times
file_of table.Intergreens = file.Intergreens

-- a record of a table that is refused
abbrev pub of_record : FileKind → Refusal → Finding
of_record file r = record { file = file; spot = whole_line r.0; told = told.Refused (refusal.Table r.1) }

-- the record behind which others are told: the one that is refused, and none where the table was not judged for want of a plan
abbrev pub behind_of : {A : Type 0} → Result A Untaken → Option ℕ
behind_of (Ok value) = None
behind_of (Err Unread) = None
behind_of (Err NotJudged) = Some 0
behind_of (Err (Refused spot why)) = Some spot.line

-- the refused records behind this one, where there are others to tell and the text was read; without a plan for their fields and
-- numbers alone
unfoldable pub further_part : Table → Option PlanOf → Result (List ℕ) Untaken → Option ℕ → List Finding
further_part t plan (Ok text) (Some behind) =
    map (of_record (file_of t)) (filter (λ r. nat_lt behind r.0) (refused_records t plan text))
further_part t plan (Ok text) None = []
further_part t plan (Err why) behind = []

-- why a table was not taken, and then all other records that are refused
unfoldable pub table_part : {A : Type 0} → Table → Option PlanOf → Result (List ℕ) Untaken → Result A Untaken → List Finding
table_part t plan text judged = told_of (file_of t) judged ++ further_part t plan text (behind_of judged)
