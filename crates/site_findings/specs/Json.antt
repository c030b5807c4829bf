-- Findings as lines of JSON, for tools.
use Rattle.std.specs.Prelude.{ℕ, ◌==◌, nat_lt, if◌then◌else◌, List, [], ◌∷◌, ◌++◌, codes}
use Rattle.std.specs.Fmt.{decimal}
use Rattle.pua_lines.specs.declared.spot.Spot.{Spot}
use Rattle.site_findings.specs.declared.finding.Examined.{Examined}
use Rattle.site_findings.specs.declared.finding.FileKind.{FileKind}
use Rattle.site_findings.specs.declared.finding.Finding.{Finding}
use Rattle.site_findings.specs.declared.finding.SiteNames.{SiteNames}
use Rattle.site_findings.specs.declared.finding.Told.{Told}
use Rattle.site_findings.specs.declared.finding.Told.TheVariants.{Refused, Unread, NotJudged, Warned}
use Rattle.site_findings.specs.Cures.{warning_cure}
use Rattle.site_findings.specs.Escaped.{escaped}
use Rattle.site_findings.specs.Meant.{told_place}
use Rattle.site_findings.specs.ReasonProse.{unread_prose}
use Rattle.site_findings.specs.Reasons.{refusal_subject, refusal_word}
use Rattle.site_findings.specs.Slips.{refusal_prose}
use Rattle.site_findings.specs.Text.{begin_of_finding, column_of, file_name, line_of_finding, meant_of_finding, record_text}
use Rattle.site_findings.specs.Warnings.{warning_name, warning_text}

-- a text of JSON
unfoldable pub json_string : List ℕ → List ℕ
json_string bytes = codes "\"" ++ escaped bytes ++ codes "\""

-- a number that counts from 1; null where it isn't known
unfoldable pub json_number : ℕ → List ℕ
json_number n = if n == 0 then codes "null" else decimal n

-- the last column of what is meant; 0 where it isn't known
unfoldable pub end_of : Spot → ℕ
end_of spot = if nat_lt spot.from spot.to then spot.to else 0

-- `warning` for what a run accepts, and `error` for all else
abbrev pub severity_text : Told → List ℕ
severity_text (Refused refusal) = codes "error"
severity_text Unread = codes "error"
severity_text NotJudged = codes "error"
severity_text (Warned warning) = codes "warning"

-- the word of what is told, and what it speaks of
abbrev pub word_text : Examined → Told → List ℕ
word_text examined (Refused refusal) = refusal_word refusal ++ refusal_subject examined.plan refusal
word_text examined Unread = codes "ReadFault"
word_text examined NotJudged = codes "not-judged"
word_text examined (Warned warning) = warning_name warning

-- what is told of a line of a file, in a sentence
abbrev pub line_sentence : Examined → FileKind → Told → List ℕ → List ℕ
line_sentence examined file (Refused refusal) line = (refusal_prose file refusal examined.advice line).means
line_sentence examined file Unread line = unread_prose.means
line_sentence examined file NotJudged line = codes "not judged, since the PUA file is not accepted"
line_sentence examined file (Warned warning) line = warning_text examined.plan warning

-- the same with the number of the record, where the line is that of a table and has another one
unfoldable pub sentence_text : Examined → Finding → List ℕ
sentence_text examined finding =
    line_sentence examined finding.file finding.told (line_of_finding examined finding)
    ++ record_text (begin_of_finding examined finding).line (told_place examined finding)

-- what to do; nothing of a table that wasn't judged
abbrev pub cure_text : Examined → FileKind → Told → List ℕ → List ℕ
cure_text examined file (Refused refusal) line = (refusal_prose file refusal examined.advice line).cure
cure_text examined file Unread line = unread_prose.cure
cure_text examined file NotJudged line = []
cure_text examined file (Warned warning) line = warning_cure warning

-- where a finding stands
unfoldable pub json_place : List ℕ → ℕ → Spot → List ℕ
json_place name line spot =
    codes "{\"file\":" ++ json_string name ++ codes ",\"line\":" ++ json_number line ++ codes ",\"column\":"
    ++ json_number (column_of spot) ++ codes ",\"end\":" ++ json_number (end_of spot)

-- what is told of it
unfoldable pub json_told : List ℕ → List ℕ → List ℕ → List ℕ → List ℕ
json_told severity word sentence cure =
    codes ",\"severity\":\"" ++ severity ++ codes "\",\"word\":" ++ json_string word ++ codes ",\"sentence\":"
    ++ json_string sentence ++ codes ",\"cure\":" ++ json_string cure ++ codes "}\n"

-- the line of a finding
unfoldable pub json_line : SiteNames → Examined → Finding → List ℕ
json_line names examined finding =
    json_place (file_name names finding.file) (begin_of_finding examined finding).line (meant_of_finding examined finding)
    ++ json_told (severity_text finding.told) (word_text examined finding.told) (sentence_text examined finding)
    (cure_text examined finding.file finding.told (line_of_finding examined finding))

-- the lines of findings, one after the other
abbrev pub json_lines : SiteNames → Examined → List Finding → List ℕ
json_lines names examined [] = []
json_lines names examined (finding ∷ findings) = json_line names examined finding ++ json_lines names examined findings

-- all findings, a line each
abbrev pub json_text : SiteNames → Examined → List ℕ
json_text names examined = json_lines names examined examined.findings.items
