-- The text of what was found.
use Rattle.std.specs.Prelude.{ℕ, ◌+◌, Bool, true, false, List, [], ◌∷◌, ◌++◌, take, drop, if◌then◌else◌}
use Rattle.log_judge.specs.declared.breach.Breach.{Breach}
use Rattle.judge_text.specs.Rows.{columns_text}
use Rattle.judge_text.specs.Sums.{sums_text}
use Rattle.sig_types.specs.Rules.{Rules}
use Rattle.judge_text.specs.declared.tick.Tick.TheVariants.{Tenth}
use Rattle.log_protocol.specs.Texts.{came_text, head_text, unknown_text}
use Rattle.log_protocol.specs.Totals.{came_at}
use Rattle.tenth_report.specs.declared.gathering.Gathered.{Gathered}
use Rattle.tenth_report.specs.declared.search.Found.{Found}
use Rattle.tenth_report.specs.Protocol.{style_of}
use Rattle.tenth_report.specs.declared.search.JudgedPart.{JudgedPart}
use Rattle.tenth_report.specs.Told.{counts_text, part_text}

-- how many breaches these parts have
unfoldable pub counted : List JudgedPart → ℕ
counted [] = 0
counted (part ∷ parts) = part.count + counted parts

-- what is told of these parts, of which each has as many of the breaches as it counts, one after the other
unfoldable pub kept_text : Bool → List (List ℕ) → List JudgedPart → List Breach → List ℕ
kept_text csv names [] found = []
kept_text csv names (part ∷ parts) found =
    part_text csv names part.first part.tenths (take part.count found) ++ kept_text csv names parts (drop part.count found)

-- the table of what was found
abbrev pub kept_table : List (List ℕ) → Found → List ℕ
kept_table names found = columns_text ++ kept_text true names found.parts.items found.breaches.items

-- the words of what was found
abbrev pub kept_words : List (List ℕ) → Found → List ℕ
kept_words names found =
    kept_text false names found.parts.items found.breaches.items ++ counts_text found.known found.unknown found.breaches.items
    ++ sums_text names found.breaches.items

-- the text of what was found
abbrev pub found_text : Bool → List (List ℕ) → Found → List ℕ
found_text csv names found = if csv then kept_table names found else kept_words names found

-- the text of what was gathered
abbrev pub gathered_text : Bool → List (List ℕ) → Rules → Gathered → List ℕ
gathered_text csv names rules gathered =
    head_text Tenth (style_of csv) gathered.known gathered.first
    ++ (came_text Tenth (style_of csv) 0 (came_at gathered.totals) names rules ++ unknown_text Tenth (style_of csv) gathered.unknown)
