-- What a call of `log_report protocol` tells of a record.
use Rattle.std.specs.Prelude.{ℕ, Bool, List, [], ◌∷◌, ◌++◌, if◌then◌else◌}
use Rattle.sig_types.specs.Rules.{Rules}
use Rattle.judge_text.specs.declared.tick.Tick.TheVariants.{Tenth}
use Rattle.tenth_records.specs.declared.entry.Entry.{Entry}
use Rattle.tenth_records.specs.Parts.{parts_of}
use Rattle.log_protocol.specs.declared.text.Style.{Style}
use Rattle.log_protocol.specs.declared.text.Style.TheVariants.{Table, Lines}
use Rattle.log_protocol.specs.Came.{extremes}
use Rattle.log_protocol.specs.Parts.{came_in_parts, known_in}
use Rattle.log_protocol.specs.Texts.{came_text, head_text, unknown_text}
use Rattle.tenth_report.specs.Gaps.{gaps_of}

-- the first time of a record
abbrev pub first_time : List Entry → ℕ
first_time [] = 0
first_time (e ∷ es) = e.at

-- a table, or words
abbrev pub style_of : Bool → Style
style_of csv = if csv then Table else Lines

-- the page of a record: what came in its parts, beside what the tables say, and for how long nothing is known
unfoldable pub protocol_of : Style → List (List ℕ) → Rules → List Entry → List ℕ
protocol_of style names rules entries =
    head_text Tenth style (known_in (parts_of entries)) (first_time entries)
    ++ (came_text Tenth style 0 (came_in_parts (parts_of entries)) names rules ++ unknown_text Tenth style (extremes (gaps_of entries)))
