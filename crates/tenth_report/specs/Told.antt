-- What a call tells of a record.
use Rattle.std.specs.Prelude.{◌≡◌, ℕ, ◌==◌, Bool, true, false, List, [], ◌∷◌, ◌++◌, codes, length, None, Ok, if◌then◌else◌}
use Rattle.std.specs.List.{flat_map}
use Rattle.std.specs.Fmt.{decimal}
use Rattle.std.specs.Str.Lines.{lines}
use Rattle.sig_io.specs.Outside.{Contents}
use Rattle.sig_types.specs.Rules.{Rules}
use Rattle.log_judge.specs.declared.breach.Breach.{Breach}
use Rattle.judge_text.specs.declared.tick.Tick.TheVariants.{Tenth}
use Rattle.judge_text.specs.Ticks.{ticks_text}
use Rattle.judge_text.specs.Rows.{columns_text, row_text}
use Rattle.judge_text.specs.Lines.{line_text}
use Rattle.judge_text.specs.Sums.{sums_text}
use Rattle.tenth_records.specs.declared.entry.Entry.{Entry}
use Rattle.tenth_records.specs.Answers.{record_told}
use Rattle.tenth_records.specs.Header.{header_of}
use Rattle.tenth_records.specs.Names.{plan_of_names}
use Rattle.tenth_records.specs.Parts.{Part, parts_of, unknown_in}
use Rattle.tenth_records.specs.Record.{Told}
use Rattle.log_protocol.specs.Parts.{known_in}
use Rattle.tenth_report.specs.Breaches.{all_breaches, part_breaches}
use Rattle.tenth_report.specs.declared.form.Task.{Task}
use Rattle.tenth_report.specs.declared.form.Task.TheVariants.{Breaches, Protocol}
use Rattle.tenth_report.specs.Form.{Asked}
use Rattle.tenth_report.specs.Protocol.{protocol_of, style_of}
use Rattle.tenth_report.specs.Tables.{rules_at}

-- the breaches of a part whose first time is this and that has so many tenths: a row for each, or a line in words
abbrev pub part_text : Bool → List (List ℕ) → ℕ → ℕ → List Breach → List ℕ
part_text csv names first tenths found =
    if csv then flat_map (row_text names Tenth first) found else flat_map (line_text names Tenth first tenths) found

-- those of a part by these rules
abbrev pub part_told : Bool → List (List ℕ) → Rules → ℕ → Part → List ℕ
part_told csv names rules tolerance part =
    part_text csv names part.first (length part.pictures) (part_breaches rules tolerance part)

-- of how much nothing is known, where there is some
abbrev pub unknown_text : ℕ → List ℕ
unknown_text n = if n == 0 then [] else codes "\nUNKNOWN " ++ ticks_text Tenth n

-- how much was judged and how much isn't known, and how many breaches there are
abbrev pub counts_text : (known unknown : ℕ) → List Breach → List ℕ
counts_text known unknown found =
    codes "SECONDS " ++ ticks_text Tenth known ++ unknown_text unknown ++ codes "\nBREACHES " ++ decimal (length found) ++ codes "\n"

-- the table: a row for each breach, the parts one after the other
unfoldable pub table_of : List (List ℕ) → Rules → ℕ → List Part → List ℕ
table_of names rules tolerance parts = columns_text ++ flat_map (part_told true names rules tolerance) parts

-- the words: a line for each breach, then how much was judged and how much isn't known, how many breaches there are, and how often
-- each rule was broken
unfoldable pub words_of : List (List ℕ) → Rules → ℕ → List Part → ℕ → List ℕ
words_of names rules tolerance parts unknown =
    flat_map (part_told false names rules tolerance) parts ++ counts_text (known_in parts) unknown (all_breaches rules tolerance parts)
    ++ sums_text names (all_breaches rules tolerance parts)

-- the text that is asked for
abbrev pub text_of : Bool → List (List ℕ) → Rules → ℕ → List Part → ℕ → List ℕ
text_of csv names rules tolerance parts unknown =
    if csv then table_of names rules tolerance parts else words_of names rules tolerance parts unknown

-- there are breaches
abbrev pub is_some_breach : List Breach → Bool
is_some_breach [] = false
is_some_breach (x ∷ xs) = true

-- the text that a task asks for, of a record with these entries
abbrev pub told_of : Task → Bool → List (List ℕ) → Rules → List Entry → List ℕ
told_of (Breaches tolerance) csv names rules entries = text_of csv names rules tolerance (parts_of entries) (unknown_in entries)
told_of Protocol csv names rules entries = protocol_of (style_of csv) names rules entries

-- a task asks for breaches, and there are some
abbrev pub is_broken : Task → Rules → List Entry → Bool
is_broken (Breaches tolerance) rules entries = is_some_breach (all_breaches rules tolerance (parts_of entries))
is_broken Protocol rules entries = false

-- The text that is asked for, of files with these contents, and whether there are breaches: the header of the record, the tables
-- and the lines behind the header are accepted.
pub record IsTold (asked : Asked) (file : Contents) (text : List ℕ) (broken : Bool) : Type 0 where
  pub names : List (List ℕ)
  pub header : header_of (lines (file asked.record_file)) ≡ Ok names
  pub rules : Rules
  pub tables : rules_at file asked.times asked.intergreens (plan_of_names names) ≡ Ok rules
  pub told : Told
  pub told_is : told ≡ record_told names (file asked.record_file)
  pub accepted : told.refused ≡ None
  pub text_is : text ≡ told_of asked.task asked.csv names rules told.entries
  pub broken_is : broken ≡ is_broken asked.task rules told.entries
