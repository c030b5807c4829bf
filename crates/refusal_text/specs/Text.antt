-- The text of what was refused in a log.
use Rattle.std.specs.Prelude.{ℕ, Bool, List, if◌then◌else◌}
use Rattle.sig_types.specs.declared.record.Record.{Record}
use Rattle.sig_types.specs.Rules.{Rules}
use Rattle.refusal_text.specs.declared.refusal.Refusal.{Refusal}
use Rattle.refusal_text.specs.Lines.{words_text}
use Rattle.refusal_text.specs.Refusals.{first_known, first_second, refusals_of}
use Rattle.refusal_text.specs.Rows.{table_text}

-- refusals as a table or in words, of groups with these names, where place 0 has this second of the log
unfoldable pub found_text : Bool → List (List ℕ) → ℕ → List Refusal → List ℕ
found_text csv names first found = if csv then table_text names first found else words_text names first found

-- what was refused in the records of a log, in the seconds that are asked for, by the rules of its site
unfoldable pub refusals_text : Bool → List (List ℕ) → Rules → (from to : ℕ) → List Record → List ℕ
refusals_text csv names r from to records =
    found_text csv names (first_known (first_second records)) (refusals_of r from to records)
