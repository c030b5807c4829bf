-- Which bytes of a record the reason to refuse it is about, over the text of the record.
use Rattle.std.specs.Prelude.{ℕ, ◌+◌, ◌==◌, nat_eq, List, [], ◌∷◌, drop, slice_index_or, Option, None, Some, is_none, if◌then◌else◌}
use Rattle.std.specs.List.{starts_with}
use Rattle.sig_types.specs.Text.{number_of, same_name, within}
use Rattle.pua_model.specs.Plan.{PlanOf}
use Rattle.sig_tables.specs.declared.refusal.TableWhy.{TableWhy}
use Rattle.sig_tables.specs.declared.refusal.TableWhy.TheVariants as why
use Rattle.sig_tables.specs.Groups.{group_at}
use Rattle.sig_tables.specs.Records.{Row, field}
use Rattle.table_check.specs.Fields.{fields_in, fields_span}
use Rattle.table_check.specs.declared.table.Table.{Table}
use Rattle.table_check.specs.declared.table.Table.TheVariants.{Times, Intergreens}
use Rattle.table_check.specs.Refused.{headers_in}

-- the words of the longest header of a table
abbrev pub longest_header : Table → List (List ℕ)
longest_header Times = slice_index_or (headers_in Times) 1 []
longest_header Intergreens = slice_index_or (headers_in Intergreens) 0 []

-- the first field from place k on that isn't the word at its place of these; the one behind them, where all are
abbrev pub first_unlike : ℕ → List (List ℕ) → Row → ℕ
first_unlike k [] row = k
first_unlike k (word ∷ words) row = if same_name (field row k) word then first_unlike (k + 1) words row else k

-- the first field of a record that isn't the word of the longest header at its place
abbrev pub header_field : Table → Row → ℕ
header_field table row = first_unlike 0 (longest_header table) row

-- the first number of a record that isn't in its range, where one isn't
abbrev pub number_field : Table → Row → ℕ
number_field Times row =
    if is_none (within 1 255 (number_of (field row 1))) then 1
    else (if is_none (within 0 9 (number_of (field row 2))) then 2 else (if is_none (within 0 9 (number_of (field row 3))) then 3 else 4))
number_field Intergreens row = 2

-- the field of a record of intergreens that names no group of the plan, where one does
abbrev pub pair_field : PlanOf → Row → ℕ
pair_field plan row = if is_none (group_at plan row 0) then 0 else 1

-- the same of a record of a table, where there may be no plan
abbrev pub name_field : Table → Option PlanOf → Row → ℕ
name_field Times plan row = 0
name_field Intergreens None row = 0
name_field Intergreens (Some plan) row = pair_field plan row

-- a byte order mark at the beginning of a text
abbrev pub mark_len : List ℕ → ℕ
mark_len text = if starts_with nat_eq text (239 ∷ 187 ∷ 191 ∷ []) then 3 else 0

-- bytes that stand behind so many others; none stay none
abbrev pub behind : ℕ → ℕ × ℕ → ℕ × ℕ
behind count span = if span.1 == 0 then (0, 0) else (span.0 + count, span.1 + count)

-- one field
abbrev pub field_span : List ℕ → ℕ → ℕ × ℕ
field_span text place = fields_span text place place

-- the field at fault of a header that is none, behind the byte order mark of its text
abbrev pub header_span : Table → List ℕ → ℕ × ℕ
header_span table text =
    behind (mark_len text) (field_span (drop (mark_len text) text) (header_field table (fields_in (drop (mark_len text) text))))

-- the group that a record of times names, or the two groups of one of intergreens
abbrev pub names_span : Table → List ℕ → ℕ × ℕ
names_span Times text = field_span text 0
names_span Intergreens text = fields_span text 0 1

-- from which byte of a record up to which one stands what the reason to refuse it is about: the field that is no word of the header,
-- no number in its range or no group, or what it names; nothing where there are too many or too few fields
abbrev pub fault_span : Table → Option PlanOf → TableWhy → List ℕ → ℕ × ℕ
fault_span table plan why.Header text = header_span table text
fault_span table plan why.Fields text = (0, 0)
fault_span table plan why.Number text = field_span text (number_field table (fields_in text))
fault_span table plan why.UnknownName text = field_span text (name_field table plan (fields_in text))
fault_span table plan why.Twice text = names_span table text
fault_span table plan (why.Missing group) text = (0, 0)
fault_span table plan (why.OneWay from to) text = names_span table text
fault_span table plan why.SelfConflict text = names_span table text
